use Rattle.std.proofs.Common.{◌≡◌, ◌+◌, ◌-◌, ◌/◌, ◌%◌, ◌^◌, ap, ◌∙◌, arith}
use Rattle.sim_tape.specs.Tape.{number_at, pair_value}
use Rattle.sim_gates.proofs.Pairs.{low_part_says, high_part_says}
use Rattle.sim_gates.proofs.atoms.part.Goals as goal

pub returns-then-high-lt64-clause-says : goal.returns-then-high-lt64-clause-says
returns-then-high-lt64-clause-says c = λ cells ns h.
    c.in_ok-below.ensures.says cells ns h
    ∙ low_part_says (number_at ns c.args.pair.high) (number_at ns c.args.pair.low) c.args.low c.args.high _ (h.words c.args.pair.low) c.requires.order c.if-high-lt64.true (omega arith)

pub returns-then-low-ge64-clause-says : goal.returns-then-low-ge64-clause-says
returns-then-low-ge64-clause-says c = λ cells ns h.
    c.in_ok-above.ensures.says cells ns h
    ∙ high_part_says (number_at ns c.args.pair.high) (number_at ns c.args.pair.low) c.args.low c.args.high _ (h.words c.args.pair.low) (omega arith) (omega arith)

pub returns-clause-says : goal.returns-clause-says
returns-clause-says c = λ cells ns h.
    let e : c.args.high - c.args.low + 1 ≡ c.args.high + 1 - c.args.low = omega arith in
    c.in_ok-across.ensures.says cells ns h ∙ ap (λ k. pair_value ns c.args.pair / 2 ^ c.args.low % 2 ^ k) e
