use Rattle.std.proofs.Common.{◌+◌, ◌-◌, ◌*◌, ◌^◌, ◌<◌, ◌≤◌, sym, ap, subst, ◌∙◌, arith}
use Rattle.sim_tape.specs.Tape.{number_at, pair_value}
use Rattle.sim_tape.proofs.Growing.{solved_on}
use Rattle.sim_gates.proofs.ReadParts.{complement_halves}
use Rattle.sim_gates.proofs.Pairs.{single, low_is, fits_word, high_below}
use Rattle.sim_gates.proofs.joins.invert.Goals as goal

pub returns-then-bits-le64-clause-says : goal.returns-then-bits-le64-clause-says
returns-then-bits-le64-clause-says c = λ cells ns h fits.
    let is = low_is ns c.args.pair (fits_word (pair_value ns c.args.pair) c.args.bits c.if-bits-le64.true fits) in
    single _ c.in_ok-whole.ensures.extends.new_tape cells ns h c.in_ok-whole.whole
    ∙ c.in_ok-whole.ensures.says cells ns h (subst (λ k. k < 2 ^ c.args.bits) (sym is) fits) ∙ ap (λ k. 2 ^ c.args.bits - 1 - k) is

pub returns-clause-says : goal.returns-clause-says
returns-clause-says c = λ cells ns h fits.
    let at_low = solved_on _ _ c.in_ok-high.ensures.extends cells ns h in
    let far : 64 ≤ c.args.bits = omega arith in
    let words = h.words c.args.pair.low in
    let high = high_below (number_at ns c.args.pair.high) (number_at ns c.args.pair.low) c.args.bits far words fits in
    ap (λ k. k * 2 ^ 64 + number_at ns c.in_ok-low.low) (c.in_ok-high.ensures.says cells ns h high)
    ∙ ap (λ k. (2 ^ (c.args.bits - 64) - 1 - number_at ns c.args.pair.high) * 2 ^ 64 + k) (c.in_ok-low.ensures.says cells ns at_low words)
    ∙ complement_halves (number_at ns c.args.pair.high) (number_at ns c.args.pair.low) c.args.bits far words high
