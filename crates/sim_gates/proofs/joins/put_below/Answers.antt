use Rattle.std.proofs.Common.{◌≡◌, ◌+◌, ◌*◌, ◌^◌, ◌<◌, sym, ap, ◌∙◌, arith}
use Rattle.sim_tape.specs.Tape.{number_at, pair_value}
use Rattle.sim_gates.proofs.Pairs.{low_is, none_above, fits_word, both_fit_word}
use Rattle.tapa_base.proofs.Tests.{join_fits}
use Rattle.sim_gates.proofs.joins.put_below.Goals as goal

pub returns-then-above_bits-eq0-clause-says : goal.returns-then-above_bits-eq0-clause-says
returns-then-above_bits-eq0-clause-says c = λ cells ns h above below. none_above (pair_value ns c.args.above) c.args.above_bits (pair_value ns c.args.below) c.args.below_bits c.if-above_bits-eq0.true above

pub returns-then-bits-le64-clause-says : goal.returns-then-bits-le64-clause-says
returns-then-bits-le64-clause-says c = λ cells ns h above below.
    c.in_ok-one.ensures.says cells ns h (both_fit_word (pair_value ns c.args.above) (pair_value ns c.args.below) c.args.above_bits c.args.below_bits (omega arith) above below)

pub returns-then-below_bits-eq64-clause-says : goal.returns-then-below_bits-eq64-clause-says
returns-then-below_bits-eq64-clause-says c = λ cells ns h above below.
    let is : c.args.below_bits ≡ 64 = c.if-below_bits-eq64.true in
    let low : pair_value ns c.args.below < 2 ^ 64 = fits_word (pair_value ns c.args.below) c.args.below_bits (omega arith) below in
    let high : pair_value ns c.args.above < 2 ^ 64 = fits_word (pair_value ns c.args.above) c.args.above_bits (omega (arith, c.requires.bits)) above in
    ap (λ k. k * 2 ^ 64 + number_at ns c.args.below.low) (low_is ns c.args.above high) ∙ ap (λ k. pair_value ns c.args.above * 2 ^ 64 + k) (low_is ns c.args.below low)
    ∙ ap (λ k. pair_value ns c.args.above * 2 ^ k + pair_value ns c.args.below) (sym is)

pub returns-clause-says : goal.returns-clause-says
returns-clause-says c = λ cells ns h above below.
    c.in_ok-two.ensures.says cells ns h (join_fits (pair_value ns c.args.above) (pair_value ns c.args.below) c.args.above_bits c.args.below_bits above below)
