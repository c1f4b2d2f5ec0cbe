use Rattle.std.proofs.Common.{◌∷◌, ℕ, length, ap, sym, subst, ◌∙◌, arith}
use Rattle.tapa_base.specs.Gaps.{Bytes}
use Rattle.vcd_text.specs.Along.{Stops}
use Rattle.vcd_text.proofs.Common.{then_err, before_byte}
use Rattle.vcd_text.proofs.Numbers.{IsWord, word_none, word_stop, word_next}
use Rattle.vcd_text.proofs.number.word.Goals as goal

pub returns-in_default-clause-stop : goal.returns-in_default-clause-stop
returns-in_default-clause-stop c =
    (0, ap (λ (l : Bytes). length l) (sym c.in_default.ensures), subst (λ (z : Bytes). Stops (IsWord c.args.bits c.args.before) z 0) (sym c.in_default.ensures) (word_none c.args.bits c.args.before (omega (arith, c.requires.low))))

pub returns-then-byte-ne98-clause-stop : goal.returns-then-byte-ne98-clause-stop
returns-then-byte-ne98-clause-stop c =
    (0, omega arith, subst (λ (z : Bytes). Stops (IsWord c.args.bits c.args.before) z 0) (sym c.in-Some.ensures) (word_stop c.args.bits c.args.before c.in-Some.byte c.in-Some.rest.now (omega (arith, c.requires.low)) c.if-byte-ne98.true))

pub returns-clause-stop : goal.returns-clause-stop
returns-clause-stop c = then_err _ _ c.digits.result
    (λ left p. before_byte (IsWord c.args.bits c.args.before) _ 98 c.in-Some.rest.now c.args.text.now left (c.in-Some.ensures ∙ ap (λ (k : ℕ). k ∷ c.in-Some.rest.now) c.if-byte-ne98.false)
    (word_next c.args.bits c.args.before c.in-Some.rest.now) p) c.digits.ensures.stop
