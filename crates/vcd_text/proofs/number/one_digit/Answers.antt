use Rattle.std.proofs.Common.{◌≡◌, ◌+◌, ◌<◌, ℕ, length, ap, sym, subst, ◌∙◌, true, arith}
use Rattle.tapa_base.specs.Gaps.{Bytes}
use Rattle.vcd_text.specs.Along.{Stops}
use Rattle.vcd_text.specs.Lines.{is_new}
use Rattle.vcd_text.proofs.Common.{not_both}
use Rattle.vcd_text.proofs.Numbers.{IsBit, bit_none, bit_stop}
use Rattle.vcd_text.proofs.number.one_digit.Goals as goal
use Rattle.vcd_text.proofs.number.one_digit.Goals.{then-byte-lt48-via-then-byte-lt48, then-byte-lt48-via-else-byte-lt48+then-byte-gt49}

pub returns-in_default-clause-stop : goal.returns-in_default-clause-stop
returns-in_default-clause-stop c =
    (0, ap (λ (l : Bytes). length l) (sym c.in_default.ensures), subst (λ (z : Bytes). Stops (IsBit c.args.before) z 0) (sym c.in_default.ensures) (bit_none c.args.before))

pub returns-then-byte-lt48-clause-stop : goal.returns-then-byte-lt48-clause-stop
returns-then-byte-lt48-clause-stop c =
    let never : (v : ℕ) → v < 2 → c.in-Some.byte ≡ 48 + v → is_new c.args.before v ≡ true → ⊥ = λ v q e new.
    elim c.then-byte-lt48.branch [ then-byte-lt48-via-then-byte-lt48 w ↦ omega (arith, w.if-byte-lt48.true, e) | then-byte-lt48-via-else-byte-lt48+then-byte-gt49 w ↦ omega (arith, w.if-byte-gt49.true, e) ] in
    (0, omega arith, subst (λ (z : Bytes). Stops (IsBit c.args.before) z 0) (sym c.in-Some.ensures) (bit_stop c.args.before c.in-Some.byte c.in-Some.rest.now never))

pub returns-else-is_new-clause-stop : goal.returns-else-is_new-clause-stop
returns-else-is_new-clause-stop c =
    let never : (v : ℕ) → v < 2 → c.in-Some.byte ≡ 48 + v → is_new c.args.before v ≡ true → ⊥ = λ v q e new.
    not_both (is_new c.args.before v) new (ap (λ (k : ℕ). is_new c.args.before k) (omega (arith, e, c.from-value.ensures)) ∙ sym c.if-is_new.ensures) in
    (0, omega arith, subst (λ (z : Bytes). Stops (IsBit c.args.before) z 0) (sym c.in-Some.ensures) (bit_stop c.args.before c.in-Some.byte c.in-Some.rest.now never))
