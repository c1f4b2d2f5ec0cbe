use Rattle.std.proofs.Common.{◌^◌, ◌≤◌, ◌∷◌, ℕ, length, ap, sym, subst, ◌∙◌, arith}
use Rattle.std.proofs.lemmas.Nat.{pow_pos}
use Rattle.std.proofs.Math.Nat.{pow-le-pow_right}
use Rattle.tapa_base.specs.Gaps.{Bytes}
use Rattle.vcd_text.specs.Along.{Stops}
use Rattle.vcd_text.specs.Digits.{AreNewDigits}
use Rattle.vcd_text.proofs.Common.{then_err, before_byte}
use Rattle.vcd_text.proofs.Digits.{room_first}
use Rattle.vcd_text.proofs.Numbers.{new_none, new_one, new_zero, new_stop, found_one, found_zero}
use Rattle.tapa_base.proofs.Got.{map_if_ok as then_ok}
use Rattle.vcd_text.proofs.number.digits.Goals as goal

pub returns-in_default-clause-stop : goal.returns-in_default-clause-stop
returns-in_default-clause-stop c =
    (0, ap (λ (l : Bytes). length l) (sym c.in_default.ensures), subst (λ (z : Bytes). Stops (AreNewDigits c.args.bits c.args.before) z 0) (sym c.in_default.ensures) (new_none c.args.bits c.args.before (omega (arith, c.requires.low))))

pub more_digits-requires-clause-few : goal.more_digits-requires-clause-few
more_digits-requires-clause-few c =
    let top : 2 ^ c.args.bits ≤ 2 ^ 128 = pow-le-pow_right (omega arith) c.requires.high in
    omega (arith, room_first c.args.bits (omega (arith, c.requires.low)), top)

pub returns-then-byte-eq49-clause-found : goal.returns-then-byte-eq49-clause-found
returns-then-byte-eq49-clause-found c = then_ok _ _ c.more_digits.result
    (λ r p. found_one c.args.bits c.args.before r.0 c.in-Some.byte p.0 c.in-Some.rest.now r.1.now c.args.text.now (omega (arith, c.requires.low)) c.if-byte-eq49.true p.1 p.2 c.in-Some.ensures)
    c.more_digits.ensures.found

pub returns-then-byte-eq49-clause-stop : goal.returns-then-byte-eq49-clause-stop
returns-then-byte-eq49-clause-stop c = then_err _ _ c.more_digits.result
    (λ left p. before_byte (AreNewDigits c.args.bits c.args.before) _ 49 c.in-Some.rest.now c.args.text.now left (c.in-Some.ensures ∙ ap (λ (k : ℕ). k ∷ c.in-Some.rest.now) c.if-byte-eq49.true)
    (λ n s. new_one c.args.bits c.args.before c.in-Some.rest.now n (omega (arith, c.requires.low)) s) p) c.more_digits.ensures.stop

pub returns-then-is_zero-clause-found : goal.returns-then-is_zero-clause-found
returns-then-is_zero-clause-found c = then_ok _ _ c.behind_zero.result
    (λ r p. found_zero c.args.bits c.args.before r.0 c.in-Some.byte c.in-Some.rest.now r.1.now c.args.text.now (pow_pos c.args.bits) c.if-is_zero.ensures.0 c.if-is_zero.ensures.1 p.0 p.1 c.in-Some.ensures)
    c.behind_zero.ensures.found

pub returns-then-is_zero-clause-stop : goal.returns-then-is_zero-clause-stop
returns-then-is_zero-clause-stop c = then_err _ _ c.behind_zero.result
    (λ left p. before_byte (AreNewDigits c.args.bits c.args.before) _ 48 c.in-Some.rest.now c.args.text.now left (c.in-Some.ensures ∙ ap (λ (k : ℕ). k ∷ c.in-Some.rest.now) c.if-is_zero.ensures.0)
    (λ n s. new_zero c.args.bits c.args.before c.in-Some.rest.now n c.if-is_zero.ensures.1 s) p) c.behind_zero.ensures.stop

pub returns-else-is_zero-clause-stop : goal.returns-else-is_zero-clause-stop
returns-else-is_zero-clause-stop c =
    (0, omega arith, subst (λ (z : Bytes). Stops (AreNewDigits c.args.bits c.args.before) z 0) (sym c.in-Some.ensures) (new_stop c.args.bits c.args.before c.in-Some.byte c.in-Some.rest.now (omega (arith, c.requires.low)) c.if-byte-eq49.false c.if-is_zero.ensures))
