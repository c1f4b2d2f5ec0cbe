-- Printed lines come to the equations.
use Rattle.std.proofs.Common.{◌≡◌, ℕ, zero, suc, ◌+◌, ◌-◌, ◌%◌, ◌^◌, ◌<◌, ◌&&◌, cond, eqb, ltb, refl, sym, ap, ◌∙◌, arith, rules, ⊎_elim}
use Rattle.std.proofs.lemmas.Bool.{lt-ltb, eq-eqb, ne_eqb, cases_eq}
use Rattle.std.proofs.Math.Nat.{mod_self}
use Rattle.hw_channel_laws.specs.signals.Fifo.{FifoSizes, next_place}
use Rattle.hw_channel_laws.specs.signals.Printed.{BitsAre, NextPlaceIs}
use Rattle.hw_channel_laws.proofs.signals.Pointers.{bit_is}

pub bits : (a b : ℕ) → a < 2 → b < 2 → BitsAre a b
bits zero zero h k = record { both_are = refl; inverse_is = refl }
bits zero (suc zero) h k = record { both_are = refl; inverse_is = refl }
bits (suc zero) zero h k = record { both_are = refl; inverse_is = refl }
bits (suc zero) (suc zero) h k = record { both_are = refl; inverse_is = refl }
bits (suc (suc a)) b h k = absurd (omega arith)
bits a (suc (suc b)) h k = absurd (omega arith)

turns : (s : FifoSizes) (p : ℕ) → s.places ≡ 2 ^ s.place_bits → (p + 1) % 2 ^ s.place_bits ≡ next_place s p
turns s p e =
    ⊎_elim
    (λ l.
    let some : 0 < 2 ^ s.place_bits = search (arith, rules) in
    let up : p + 1 ≡ 2 ^ s.place_bits = omega (arith, l, e, some) in
    ap (λ x. x % 2 ^ s.place_bits) up ∙ mod_self (2 ^ s.place_bits) ∙ sym (ap (λ b. cond b 0 ((p + 1) % 2 ^ s.place_bits)) (eq-eqb p (s.places - 1) l)))
    (λ l. sym (ap (λ b. cond b 0 ((p + 1) % 2 ^ s.place_bits)) (ne_eqb p (s.places - 1) l)))
    (cases_eq p (s.places - 1))

stays : (places place_bits p : ℕ) → places ≡ 1 → place_bits ≡ 1 → p < 2 → 0 ≡ cond (eqb p (places - 1)) 0 ((p + 1) % 2 ^ place_bits)
stays places place_bits zero e f h = sym (ap (λ n. cond (eqb 0 (n - 1)) 0 (1 % 2 ^ place_bits)) e)
stays places place_bits (suc zero) e f h = sym (ap (λ n. cond (eqb 1 (n - 1)) 0 (2 % 2 ^ place_bits)) e ∙ ap (λ k. 2 % 2 ^ k) f)
stays places place_bits (suc (suc p)) e f h = absurd (omega arith)

pub next_is : (s : FifoSizes) (p : ℕ) → NextPlaceIs s p
next_is s p = record {
  all = turns s p;
  one = stays s.places s.place_bits p;
  some = ap (λ b. cond b 0 ((p + 1) % 2 ^ s.place_bits)) (bit_is (eqb p (s.places - 1)));
}

pub stores : (places a place : ℕ) → a < places → (eqb a place && ltb place places) ≡ eqb a place
stores places a place h =
    ⊎_elim
    (λ e. ap (λ b. b && ltb place places) (eq-eqb a place e) ∙ lt-ltb place places (omega (arith, e, h)) ∙ sym (eq-eqb a place e))
    (λ e. ap (λ b. b && ltb place places) (ne_eqb a place e) ∙ sym (ne_eqb a place e))
    (cases_eq a place)
