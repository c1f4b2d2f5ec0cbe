-- The registers of a FIFO in one cycle.
use Rattle.std.proofs.Common.{◌≡◌, ℕ, suc, ◌+◌, ◌-◌, ◌%◌, ◌^◌, ◌<◌, ◌≤◌, Bool, true, false, cond, eqb, ltb, refl, sym, ap, ◌∙◌, arith, ⊎_elim}
use Rattle.std.proofs.lemmas.Bool.{lt-ltb, le-ltb, eq-eqb, ne_eqb, cases_lt, cases_eq}
use Rattle.std.proofs.Math.Nat.{add-mod_right, mod-eq_of_lt}
use Rattle.tapa_base.specs.Operators.{bit}
use Rattle.hw_channel_laws.specs.signals.Fifo.{FifoSizes, SizesFit, next_place, next_count}
use Rattle.hw_channel_laws.proofs.signals.Places.{wrap, wrap_lt, wrap_last, wrap_more}

-- a bit of a test is 1 where the test holds
pub told : (t : Bool) (b : ℕ) → b ≡ bit t → b ≡ 1 → t ≡ true
told true b e f = refl
told false b e f = let h : ◌≡◌ {A = ℕ} 0 1 = sym e ∙ f in absurd (omega arith)

pub bit_is : (t : Bool) → eqb (bit t) 1 ≡ t
bit_is true = refl
bit_is false = refl

pub some_left : (x r : ℕ) → bit (cond (eqb (x - r) 0) false true) ≡ bit (ltb r x)
some_left x r =
    ⊎_elim
    (λ l. ap (λ b. bit (cond b false true)) (ne_eqb (x - r) 0 (λ z. omega (arith, l, z))) ∙ sym (ap bit (lt-ltb r x l)))
    (λ l. ap (λ b. bit (cond b false true)) (eq-eqb (x - r) 0 (omega (arith, l))) ∙ sym (ap bit (le-ltb r x l)))
    (cases_lt r x)

pub fewer_than : (x r d : ℕ) → r ≤ x → ltb (x - r) d ≡ ltb x (r + d)
fewer_than x r d h =
    ⊎_elim
    (λ l. lt-ltb (x - r) d (omega (arith, l, h)) ∙ sym (lt-ltb x (r + d) l))
    (λ l. le-ltb (x - r) d (omega (arith, l, h)) ∙ sym (le-ltb x (r + d) l))
    (cases_lt x (r + d))

-- numbers that go up by one at most
pub low_stays : (p g : Bool) (x r : ℕ) → r ≤ x → (g ≡ true → r < x) → cond g (r + 1) r ≤ cond p (x + 1) x
low_stays true true x r h t = omega arith
low_stays true false x r h t = omega arith
low_stays false true x r h t = let l = t refl in omega arith
low_stays false false x r h t = h

pub high_stays : (p g : Bool) (x r d : ℕ) → x ≤ r + d → (p ≡ true → x < r + d) → cond p (x + 1) x ≤ cond g (r + 1) r + d
high_stays true true x r d h t = omega arith
high_stays true false x r d h t = let l = t refl in omega arith
high_stays false true x r d h t = omega arith
high_stays false false x r d h t = h

module _ (s : FifoSizes) (fits : SizesFit s) where
  some : 0 < s.places
  some = omega (arith, fits.some, fits.within)

  goes_on : (p r : ℕ) → p ≡ wrap s.places r → next_place s p ≡ wrap s.places (suc r)
  goes_on p r e =
      let low : wrap s.places r < s.places = wrap_lt s.places r some in
      let fit = fits.place_fits in
      ap (next_place s) e
      ∙ ⊎_elim
      (λ l. ap (λ b. cond b 0 ((wrap s.places r + 1) % 2 ^ s.place_bits)) (eq-eqb (wrap s.places r) (s.places - 1) l) ∙ sym (wrap_last s.places r l))
      (λ l.
      let small : wrap s.places r + 1 < 2 ^ s.place_bits = omega (arith, l, low, fit) in
      ap (λ b. cond b 0 ((wrap s.places r + 1) % 2 ^ s.place_bits)) (ne_eqb (wrap s.places r) (s.places - 1) l) ∙ mod-eq_of_lt small ∙ sym (wrap_more s.places r l))
      (cases_eq (wrap s.places r) (s.places - 1))

  pub pointer_goes : (b : Bool) (p r : ℕ) → p ≡ wrap s.places r → cond b (next_place s p) p ≡ wrap s.places (cond b (r + 1) r)
  pointer_goes true p r e = let one : suc r ≡ r + 1 = omega arith in goes_on p r e ∙ ap (wrap s.places) one
  pointer_goes false p r e = e

  pub count_goes : (p g : Bool) (c x r : ℕ) → c ≡ x - r → r ≤ x → x ≤ r + s.places → (p ≡ true → x < r + s.places) → (g ≡ true → r < x) → next_count s p g c ≡ cond p (x + 1) x - cond g (r + 1) r
  count_goes true true c x r e low high pt gt = omega arith
  count_goes true false c x r e low high pt gt =
      let room = pt refl in
      let fit = fits.count_fits in
      let small : c + 1 < 2 ^ s.count_bits = omega (arith, room, fit, e) in
      mod-eq_of_lt small ∙ omega arith
  count_goes false true c x r e low high pt gt =
      let more = gt refl in
      let fit = fits.count_fits in
      let turn : c + 2 ^ s.count_bits - 1 ≡ (c - 1) + 2 ^ s.count_bits = omega (arith, more, e) in
      let small : c - 1 < 2 ^ s.count_bits = omega (arith, high, fit, e) in
      ap (λ y. y % 2 ^ s.count_bits) turn ∙ add-mod_right (c - 1) (2 ^ s.count_bits) ∙ mod-eq_of_lt small ∙ omega (arith, e, more)
  count_goes false false c x r e low high pt gt = e
