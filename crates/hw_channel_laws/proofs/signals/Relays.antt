-- Delays add up along a relay.
use Rattle.std.proofs.Common.{◌≡◌, ℕ, zero, suc, ◌+◌, ◌-◌, ◌<◌, cond, eqb, ltb, refl, sym, ap, ◌∙◌, arith, ⊎_elim}
use Rattle.std.proofs.lemmas.Bool.{lt-ltb, le-ltb, eq-eqb, cases_lt, cond-true, cond-false}
use Rattle.hw_channel_laws.specs.signals.Signals.{Signal, Resets}
use Rattle.hw_channel_laws.specs.signals.Relay.{RelayPorts, IsStraight, IsStep, IsRow, IsRelay, Straight, Step, Row, Delays}

-- b is a so many cycles ago, and 0 in the cycles from 1 up to then
abbrev pub Late : ℕ → Signal → Signal → Type 0
Late late a b = (n : ℕ) → 0 < n → b n ≡ cond (ltb late n) (a (n - late)) 0

pub late_none : (a b : Signal) (late : ℕ) → late ≡ 0 → ((n : ℕ) → b n ≡ a n) → Late late a b
late_none a b late e same n h =
    let z : n ≡ n - late = omega (arith, e) in
    same n ∙ ap a z ∙ sym (cond-true (ltb late n) (a (n - late)) 0 (lt-ltb late n (omega (arith, e))))

late_one : (rst : Signal) → Resets rst → (a b : Signal) (late : ℕ) → late ≡ 1 → ((n : ℕ) → b (suc n) ≡ cond (eqb (rst n) 1) 0 (a n)) → Late late a b
late_one rst reset a b late e goes zero h = absurd (omega arith)
late_one rst reset a b late e goes (suc zero) h =
    goes 0 ∙ ap (λ x. cond (eqb x 1) 0 (a 0)) reset.first ∙ sym (cond-false (ltb late 1) (a (1 - late)) 0 (le-ltb late 1 (omega (arith, e))))
late_one rst reset a b late e goes (suc (suc n)) h =
    let z : suc n ≡ suc (suc n) - late = omega (arith, e) in
    goes (suc n) ∙ ap (λ x. cond (eqb x 1) 0 (a (suc n))) (reset.later n) ∙ ap a z
    ∙ sym (cond-true (ltb late (suc (suc n))) (a (suc (suc n) - late)) 0 (lt-ltb late (suc (suc n)) (omega (arith, e))))

late_row : (a b c : Signal) (i j late : ℕ) → late ≡ i + j → Late i a b → Late j b c → Late late a c
late_row a b c i j late e first second n h =
    ⊎_elim
    (λ l.
    let z : n - j - i ≡ n - late = omega (arith, e) in
    second n h ∙ cond-true (ltb j n) (b (n - j)) 0 (lt-ltb j n l) ∙ first (n - j) (omega (arith, l))
    ∙ ⊎_elim
    (λ m. cond-true (ltb i (n - j)) (a (n - j - i)) 0 (lt-ltb i (n - j) m) ∙ ap a z ∙ sym (cond-true (ltb late n) (a (n - late)) 0 (lt-ltb late n (omega (arith, e, m)))))
    (λ m. cond-false (ltb i (n - j)) (a (n - j - i)) 0 (le-ltb i (n - j) m) ∙ sym (cond-false (ltb late n) (a (n - late)) 0 (le-ltb late n (omega (arith, e, m)))))
    (cases_lt i (n - j)))
    (λ l. second n h ∙ cond-false (ltb j n) (b (n - j)) 0 (le-ltb j n l) ∙ sym (cond-false (ltb late n) (a (n - late)) 0 (le-ltb late n (omega (arith, e, l)))))
    (cases_lt j n)

-- the same of other signals with these numbers
pub late_same : (a b a' b' : Signal) (late : ℕ) → ((n : ℕ) → a n ≡ a' n) → ((n : ℕ) → b' n ≡ b n) → Late late a b → Late late a' b'
late_same a b a' b' late from to h n some = to n ∙ h n some ∙ ap (λ x. cond (ltb late n) x 0) (from (n - late))

module _ (rst : Signal) (reset : Resets rst) where
  straight : (late : ℕ) (p : RelayPorts) → late ≡ 0 → IsStraight p → Delays late p
  straight late p e h = record {
    put_late = late_none p.put p.put_late late e h.put_is;
    din_late = λ n le put. let z : n ≡ n - late = omega (arith, e) in h.din_is n ∙ ap p.din z;
    rdy = late_none p.rdy_early p.rdy late e h.rdy_is;
  }

  token_one : (p : RelayPorts) → IsStep rst p → (late n : ℕ) → late ≡ 1 → late < n → p.put (n - late) ≡ 1 → p.din_late n ≡ p.din (n - late)
  token_one p h late zero e le put = absurd (omega arith)
  token_one p h late (suc n) e le put =
      let z : n ≡ suc n - late = omega (arith, e) in
      h.din_goes n ∙ cond-true (eqb (p.put n) 1) (p.din n) (p.din_late n) (eq-eqb (p.put n) 1 (ap p.put z ∙ put)) ∙ ap p.din z

  one : (late : ℕ) (p : RelayPorts) → late ≡ 1 → IsStep rst p → Delays late p
  one late p e h = record {
    put_late = late_one rst reset p.put p.put_late late e h.put_goes;
    din_late = λ n le put. token_one p h late n e le put;
    rdy = late_one rst reset p.rdy_early p.rdy late e h.rdy_goes;
  }

  row : (late : ℕ) (p : RelayPorts) (a b : ℕ) (first second : RelayPorts) → late ≡ a + b → IsRow p first second → Delays a first → Delays b second → Delays late p
  row late p a b first second e h front back = record {
    put_late = late_row p.put second.put p.put_late a b late e
        (late_same first.put first.put_late p.put second.put a h.put_first h.put_second front.put_late)
        (late_same second.put second.put_late second.put p.put_late b (λ n. refl) h.put_last back.put_late);
    din_late = λ n le put.
        let z : n - b - a ≡ n - late = omega (arith, e) in
        let far : a < n - b = omega (arith, e, le) in
        let put_in : first.put (n - b - a) ≡ 1 = h.put_first (n - b - a) ∙ ap p.put z ∙ put in
        let between : second.put (n - b) ≡ 1 =
        h.put_second (n - b) ∙ front.put_late (n - b) (omega (arith, far)) ∙ cond-true (ltb a (n - b)) (first.put (n - b - a)) 0 (lt-ltb a (n - b) far) ∙ put_in in
        h.din_last n ∙ back.din_late n (omega (arith, e, le)) between ∙ h.din_second (n - b) ∙ front.din_late (n - b) far put_in ∙ h.din_first (n - b - a) ∙ ap p.din z;
    rdy = late_row p.rdy_early first.rdy_early p.rdy b a late (omega (arith, e))
        (late_same second.rdy_early second.rdy p.rdy_early first.rdy_early b h.rdy_first h.rdy_second back.rdy)
        (late_same first.rdy_early first.rdy first.rdy_early p.rdy a (λ n. refl) h.rdy_last front.rdy);
  }

  pub delays : (late : ℕ) (p : RelayPorts) → IsRelay rst late p → Delays late p
  delays late p (Straight _ _ e h) = straight late p e h
  delays late p (Step _ _ e h) = one late p e h
  delays late p (Row _ _ a b first second e h front back) = row late p a b first second e h (delays a first front) (delays b second back)
