-- Lists of the numbers below a bound that pass a test, and the order of lists.
use Rattle.std.proofs.Common.{◌≡◌, ℕ, zero, suc, ◌+◌, ◌<◌, ◌≤◌, ◌⊎◌, inl, inr, Bool, true, false, List, [], ◌∷◌, ◌++◌, length, get_or, refl, sym, ap, subst, ◌∙◌, arith, ⊎_elim, length-append}
use Rattle.std.proofs.lemmas.Bool.{cases_lt, false≢true}
use Rattle.std.proofs.lemmas.List.{get_or_append_left, get_or_push}
use Rattle.task_graph.specs.Arcs.{total}
use Rattle.slot_plan.specs.Least.{NotAfter}
use Rattle.slot_plan.specs.Merging.{AreThose, one}
use Rattle.slot_plan.proofs.Parts.{one_same, one_other}
use Rattle.flow_cert.proofs.Sums.{total_same, total_zero}
use Rattle.slot_plan.proofs.Sums.{total_but}

pub those_past : (n : ℕ) (test : ℕ → Bool) (xs : List ℕ) → test n ≡ false → AreThose n test xs → AreThose (n + 1) test xs
those_past n test xs fails h = record {
  inside = λ i l. (let a = h.inside i l in omega arith);
  pass = h.pass;
  rising = h.rising;
  all = λ x l e. ⊎_elim
      (λ (k : x < n). h.all x k e)
      (λ (k : n ≤ x). let is : n ≡ x = omega arith in absurd (false≢true (sym fails ∙ (ap test is ∙ e))))
      (cases_lt x n);
}

-- one more at the end
pub those_push : (n : ℕ) (test : ℕ → Bool) (xs : List ℕ) → test n ≡ true → AreThose n test xs → AreThose (n + 1) test (xs ++ n ∷ [])
those_push n test xs passes h =
    let long : length (xs ++ n ∷ []) ≡ length xs + 1 = (let y = length-append xs (n ∷ []) in omega arith) in
    let last = get_or_push xs n 0 (length xs) refl in
    let at_end : (i : ℕ) → length xs ≤ i → i < length (xs ++ n ∷ []) → get_or (xs ++ n ∷ []) i 0 ≡ n =
    (λ i k l. (let e : i ≡ length xs = omega arith in ap (λ (j : ℕ). get_or (xs ++ n ∷ []) j 0) e ∙ last)) in
    record {
      inside = λ i l. ⊎_elim
          (λ (k : i < length xs). let a = get_or_append_left xs (n ∷ []) 0 i k in let b = h.inside i k in omega arith)
          (λ (k : length xs ≤ i). let a = at_end i k l in omega arith)
          (cases_lt i (length xs));
      pass = λ i l. ⊎_elim
          (λ (k : i < length xs). ap test (get_or_append_left xs (n ∷ []) 0 i k) ∙ h.pass i k)
          (λ (k : length xs ≤ i). ap test (at_end i k l) ∙ passes)
          (cases_lt i (length xs));
      rising = λ i j lt l. (
          let ki : i < length xs = omega arith in
          let a = get_or_append_left xs (n ∷ []) 0 i ki in
          ⊎_elim
          (λ (k : j < length xs). let b = get_or_append_left xs (n ∷ []) 0 j k in let c = h.rising i j lt k in omega arith)
          (λ (k : length xs ≤ j). let b = at_end j k l in let c = h.inside i ki in omega arith)
          (cases_lt j (length xs)));
      all = λ x l e. ⊎_elim
          (λ (k : x < n).
          let w = h.all x k e in
          (w.0, let i = w.1 in omega arith, get_or_append_left xs (n ∷ []) 0 w.0 w.1 ∙ w.2))
          (λ (k : n ≤ x). let is : n ≡ x = omega arith in (length xs, omega arith, last ∙ is))
          (cases_lt x n);
    }

-- two places of one number are the same
pub those_apart : (n : ℕ) (test : ℕ → Bool) (xs : List ℕ) (i j : ℕ) → AreThose n test xs → i < length xs → j < length xs → get_or xs i 0 ≡ get_or xs j 0 → i ≡ j
those_apart n test xs i j h li lj e =
    ⊎_elim
    (λ (l : i < j). absurd (let a = h.rising i j l lj in omega arith))
    (λ (l : j ≤ i). ⊎_elim
    (λ (k : j < i). absurd (let a = h.rising j i k li in omega arith))
    (λ (k : i ≤ j). omega arith)
    (cases_lt j i))
    (cases_lt i j)

-- a number that passes is counted once, and another never
pub those_count : (n : ℕ) (test : ℕ → Bool) (xs : List ℕ) (x : ℕ) → AreThose n test xs → x < n → test x ≡ true → total (length xs) (λ k. one (get_or xs k 0) x) ≡ 1
those_count n test xs x h l e =
    let w = h.all x l e in
    let a = total_but (length xs) w.0 1 (λ k. 0) (λ k. one (get_or xs k 0) x) w.1
    (λ k lk ne. one_other (get_or xs k 0) x (λ (q : get_or xs k 0 ≡ x). ne (those_apart n test xs k w.0 h lk w.1 (q ∙ sym w.2))))
    (let o = one_same (get_or xs w.0 0) x w.2 in omega arith) in
    let z = total_zero (length xs) in omega arith

pub those_count_none : (n : ℕ) (test : ℕ → Bool) (xs : List ℕ) (x : ℕ) → AreThose n test xs → test x ≡ false → total (length xs) (λ k. one (get_or xs k 0) x) ≡ 0
those_count_none n test xs x h e =
    total_same (length xs) _ _ (λ k lk. one_other (get_or xs k 0) x (λ (q : get_or xs k 0 ≡ x). false≢true (sym e ∙ (ap test (sym q) ∙ h.pass k lk))))
    ∙ total_zero (length xs)

-- ---- the order of lists of one length

abbrev pub Differ : List ℕ → List ℕ → Type 0
Differ xs ys = (i : ℕ) × (i < length xs) × (get_or xs i 0 < get_or ys i 0) × ((j : ℕ) → j < i → get_or xs j 0 ≡ get_or ys j 0)

abbrev pub Agree : List ℕ → List ℕ → Type 0
Agree xs ys = (i : ℕ) → i < length xs → get_or xs i 0 ≡ get_or ys i 0

agree_more : (x y : ℕ) (xs ys : List ℕ) → x ≡ y → ((i : ℕ) → i < length xs → get_or xs i 0 ≡ get_or ys i 0) → (i : ℕ) → i < length (x ∷ xs) → get_or (x ∷ xs) i 0 ≡ get_or (y ∷ ys) i 0
agree_more x y xs ys e h zero l = e
agree_more x y xs ys e h (suc i) l = h i (omega arith)

before_more : (x y : ℕ) (xs ys : List ℕ) (i : ℕ) → x ≡ y → ((j : ℕ) → j < i → get_or xs j 0 ≡ get_or ys j 0) → (j : ℕ) → j < suc i → get_or (x ∷ xs) j 0 ≡ get_or (y ∷ ys) j 0
before_more x y xs ys i e h zero l = e
before_more x y xs ys i e h (suc j) l = h j (omega arith)

pub order_cases : (xs ys : List ℕ) → length xs ≡ length ys → NotAfter xs ys → Agree xs ys ⊎ Differ xs ys
order_cases [] ys e h = inl (λ i l. absurd (omega arith))
order_cases (x ∷ xs) [] e h = absurd h
order_cases (x ∷ xs) (y ∷ ys) e h =
    ⊎_elim
    (λ (l : x < y). inr (0, omega arith, l, λ j lj. absurd (omega arith)))
    (λ (w : (x ≡ y) × NotAfter xs ys).
    ⊎_elim
    (λ (a : Agree xs ys). inl (agree_more x y xs ys w.0 a))
    (λ (d : Differ xs ys). inr (suc d.0, let l = d.1 in omega arith, d.2, before_more x y xs ys d.0 w.0 d.3))
    (order_cases xs ys (omega arith) w.1))
    h

pub agree_order : (xs ys : List ℕ) → length xs ≡ length ys → Agree xs ys → NotAfter xs ys
agree_order [] ys e h = tt
agree_order (x ∷ xs) [] e h = absurd (omega arith)
agree_order (x ∷ xs) (y ∷ ys) e h = inr (h 0 (omega arith), agree_order xs ys (omega arith) (λ i l. h (suc i) (omega arith)))

pub differ_order : (xs ys : List ℕ) (i : ℕ) → length xs ≡ length ys → i < length xs → get_or xs i 0 < get_or ys i 0 → ((j : ℕ) → j < i → get_or xs j 0 ≡ get_or ys j 0) → NotAfter xs ys
differ_order [] ys i e l d h = absurd (omega arith)
differ_order (x ∷ xs) [] i e l d h = absurd (omega arith)
differ_order (x ∷ xs) (y ∷ ys) zero e l d h = inl d
differ_order (x ∷ xs) (y ∷ ys) (suc i) e l d h = inr (h 0 (omega arith), differ_order xs ys i (omega arith) (omega arith) d (λ j lj. h (suc j) (omega arith)))

-- one more number, if it passes
pub those_step : (n : ℕ) (test : ℕ → Bool) (xs ys : List ℕ) (b : Bool) → b ≡ test n → (b ≡ true → ys ≡ xs ++ n ∷ []) → (b ≡ false → ys ≡ xs) → AreThose n test xs → AreThose (n + 1) test ys
those_step n test xs ys true e took never h = subst (AreThose (n + 1) test) (sym (took refl)) (those_push n test xs (sym e) h)
those_step n test xs ys false e took never h = subst (AreThose (n + 1) test) (sym (never refl)) (those_past n test xs (sym e) h)
