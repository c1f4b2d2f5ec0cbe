-- How a visit of all nodes goes on.
use Rattle.std.proofs.Common.{◌≡◌, ℕ, zero, suc, ◌+◌, ◌-◌, ◌<◌, ◌≤◌, List, [], ◌∷◌, ◌++◌, length, get_or, take, inl, inr, refl, sym, ap, subst, ◌∙◌, arith}
use Rattle.std.specs.Prelude.{◌⊎◌, ◌≢◌, slice_set}
use Rattle.std.proofs.lemmas.Bool.{cases_eq, cases_lt}
use Rattle.std.proofs.lemmas.List.{get_or-set_same, get_or-set_other, length-set, get_or_append_left, get_or_push, get_or_past, get_or-take, length_push, length-take-le, take-append-le, take_at}
use Rattle.tapa_base.specs.Lists.{Has, Chain, one, more}
use Rattle.number_graph.specs.Graphs.{Adjacency, Steps, ArePartsFirst, IsOrder}
use Rattle.number_graph.specs.Visits.{IsOpen, IsClosedNode, IsBehind, IsVisit, steps_left, IsFurther}
use Rattle.tapa_base.proofs.Lists.{has_left, has_right, has_split}
use Rattle.number_graph.proofs.Numbers.{has_at}
use Rattle.number_graph.proofs.Reached.{snoc}

-- an element of a list with one more element at its end
pub at_push : (xs : List ℕ) (t i : ℕ) → i < length (xs ++ t ∷ []) → ((i < length xs) × (get_or (xs ++ t ∷ []) i 0 ≡ get_or xs i 0)) ⊎ ((i ≡ length xs) × (get_or (xs ++ t ∷ []) i 0 ≡ t))
at_push xs t i h =
    let l : length (xs ++ t ∷ []) ≡ length xs + 1 = length_push xs t in
    elim (cases_lt i (length xs)) [
      | inl lt ↦ inl (lt, get_or_append_left xs (t ∷ []) 0 i lt)
      | inr ge ↦ (let e : i ≡ length xs = omega arith in inr (e, get_or_push xs t 0 i (sym e)))
    ]

pub before_push : (xs : List ℕ) (t i : ℕ) → i < length xs → get_or (xs ++ t ∷ []) i 0 ≡ get_or xs i 0
before_push xs t i h = get_or_append_left xs (t ∷ []) 0 i h

-- one step fewer is left where a node comes one step further
pub left_less : (g : Adjacency) (p : List ℕ) (j y : ℕ) → length p ≡ length g → j < length g → y ≡ get_or p j 0 + 1 → get_or p j 0 < length (get_or g j []) + 2
    → steps_left g (slice_set p j y) < steps_left g p
left_less [] p j y e low is h = absurd (omega arith)
left_less (row ∷ g) [] j y e low is h = absurd (omega arith)
left_less (row ∷ g) (x ∷ p) zero y e low is h = omega arith
left_less (row ∷ g) (x ∷ p) (suc j) y e low is h = let ih : steps_left g (slice_set p j y) < steps_left g p = left_less g p j y (omega arith) (omega arith) is h in omega arith

pub further_set : (p : List ℕ) (j y : ℕ) → get_or p j 0 ≤ y → IsFurther p (slice_set p j y)
further_set [] j y h k = omega arith
further_set (x ∷ p) zero y h zero = h
further_set (x ∷ p) zero y h (suc k) = omega arith
further_set (x ∷ p) (suc j) y h zero = omega arith
further_set (x ∷ p) (suc j) y h (suc k) = further_set p j y h k

-- a node that is new is begun
module _ (g : Adjacency) (p path order : List ℕ) (v : IsVisit g p path order) (t : ℕ) (low : t < length g) (new : get_or p t 0 ≡ 0)
    (last : (i : ℕ) → i + 1 ≡ length path → Steps g (get_or path i 0) t) where
  abbrev q : List ℕ
  q = slice_set p t 1

  abbrev longer : List ℕ
  longer = path ++ t ∷ []

  pub begun_here : get_or q t 0 ≡ 1
  begun_here = get_or-set_same p t 1 0 (let l : length p ≡ length g = v.len in omega arith)

  pub begun_other : (k : ℕ) → 0 < get_or p k 0 → get_or q k 0 ≡ get_or p k 0
  begun_other k h = get_or-set_other p t k 1 0 (λ e. let z : get_or p k 0 ≡ 0 = ap (λ n. get_or p n 0) e ∙ new in absurd (omega arith))

  begun_not : (k : ℕ) → k ≢ t → get_or q k 0 ≡ get_or p k 0
  begun_not k ne = get_or-set_other p t k 1 0 ne

  open_on : (k : ℕ) → IsOpen g p k → IsOpen g q k
  open_on k o = let e : get_or q k 0 ≡ get_or p k 0 = begun_other k o.0 in (omega arith, omega arith)

  done_on : (k : ℕ) → IsClosedNode g p k → IsClosedNode g q k
  done_on k d = let pos : 0 < get_or p k 0 = omega arith in let e : get_or q k 0 ≡ get_or p k 0 = begun_other k pos in omega arith

  done_back : (k : ℕ) → IsClosedNode g q k → IsClosedNode g p k
  done_back k d = elim (cases_eq k t) [
    | inl e ↦ (let one_is : get_or q k 0 ≡ 1 = ap (λ n. get_or q n 0) e ∙ begun_here in absurd (omega arith))
    | inr ne ↦ (let same : get_or q k 0 ≡ get_or p k 0 = begun_not k ne in omega arith)
  ]

  here_of : (i : ℕ) → get_or longer i 0 ≡ t → IsOpen g q (get_or longer i 0)
  here_of i e = let h : get_or q (get_or longer i 0) 0 ≡ 1 = ap (λ n. get_or q n 0) e ∙ begun_here in (omega arith, omega arith)

  behind_on : (i k : ℕ) → IsBehind g p path i k → IsBehind g q longer i k
  behind_on i k (inl d) = inl (done_on k d)
  behind_on i k (inr b) = inr (b.0, b.1, (let l : length longer ≡ length path + 1 = length_push path t in let h : b.0 < length path = b.2 in omega arith), before_push path t b.0 b.2 ∙ b.3)

  apart_of : (i j : ℕ) → i < j → ((j < length path) × (get_or longer j 0 ≡ get_or path j 0)) ⊎ ((j ≡ length path) × (get_or longer j 0 ≡ t)) → get_or longer i 0 ≢ get_or longer j 0
  apart_of i j lt (inl h) = λ e.
      let low_j : j < length path = h.0 in
      let low_i : i < length path = omega arith in
      v.apart i j lt h.0 (sym (before_push path t i low_i) ∙ e ∙ h.1)
  apart_of i j lt (inr h) = λ e.
      let is_j : j ≡ length path = h.0 in
      let low_i : i < length path = omega arith in
      let same : get_or path i 0 ≡ t = sym (before_push path t i low_i) ∙ e ∙ h.1 in
      let pos : 0 < get_or p (get_or path i 0) 0 = (v.opened i low_i).0 in
      let z : get_or p (get_or path i 0) 0 ≡ 0 = ap (λ n. get_or p n 0) same ∙ new in
      absurd (omega arith)

  seen_of : (i s : ℕ) → ((i < length path) × (get_or longer i 0 ≡ get_or path i 0)) ⊎ ((i ≡ length path) × (get_or longer i 0 ≡ t)) → s + 1 < get_or q (get_or longer i 0) 0
      → IsBehind g q longer i (get_or (get_or g (get_or longer i 0) []) s 0)
  seen_of i s (inl h) lt =
      let pos : 0 < get_or p (get_or path i 0) 0 = (v.opened i h.0).0 in
      let e : get_or q (get_or path i 0) 0 ≡ get_or p (get_or path i 0) 0 = begun_other (get_or path i 0) pos in
      let lt2 : s + 1 < get_or q (get_or path i 0) 0 = subst (λ n. s + 1 < get_or q n 0) h.1 lt in
      let b = behind_on i _ (v.seen i s h.0 (omega arith)) in
      subst (λ n. IsBehind g q longer i (get_or (get_or g n []) s 0)) (sym h.1) b
  seen_of i s (inr h) lt = let e : get_or q (get_or longer i 0) 0 ≡ 1 = ap (λ n. get_or q n 0) h.1 ∙ begun_here in absurd (omega arith)

  there_of : (j : ℕ) → IsOpen g q j → (j ≡ t) ⊎ (j ≢ t) → (i : ℕ) × (i < length longer) × (get_or longer i 0 ≡ j)
  there_of j o (inl e) = (length path, (let l : length longer ≡ length path + 1 = length_push path t in omega arith), get_or_push path t 0 (length path) refl ∙ sym e)
  there_of j o (inr ne) =
      let same : get_or q j 0 ≡ get_or p j 0 = begun_not j ne in
      let a : 0 < get_or q j 0 = o.0 in
      let b : get_or q j 0 ≤ length (get_or g j []) + 1 = o.1 in
      let w = v.there j (omega arith, omega arith) in
      (w.0, (let l : length longer ≡ length path + 1 = length_push path t in let h : w.0 < length path = w.1 in omega arith), before_push path t w.0 w.1 ∙ w.2)

  follows_of : (i : ℕ) → i + 1 < length longer → (i + 1 < length path) ⊎ (length path ≤ i + 1) → Steps g (get_or longer i 0) (get_or longer (i + 1) 0)
  follows_of i h (inl lt) =
      let low_i : i < length path = omega arith in
      subst (λ a. Steps g a (get_or longer (i + 1) 0)) (sym (before_push path t i low_i)) (subst (λ b. Steps g (get_or path i 0) b) (sym (before_push path t (i + 1) lt)) (v.follows i lt))
  follows_of i h (inr ge) =
      let l : length longer ≡ length path + 1 = length_push path t in
      let e : i + 1 ≡ length path = omega arith in
      let low_i : i < length path = omega arith in
      subst (λ a. Steps g a (get_or longer (i + 1) 0)) (sym (before_push path t i low_i)) (subst (λ b. Steps g (get_or path i 0) b) (sym (get_or_push path t 0 (i + 1) (sym e))) (last i e))

  pub begun_visit : IsVisit g q longer order
  begun_visit = record {
    len = length-set p t 1 ∙ v.len;
    low = λ i h. elim (at_push path t i h) [ inl a ↦ subst (λ n. n < length g) (sym a.1) (v.low i a.0) | inr b ↦ subst (λ n. n < length g) (sym b.1) low ];
    opened = λ i h. elim (at_push path t i h) [ inl a ↦ subst (λ n. IsOpen g q n) (sym a.1) (open_on (get_or path i 0) (v.opened i a.0)) | inr b ↦ here_of i b.1 ];
    apart = λ i j lt h. apart_of i j lt (at_push path t j h);
    there = λ j o. there_of j o (cases_eq j t);
    follows = λ i h. follows_of i h (cases_lt (i + 1) (length path));
    seen = λ i s h lt. seen_of i s (at_push path t i h) lt;
    placed = λ j d. v.placed j (done_back j d);
    done = λ j h. done_on j (v.done j h);
    parts = v.parts;
  }

-- one more target of an open node is passed
module _ (g : Adjacency) (p path order : List ℕ) (v : IsVisit g p path order) (place j : ℕ) (at : place < length path) (is : get_or path place 0 ≡ j)
    (room : get_or p j 0 ≤ length (get_or g j [])) (behind : IsBehind g p path place (get_or (get_or g j []) (get_or p j 0 - 1) 0)) (y : ℕ) (y_is : y ≡ get_or p j 0 + 1) where
  abbrev r : List ℕ
  r = slice_set p j y

  pub node_low : j < length g
  node_low = subst (λ n. n < length g) is (v.low place at)

  passed_here : get_or r j 0 ≡ get_or p j 0 + 1
  passed_here = get_or-set_same p j y 0 (let l : length p ≡ length g = v.len in let n : j < length g = node_low in omega arith) ∙ y_is

  passed_not : (k : ℕ) → k ≢ j → get_or r k 0 ≡ get_or p k 0
  passed_not k ne = get_or-set_other p j k y 0 ne

  done_up : (k : ℕ) → IsClosedNode g p k → IsClosedNode g r k
  done_up k d = let f : get_or p k 0 ≤ get_or r k 0 = further_set p j y (omega (arith, y_is)) k in omega arith

  done_down : (k : ℕ) → IsClosedNode g r k → IsClosedNode g p k
  done_down k d = elim (cases_eq k j) [
    | inl e ↦ (let d2 : IsClosedNode g r j = subst (λ n. IsClosedNode g r n) e d in let h : get_or r j 0 ≡ get_or p j 0 + 1 = passed_here in absurd (omega arith))
    | inr ne ↦ (let same : get_or r k 0 ≡ get_or p k 0 = passed_not k ne in omega arith)
  ]

  open_up : (k : ℕ) → IsOpen g p k → IsOpen g r k
  open_up k o = elim (cases_eq k j) [
    | inl e ↦ subst (λ n. IsOpen g r n) (sym e) (let h : get_or r j 0 ≡ get_or p j 0 + 1 = passed_here in (omega arith, omega arith))
    | inr ne ↦ (let same : get_or r k 0 ≡ get_or p k 0 = passed_not k ne in let a : 0 < get_or p k 0 = o.0 in let b : get_or p k 0 ≤ length (get_or g k []) + 1 = o.1 in (omega arith, omega arith))
  ]

  open_down : (k : ℕ) → IsOpen g r k → IsOpen g p k
  open_down k o = elim (cases_eq k j) [
    | inl e ↦ subst (λ n. IsOpen g p n) (is ∙ sym e) (v.opened place at)
    | inr ne ↦ (let same : get_or r k 0 ≡ get_or p k 0 = passed_not k ne in let a : 0 < get_or r k 0 = o.0 in let b : get_or r k 0 ≤ length (get_or g k []) + 1 = o.1 in (omega arith, omega arith))
  ]

  behind_up : (i k : ℕ) → IsBehind g p path i k → IsBehind g r path i k
  behind_up i k (inl d) = inl (done_up k d)
  behind_up i k (inr b) = inr b

  place_of : (i : ℕ) → i < length path → get_or path i 0 ≡ j → (i < place) ⊎ (place ≤ i) → (place < i) ⊎ (i ≤ place) → i ≡ place
  place_of i h e (inl lt) _ = absurd (v.apart i place lt at (e ∙ sym is))
  place_of i h e (inr ge) (inl gt) = absurd (v.apart place i gt h (is ∙ sym e))
  place_of i h e (inr ge) (inr le) = omega arith

  seen_here : (s : ℕ) → s + 1 < get_or r j 0 → (s + 1 < get_or p j 0) ⊎ (get_or p j 0 ≤ s + 1) → IsBehind g r path place (get_or (get_or g j []) s 0)
  seen_here s lt (inl less) = subst (λ n. IsBehind g r path place (get_or (get_or g n []) s 0)) is (behind_up place _ (v.seen place s at (subst (λ n. s + 1 < get_or p n 0) (sym is) less)))
  seen_here s lt (inr ge) =
      let h : get_or r j 0 ≡ get_or p j 0 + 1 = passed_here in
      let e : get_or p j 0 - 1 ≡ s = omega arith in
      subst (λ n. IsBehind g r path place (get_or (get_or g j []) n 0)) e (behind_up place _ behind)

  seen_up : (i s : ℕ) → i < length path → s + 1 < get_or r (get_or path i 0) 0 → (get_or path i 0 ≡ j) ⊎ (get_or path i 0 ≢ j) → IsBehind g r path i (get_or (get_or g (get_or path i 0) []) s 0)
  seen_up i s h lt (inl e) =
      let same : i ≡ place = place_of i h e (cases_lt i place) (cases_lt place i) in
      let lt2 : s + 1 < get_or r j 0 = subst (λ n. s + 1 < get_or r n 0) e lt in
      subst (λ n. IsBehind g r path i (get_or (get_or g n []) s 0)) (sym e) (subst (λ n. IsBehind g r path n (get_or (get_or g j []) s 0)) (sym same) (seen_here s lt2 (cases_lt (s + 1) (get_or p j 0))))
  seen_up i s h lt (inr ne) = behind_up i _ (v.seen i s h (subst (λ n. s + 1 < n) (passed_not (get_or path i 0) ne) lt))

  pub passed_visit : IsVisit g r path order
  passed_visit = record {
    len = length-set p j y ∙ v.len;
    low = v.low;
    opened = λ i h. open_up (get_or path i 0) (v.opened i h);
    apart = v.apart;
    there = λ k o. v.there k (open_down k o);
    follows = v.follows;
    seen = λ i s h lt. seen_up i s h lt (cases_eq (get_or path i 0) j);
    placed = λ k d. v.placed k (done_down k d);
    done = λ k h. done_up k (v.done k h);
    parts = v.parts;
  }

-- the last node of the path, all targets of which were passed, is done
module _ (g : Adjacency) (p rest order : List ℕ) (j : ℕ) (v : IsVisit g p (rest ++ j ∷ []) order) (full : get_or p j 0 ≡ length (get_or g j []) + 1)
    (y : ℕ) (y_is : y ≡ get_or p j 0 + 1) where
  abbrev z : List ℕ
  z = slice_set p j y

  abbrev path_was : List ℕ
  path_was = rest ++ j ∷ []

  longer_by : length path_was ≡ length rest + 1
  longer_by = length_push rest j

  last_is : get_or path_was (length rest) 0 ≡ j
  last_is = get_or_push rest j 0 (length rest) refl

  last_low : length rest < length path_was
  last_low = let l : length path_was ≡ length rest + 1 = longer_by in omega arith

  up_low : (i : ℕ) → i < length rest → i < length path_was
  up_low i h = let l : length path_was ≡ length rest + 1 = longer_by in omega arith

  pub last_node_low : j < length g
  last_node_low = subst (λ n. n < length g) last_is (v.low (length rest) last_low)

  ended_here : get_or z j 0 ≡ get_or p j 0 + 1
  ended_here = get_or-set_same p j y 0 (let l : length p ≡ length g = v.len in let n : j < length g = last_node_low in omega arith) ∙ y_is

  ended_not : (k : ℕ) → k ≢ j → get_or z k 0 ≡ get_or p k 0
  ended_not k ne = get_or-set_other p j k y 0 ne

  ended_done : IsClosedNode g z j
  ended_done = let h : get_or z j 0 ≡ get_or p j 0 + 1 = ended_here in omega (arith, full)

  done_more : (k : ℕ) → IsClosedNode g p k → IsClosedNode g z k
  done_more k d = let f : get_or p k 0 ≤ get_or z k 0 = further_set p j y (omega (arith, y_is)) k in omega arith

  -- a node of the path that stays is another
  stays : (i : ℕ) → i < length rest → get_or rest i 0 ≢ j
  stays i h = λ e. v.apart i (length rest) h last_low (before_push rest j i h ∙ e ∙ sym last_is)

  rest_progress : (i : ℕ) → i < length rest → get_or z (get_or rest i 0) 0 ≡ get_or p (get_or rest i 0) 0
  rest_progress i h = ended_not (get_or rest i 0) (stays i h)

  opened_before : (i : ℕ) → i < length rest → IsOpen g p (get_or rest i 0)
  opened_before i h = subst (λ n. IsOpen g p n) (before_push rest j i h) (v.opened i (up_low i h))

  target_done : (k : ℕ) → Steps g j k → IsClosedNode g p k
  target_done k s =
      let a = has_at (get_or g j []) k s in
      let lt : a.0 < length (get_or g j []) = a.1 in
      let less : a.0 + 1 < get_or p j 0 = omega (arith, full) in
      let b = v.seen (length rest) a.0 last_low (subst (λ n. a.0 + 1 < get_or p n 0) (sym last_is) less) in
      let c : IsBehind g p path_was (length rest) k =
      subst (λ n. IsBehind g p path_was (length rest) n) (ap (λ n. get_or (get_or g n []) a.0 0) last_is ∙ a.2) b in
      elim c [
        | inl d ↦ d
        | inr w ↦ (let l : length path_was ≡ length rest + 1 = longer_by in let x : length rest < w.0 = w.1 in let y : w.0 < length path_was = w.2 in absurd (omega arith))
      ]

  not_yet : Has order j → ⊥
  not_yet h = let d : IsClosedNode g p j = v.done j h in absurd (omega (arith, full))

  abbrev more_order : List ℕ
  more_order = order ++ j ∷ []

  front : (i : ℕ) → i ≤ length order → take i more_order ≡ take i order
  front i h = take-append-le i order (j ∷ []) h

  whole : (i : ℕ) → i ≡ length order → take i more_order ≡ order
  whole i e = take_at order (j ∷ []) i (sym e)

  once_of : (i : ℕ) → ((i < length order) × (get_or more_order i 0 ≡ get_or order i 0)) ⊎ ((i ≡ length order) × (get_or more_order i 0 ≡ j)) → Has (take i more_order) (get_or more_order i 0) → ⊥
  once_of i (inl a) h = v.parts.once i a.0 (subst (λ l. Has l (get_or order i 0)) (front i (let lt : i < length order = a.0 in omega arith)) (subst (λ n. Has (take i more_order) n) a.1 h))
  once_of i (inr b) h = not_yet (subst (λ l. Has l j) (whole i b.0) (subst (λ n. Has (take i more_order) n) b.1 h))

  first_of : (i k : ℕ) → ((i < length order) × (get_or more_order i 0 ≡ get_or order i 0)) ⊎ ((i ≡ length order) × (get_or more_order i 0 ≡ j)) → Steps g (get_or more_order i 0) k → Has (take i more_order) k
  first_of i k (inl a) s = subst (λ l. Has l k) (sym (front i (let lt : i < length order = a.0 in omega arith))) (v.parts.first i k a.0 (subst (λ n. Steps g n k) a.1 s))
  first_of i k (inr b) s = subst (λ l. Has l k) (sym (whole i b.0)) (v.placed k (target_done k (subst (λ n. Steps g n k) b.1 s)))

  more_parts : ArePartsFirst g more_order
  more_parts = record {
    low = λ i h. elim (at_push order j i h) [ inl a ↦ subst (λ n. n < length g) (sym a.1) (v.parts.low i a.0) | inr b ↦ subst (λ n. n < length g) (sym b.1) last_node_low ];
    once = λ i h. once_of i (at_push order j i h);
    first = λ i k h s. first_of i k (at_push order j i h) s;
  }

  there_in : (k : ℕ) → k ≢ j → (w : (i : ℕ) × (i < length path_was) × (get_or path_was i 0 ≡ k)) → ((w.0 < length rest) × (get_or path_was w.0 0 ≡ get_or rest w.0 0)) ⊎ ((w.0 ≡ length rest) × (get_or path_was w.0 0 ≡ j))
      → (i : ℕ) × (i < length rest) × (get_or rest i 0 ≡ k)
  there_in k ne w (inl a) = (w.0, a.0, sym a.1 ∙ w.2)
  there_in k ne w (inr b) = absurd (ne (sym w.2 ∙ b.1))

  there_still : (k : ℕ) → IsOpen g z k → (k ≡ j) ⊎ (k ≢ j) → (i : ℕ) × (i < length rest) × (get_or rest i 0 ≡ k)
  there_still k o (inl e) = let o2 : IsOpen g z j = subst (λ n. IsOpen g z n) e o in let d : IsClosedNode g z j = ended_done in let b : get_or z j 0 ≤ length (get_or g j []) + 1 = o2.1 in absurd (omega arith)
  there_still k o (inr ne) =
      let same : get_or z k 0 ≡ get_or p k 0 = ended_not k ne in
      let a : 0 < get_or z k 0 = o.0 in
      let b : get_or z k 0 ≤ length (get_or g k []) + 1 = o.1 in
      let w = v.there k (omega arith, omega arith) in
      there_in k ne w (at_push rest j w.0 w.1)

  behind_in : (i k : ℕ) → (w : (i' : ℕ) × (i < i') × (i' < length path_was) × (get_or path_was i' 0 ≡ k))
      → ((w.0 < length rest) × (get_or path_was w.0 0 ≡ get_or rest w.0 0)) ⊎ ((w.0 ≡ length rest) × (get_or path_was w.0 0 ≡ j)) → IsBehind g z rest i k
  behind_in i k w (inl a) = inr (w.0, w.1, a.0, sym a.1 ∙ w.3)
  behind_in i k w (inr b) = inl (subst (λ n. IsClosedNode g z n) (sym b.1 ∙ w.3) ended_done)

  behind_still : (i k : ℕ) → IsBehind g p path_was i k → IsBehind g z rest i k
  behind_still i k (inl d) = inl (done_more k d)
  behind_still i k (inr w) = behind_in i k w (at_push rest j w.0 w.2)

  placed_of : (k : ℕ) → IsClosedNode g z k → (k ≡ j) ⊎ (k ≢ j) → Has more_order k
  placed_of k d (inl e) = has_right order (j ∷ []) k (inl (sym e))
  placed_of k d (inr ne) = let same : get_or z k 0 ≡ get_or p k 0 = ended_not k ne in has_left order (j ∷ []) k (v.placed k (omega arith))

  done_of : (k : ℕ) → Has order k ⊎ Has (j ∷ []) k → IsClosedNode g z k
  done_of k (inl h) = done_more k (v.done k h)
  done_of k (inr (inl e)) = subst (λ n. IsClosedNode g z n) e ended_done
  done_of k (inr (inr h)) = absurd h

  seen_still : (i s : ℕ) → i < length rest → s + 1 < get_or z (get_or rest i 0) 0 → IsBehind g z rest i (get_or (get_or g (get_or rest i 0) []) s 0)
  seen_still i s h lt =
      let e : get_or path_was i 0 ≡ get_or rest i 0 = before_push rest j i h in
      let less : s + 1 < get_or p (get_or rest i 0) 0 = subst (λ n. s + 1 < n) (rest_progress i h) lt in
      let b = v.seen i s (up_low i h) (subst (λ n. s + 1 < get_or p n 0) (sym e) less) in
      subst (λ n. IsBehind g z rest i (get_or (get_or g n []) s 0)) e (behind_still i _ b)

  pub ended_visit : IsVisit g z rest more_order
  ended_visit = record {
    len = length-set p j y ∙ v.len;
    low = λ i h. subst (λ n. n < length g) (before_push rest j i h) (v.low i (up_low i h));
    opened = λ i h. let o : IsOpen g p (get_or rest i 0) = opened_before i h in let e : get_or z (get_or rest i 0) 0 ≡ get_or p (get_or rest i 0) 0 = rest_progress i h in let a : 0 < get_or p (get_or rest i 0) 0 = o.0 in let b : get_or p (get_or rest i 0) 0 ≤ length (get_or g (get_or rest i 0) []) + 1 = o.1 in (omega arith, omega arith);
    apart = λ i k lt h. let low_i : i < length rest = omega arith in λ e. v.apart i k lt (up_low k h) (before_push rest j i low_i ∙ e ∙ sym (before_push rest j k h));
    there = λ k o. there_still k o (cases_eq k j);
    follows = λ i h. let low_i : i < length rest = omega arith in subst (λ a. Steps g a (get_or rest (i + 1) 0)) (before_push rest j i low_i) (subst (λ b. Steps g (get_or path_was i 0) b) (before_push rest j (i + 1) h) (v.follows i (up_low (i + 1) h)));
    seen = seen_still;
    placed = λ k d. placed_of k d (cases_eq k j);
    done = λ k h. done_of k (has_split order (j ∷ []) k h);
    parts = more_parts;
  }

-- the last node of the path is open
pub last_open : (g : Adjacency) (p path order rest : List ℕ) (j : ℕ) → IsVisit g p path order → path ≡ rest ++ j ∷ [] → IsOpen g p j
last_open g p path order rest j v e =
    let l : length (rest ++ j ∷ []) ≡ length rest + 1 = length_push rest j in
    let low : length rest < length path = subst (λ (l : List ℕ). length rest < length l) (sym e) (omega arith) in
    let at : get_or path (length rest) 0 ≡ j = ap (λ (l : List ℕ). get_or l (length rest) 0) e ∙ get_or_push rest j 0 (length rest) refl in
    subst (λ n. IsOpen g p n) at (v.opened (length rest) low)

pub node_within : (g : Adjacency) (p path order rest : List ℕ) (j : ℕ) → IsVisit g p path order → path ≡ rest ++ j ∷ [] → j < length p
node_within g p path order rest j v e =
    let l : length (rest ++ j ∷ []) ≡ length rest + 1 = length_push rest j in
    let low : length rest < length path = subst (λ (l : List ℕ). length rest < length l) (sym e) (omega arith) in
    let at : get_or path (length rest) 0 ≡ j = ap (λ (l : List ℕ). get_or l (length rest) 0) e ∙ get_or_push rest j 0 (length rest) refl in
    let h : get_or path (length rest) 0 < length g = v.low (length rest) low in
    let len : length p ≡ length g = v.len in
    omega (arith, at)

-- an open node that the last one of the path steps to reaches itself
module _ (g : Adjacency) (p path order : List ℕ) (v : IsVisit g p path order) where
  path_chain : (k i j : ℕ) → i + suc k ≡ j → j < length path → Chain (Steps g) (get_or path i 0) (get_or path j 0)
  path_chain zero i j e h = let e2 : i + 1 ≡ j = omega arith in subst (λ n. Chain (Steps g) (get_or path i 0) (get_or path n 0)) e2 (one (v.follows i (omega arith)))
  path_chain (suc k) i j e h = more (get_or path (i + 1) 0) (v.follows i (omega arith)) (path_chain k (i + 1) j (omega arith) h)

  closed_of : (i last t : ℕ) → last < length path → get_or path i 0 ≡ t → Steps g (get_or path last 0) t → (i < last) ⊎ (last ≤ i) → i ≤ last → Chain (Steps g) t t
  closed_of i last t low e s (inl lt) le =
      let k : i + suc (last - suc i) ≡ last = omega arith in
      snoc (Steps g) t (get_or path last 0) t (subst (λ n. Chain (Steps g) n (get_or path last 0)) e (path_chain (last - suc i) i last k low)) s
  closed_of i last t low e s (inr ge) le = let same : last ≡ i = omega arith in one (subst (λ n. Steps g n t) (ap (λ n. get_or path n 0) same ∙ e) s)

  pub closes : (last t : ℕ) → last + 1 ≡ length path → IsOpen g p t → Steps g (get_or path last 0) t → Chain (Steps g) t t
  closes last t end o s =
      let w = v.there t o in
      let lt : w.0 < length path = w.1 in
      closed_of w.0 last t (omega arith) w.2 s (cases_lt w.0 last) (omega arith)

  -- where the path is empty and all nodes were begun, all are done
  pub all_placed : length path ≡ 0 → ((j : ℕ) → j < length g → 0 < get_or p j 0) → (j : ℕ) → j < length g → Has order j
  all_placed none begun j h = elim (cases_lt (length (get_or g j []) + 1) (get_or p j 0)) [
    | inl d ↦ v.placed j d
    | inr le ↦ (let w = v.there j (begun j h, le) in let lt : w.0 < length path = w.1 in absurd (omega (arith, none)))
  ]

-- only a node has targets
pub from_node : (g : Adjacency) (k m : ℕ) → Steps g k m → k < length g
from_node g k m s = elim (cases_lt k (length g)) [
  | inl lt ↦ lt
  | inr ge ↦ absurd (subst (λ l. Has l m) (get_or_past g k [] ge) s)
]

-- what stands before a place stands before a later one
take_has : (xs : List ℕ) (i j b : ℕ) → j ≤ i → Has (take j xs) b → Has (take i xs) b
take_has xs zero zero b le h = absurd h
take_has xs (suc i) zero b le h = absurd h
take_has xs zero (suc j) b le h = absurd (omega arith)
take_has [] (suc i) (suc j) b le h = absurd h
take_has (x ∷ xs) (suc i) (suc j) b le (inl e) = inl e
take_has (x ∷ xs) (suc i) (suc j) b le (inr h) = inr (take_has xs i j b (omega arith) h)

-- an order of all nodes has no cycle
module _ (g : Adjacency) (order : List ℕ) (o : IsOrder g order) where
  reached_before : (i a b : ℕ) → i < length order → get_or order i 0 ≡ a → Chain (Steps g) a b → Has (take i order) b
  reached_before i a b low e (one s) = o.parts.first i b low (subst (λ n. Steps g n b) (sym e) s)
  reached_before i a b low e (more m s r) =
      let h : Has (take i order) m = o.parts.first i m low (subst (λ n. Steps g n m) (sym e) s) in
      let w = has_at (take i order) m h in
      let len : length (take i order) ≡ i = length-take-le i order (omega arith) in
      let lt : w.0 < length (take i order) = w.1 in
      let less : w.0 < i = omega arith in
      let is : get_or order w.0 0 ≡ m = sym (get_or-take i order w.0 0 less) ∙ w.2 in
      take_has order i w.0 b (omega arith) (reached_before w.0 m b (omega arith) is r)

  starts : (k m : ℕ) → Chain (Steps g) k m → k < length g
  starts k m (one s) = from_node g k m s
  starts k m (more b s r) = from_node g k b s

  pub no_cycle : (k : ℕ) → Chain (Steps g) k k → ⊥
  no_cycle k c =
      let w = has_at order k (o.all k (starts k k c)) in
      o.parts.once w.0 w.1 (subst (λ n. Has (take w.0 order) n) (sym w.2) (reached_before w.0 k k w.1 w.2 c))
