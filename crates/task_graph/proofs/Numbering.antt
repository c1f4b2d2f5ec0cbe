-- One more number at the end of the groups' numbers.
use Rattle.std.proofs.Common.{◌≡◌, ℕ, ◌+◌, ◌<◌, ◌≤◌, List, [], ◌∷◌, ◌++◌, Bool, true, false, cond, eqb, length, get_or, inl, inr, refl, sym, ap, subst, ◌∙◌, arith}
use Rattle.std.specs.Prelude.{◌⊎◌, ◌↔◌, ◌==◌, ◌&&◌, Vec}
use Rattle.std.proofs.lemmas.Bool.{cases_lt}
use Rattle.std.proofs.lemmas.Bool.Decides.{nat_tests}
use Rattle.std.proofs.lemmas.List.{get_or_append_left, get_or_push, length_push}
use Rattle.std.proofs.lemmas.List.Folds.{position_or_len_push}
use Rattle.std.proofs.lemmas.List.Sums.{position_or_len_is}
use Rattle.task_graph.specs.declared.Edge.{Edge}
use Rattle.task_graph.specs.Streams.{AreGroups, AreNumbered, least_of}
use Rattle.task_graph.specs.Reach.{mark, Marks, MarkEachOther, AreTransitive, MarkReached}
use Rattle.number_graph.proofs.Visits.{before_push as at_former}

-- a place is one of the former, or the last
place_cases : (xs : List ℕ) (v i : ℕ) → i < length (xs ++ v ∷ []) → (i < length xs) ⊎ (i ≡ length xs)
place_cases xs v i l = by_order (cases_lt i (length xs))
  where
    by_order : (i < length xs) ⊎ (length xs ≤ i) → (i < length xs) ⊎ (i ≡ length xs)
    by_order (inl h) = inl h
    by_order (inr h) = inr (let e = length_push xs v in omega arith)

at_last : (xs : List ℕ) (v i : ℕ) → i ≡ length xs → get_or (xs ++ v ∷ []) i 0 ≡ v
at_last xs v i e = get_or_push xs v 0 i (sym e)

-- the first place of a number that stands already
least_kept : (xs : List ℕ) (v g : ℕ) → least_of xs g < length xs → least_of (xs ++ v ∷ []) g ≡ least_of xs g
least_kept xs v g l =
    let p = position_or_len_push (λ x. x == g) xs v in
    let ne : eqb (least_of xs g) (length xs) ≡ false = grind (arith, nat_tests) in
    p ∙ ap (λ b. cond b (length xs + cond (v == g) 0 1) (least_of xs g)) ne

-- of one that does not
least_new : (xs : List ℕ) (c : ℕ) → ((i : ℕ) → i < length xs → get_or xs i 0 < c) → least_of (xs ++ c ∷ []) c ≡ length xs
least_new xs c below = position_or_len_is (λ x. x == c) (xs ++ c ∷ []) (length xs) 0 (let e = length_push xs c in omega arith) former last
  where
    former : (k : ℕ) → k < length xs → (get_or (xs ++ c ∷ []) k 0 == c) ≡ false
    former k l = let b = below k l in let e = at_former xs c k l in grind (arith, nat_tests)

    last : length xs < length (xs ++ c ∷ []) → (get_or (xs ++ c ∷ []) (length xs) 0 == c) ≡ true
    last l = let e = at_last xs c (length xs) refl in grind (arith, nat_tests)

pub number_again : (xs : List ℕ) (c v : ℕ) → AreNumbered xs c → v < c → AreNumbered (xs ++ v ∷ []) c
number_again xs c v n l = record {
  below = λ i h. by_place i (place_cases xs v i h);
  used = λ g h. let a = n.used g h in let b = least_kept xs v g a in let e = length_push xs v in omega arith;
  in_order = λ g h less lh.
      let lg : g < c = omega arith in
      let a = least_kept xs v g (n.used g lg) in
      let b = least_kept xs v h (n.used h lh) in
      let o = n.in_order g h less lh in omega arith;
}
  where
    by_place : (i : ℕ) → (i < length xs) ⊎ (i ≡ length xs) → get_or (xs ++ v ∷ []) i 0 < c
    by_place i (inl h) = let b = n.below i h in let e = at_former xs v i h in omega arith
    by_place i (inr h) = let e = at_last xs v i h in omega arith

pub number_new : (xs : List ℕ) (c : ℕ) → AreNumbered xs c → AreNumbered (xs ++ c ∷ []) (c + 1)
number_new xs c n = record {
  below = λ i h. by_place i (place_cases xs c i h);
  used = λ g h. let e = length_push xs c in let p = at_group g (group_cases g h) in omega arith;
  in_order = λ g h less lh. in_order' g h less (group_cases h lh);
}
  where
    by_place : (i : ℕ) → (i < length xs) ⊎ (i ≡ length xs) → get_or (xs ++ c ∷ []) i 0 < c + 1
    by_place i (inl h) = let b = n.below i h in let e = at_former xs c i h in omega arith
    by_place i (inr h) = let e = at_last xs c i h in omega arith

    group_cases : (g : ℕ) → g < c + 1 → (g < c) ⊎ (g ≡ c)
    group_cases g h = by_order (cases_lt g c)
      where
        by_order : (g < c) ⊎ (c ≤ g) → (g < c) ⊎ (g ≡ c)
        by_order (inl k) = inl k
        by_order (inr k) = inr (omega arith)

    -- a group's first place is one of the former, and the new group's is the last
    at_group : (g : ℕ) → (g < c) ⊎ (g ≡ c) → least_of (xs ++ c ∷ []) g ≤ length xs
    at_group g (inl l) = let a = n.used g l in let e = least_kept xs c g a in omega arith
    at_group g (inr e) = let p = least_new xs c n.below in let q : least_of (xs ++ c ∷ []) g ≡ length xs = ap (least_of (xs ++ c ∷ [])) e ∙ p in omega arith

    in_order' : (g h : ℕ) → g < h → (h < c) ⊎ (h ≡ c) → least_of (xs ++ c ∷ []) g < least_of (xs ++ c ∷ []) h
    in_order' g h less (inl l) =
        let lg : g < c = omega arith in
        let a = least_kept xs c g (n.used g lg) in
        let b = least_kept xs c h (n.used h l) in
        let o = n.in_order g h less l in omega arith
    in_order' g h less (inr e) =
        let lg : g < c = omega arith in
        let u = n.used g lg in
        let a = least_kept xs c g u in
        let q : least_of (xs ++ c ∷ []) h ≡ length xs = ap (least_of (xs ++ c ∷ [])) e ∙ least_new xs c n.below in omega arith

-- ---- which numbers are the same

abbrev pub AreSame : {A : Type 0} → List (Vec Bool A) → List ℕ → Type 0
AreSame rows xs = (i j : ℕ) → i < length xs → j < length xs → (get_or xs i 0 ≡ get_or xs j 0) ↔ MarkEachOther rows i j

module _ {A : Type 0} (rows : List (Vec Bool A)) (xs : List ℕ) (v : ℕ) (room : length xs < length rows) (same : AreSame rows xs)
    (last : (i : ℕ) → i < length xs → (get_or xs i 0 ≡ v) ↔ MarkEachOther rows i (length xs)) where
  turned : (i j : ℕ) → MarkEachOther rows i j → MarkEachOther rows j i
  turned i j m = (m.1, m.0)

  by_places : (i j : ℕ) → (i < length xs) ⊎ (i ≡ length xs) → (j < length xs) ⊎ (j ≡ length xs) → (get_or (xs ++ v ∷ []) i 0 ≡ get_or (xs ++ v ∷ []) j 0) ↔ MarkEachOther rows i j
  by_places i j (inl a) (inl b) =
      let p = at_former xs v i a in let q = at_former xs v j b in
      (λ e. (same i j a b).0 (sym p ∙ e ∙ q), λ m. p ∙ (same i j a b).1 m ∙ sym q)
  by_places i j (inl a) (inr b) =
      let p = at_former xs v i a in let q = at_last xs v j b in (
        λ e. subst (λ k. MarkEachOther rows i k) (sym b) ((last i a).0 (sym p ∙ e ∙ q)),
        λ m. p ∙ (last i a).1 (subst (λ k. MarkEachOther rows i k) b m) ∙ sym q,
      )
  by_places i j (inr a) (inl b) =
      let p = at_last xs v i a in let q = at_former xs v j b in (
        λ e. turned j i (subst (λ k. MarkEachOther rows j k) (sym a) ((last j b).0 (sym q ∙ sym e ∙ p))),
        λ m. p ∙ sym ((last j b).1 (subst (λ k. MarkEachOther rows j k) a (turned i j m))) ∙ sym q,
      )
  by_places i j (inr a) (inr b) =
      let s : i ≡ j = a ∙ sym b in
      (λ e. (inl s, inl (sym s)), λ m. at_last xs v i a ∙ sym (at_last xs v j b))

  pub same_push : AreSame rows (xs ++ v ∷ [])
  same_push i j li lj = by_places i j (place_cases xs v i li) (place_cases xs v j lj)

-- the number of an earlier instance with which the next one marks each other
pub last_again : {A : Type 0} (rows : List (Vec Bool A)) (xs : List ℕ) (j : ℕ) → length xs < length rows → AreTransitive rows → AreSame rows xs → j < length xs → MarkEachOther rows j (length xs)
    → (i : ℕ) → i < length xs → (get_or xs i 0 ≡ get_or xs j 0) ↔ MarkEachOther rows i (length xs)
last_again rows xs j room t same lj m i li =
    let a : i < length rows = omega arith in
    let b : j < length rows = omega arith in
    let n = length xs in (
      λ e. let s = (same i j li lj).0 e in (t i j n a b room s.0 m.0, t n j i room b a m.1 s.1),
      λ s. (same i j li lj).1 (t i n j a room b s.0 m.1, t j n i b room a m.0 s.1),
    )

-- a number above all others, where no earlier instance and the next one mark each other
pub last_new : {A : Type 0} (rows : List (Vec Bool A)) (xs : List ℕ) (c : ℕ) → AreNumbered xs c → ((j : ℕ) → j < length xs → MarkEachOther rows j (length xs) → ⊥)
    → (i : ℕ) → i < length xs → (get_or xs i 0 ≡ c) ↔ MarkEachOther rows i (length xs)
last_new rows xs c n none i li = (λ e. let b = n.below i li in absurd (omega arith), λ m. absurd (none i li m))

-- ---- the next instance: it joins an earlier one's group, or opens a new one

pub group_again : {A : Type 0} (rows : List (Vec Bool A)) (xs new : List ℕ) (c j v : ℕ) → length xs < length rows → AreTransitive rows → AreNumbered xs c → AreSame rows xs → j < length xs
    → MarkEachOther rows j (length xs) → v ≡ get_or xs j 0 → new ≡ xs ++ v ∷ [] → AreNumbered new c × AreSame rows new
group_again rows xs new c j v room t numbered same lj m e is =
    let low : v < c = subst (λ k. k < c) (sym e) (numbered.below j lj) in
    let last : (i : ℕ) → i < length xs → (get_or xs i 0 ≡ v) ↔ MarkEachOther rows i (length xs) = λ i l.
    (let k = last_again rows xs j room t same lj m i l in (λ p. k.0 (p ∙ e), λ q. k.1 q ∙ sym e)) in
    (subst (λ (l : List ℕ). AreNumbered l c) (sym is) (number_again xs c v numbered low), subst (λ (l : List ℕ). AreSame rows l) (sym is) (same_push rows xs v room same last))

pub group_new : {A : Type 0} (rows : List (Vec Bool A)) (xs new : List ℕ) (c : ℕ) → length xs < length rows → AreNumbered xs c → AreSame rows xs
    → ((j : ℕ) → j < length xs → MarkEachOther rows j (length xs) → ⊥) → new ≡ xs ++ c ∷ [] → AreNumbered new (c + 1) × AreSame rows new
group_new rows xs new c room numbered same none is = (
  subst (λ (l : List ℕ). AreNumbered l (c + 1)) (sym is) (number_new xs c numbered),
  subst (λ (l : List ℕ). AreSame rows l) (sym is) (same_push rows xs c room same (last_new rows xs c numbered none)),
)

-- ---- before the first instance, and after the last

pub none_yet : {A : Type 0} (rows : List (Vec Bool A)) (xs : List ℕ) → length xs ≡ 0 → AreNumbered xs 0 × AreSame rows xs
none_yet rows xs e = (
  record { below = λ i l. absurd (omega arith); used = λ g l. absurd (omega arith); in_order = λ g h less l. absurd (omega arith) },
  λ i j li lj. absurd (omega arith),
)

pub are_groups : {A : Type 0} (rows : List (Vec Bool A)) (xs : List ℕ) (edges : List Edge) → length xs ≡ length rows → MarkReached rows edges → AreSame rows xs → AreGroups xs edges
are_groups rows xs edges len reached same i j li lj =
    let a : i < length rows = omega arith in
    let b : j < length rows = omega arith in (
      λ e. let m = (same i j li lj).0 e in ((reached i j a b).0 m.0, (reached j i b a).0 m.1),
      λ r. (same i j li lj).1 ((reached i j a b).1 r.0, (reached j i b a).1 r.1),
    )

-- ---- marks in both ways

both_true : (a b : Bool) → (a && b) ≡ true → (a ≡ true) × (b ≡ true)
both_true true b e = (refl, e)
both_true false b e = cc

pub mark_each_other : {A : Type 0} (rows : List (Vec Bool A)) (i j : ℕ) → (mark rows j i && mark rows i j) ≡ true → MarkEachOther rows j i
mark_each_other rows i j e = let m = both_true (mark rows j i) (mark rows i j) e in (inr m.0, inr m.1)

not_both : (a b : Bool) → (a && b) ≡ false → a ≡ true → b ≡ true → ⊥
not_both true b e p q = cc
not_both false b e p q = cc

pub mark_not_both : {A : Type 0} (rows : List (Vec Bool A)) (i j : ℕ) → j < i → (mark rows j i && mark rows i j) ≡ false → MarkEachOther rows j i → ⊥
mark_not_both rows i j less e m = by_cases m.0 m.1
  where
    by_cases : Marks rows j i → Marks rows i j → ⊥
    by_cases (inl same) q = let n : ⊥ = omega arith in n
    by_cases (inr p) (inl same) = let n : ⊥ = omega arith in n
    by_cases (inr p) (inr q) = not_both (mark rows j i) (mark rows i j) e p q
