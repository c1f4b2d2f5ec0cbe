-- How many instances reach a group is a rank that grows along each stream between groups.
use Rattle.std.proofs.Common.{◌≡◌, ℕ, zero, suc, ◌-◌, ◌<◌, ◌≤◌, List, Bool, true, false, cond, length, get_or, inl, inr, refl, sym, ap, ◌∙◌, arith}
use Rattle.std.specs.Prelude.{◌⊎◌, ◌==◌, Vec}
use Rattle.std.specs.List.{position_or_len}
use Rattle.std.proofs.lemmas.Bool.{cases_eq}
use Rattle.std.proofs.lemmas.Bool.Decides.{nat_tests}
use Rattle.std.proofs.lemmas.List.Sums.{passes_at_first}
use Rattle.task_graph.specs.declared.Edge.{Edge}
use Rattle.task_graph.specs.Arcs.{total}
use Rattle.task_graph.specs.Edges.{EndBelow}
use Rattle.task_graph.specs.Reach.{mark, Marks, MarkEachOther, AreTransitive, MarkReached}
use Rattle.task_graph.specs.Streams.{from_of, to_of, Reaches, AreNumbered, HasRank, least_of}
use Rattle.task_graph.proofs.Numbering.{AreSame}
use Rattle.task_graph.proofs.Sizes.{total_lt, total_small, counts_low, counts_more, counts_less}

pub first_hits : (v : ℕ) (xs : List ℕ) → position_or_len (λ x. x == v) xs < length xs → get_or xs (position_or_len (λ x. x == v) xs) 0 ≡ v
first_hits v xs h = let t = passes_at_first (λ x. x == v) xs 0 h in grind (arith, nat_tests)

module _ {A : Type 0} (rows : List (Vec Bool A)) (numbers : List ℕ) (groups : ℕ) (edges : List Edge) (few : length rows ≤ 512) (len : length numbers ≡ length rows)
    (numbered : AreNumbered numbers groups) (same : AreSame rows numbers) (transitive : AreTransitive rows) (reached : MarkReached rows edges) (ends : EndBelow (length rows) edges) where
  abbrev test : ℕ → ℕ → Bool
  test i v = cond (i == v) true (mark rows i v)

  passes : (i v : ℕ) → Marks rows i v → test i v ≡ true
  passes i v (inl e) = let t : (i == v) ≡ true = grind (arith, nat_tests) in ap (λ b. cond b true (mark rows i v)) t
  passes i v (inr m) = by_test (i == v) (mark rows i v) m
    where
      by_test : (a b : Bool) → b ≡ true → cond a true b ≡ true
      by_test true b h = refl
      by_test false b h = h

  marks : (i v : ℕ) → test i v ≡ true → Marks rows i v
  marks i v t = by_cases (cases_eq i v)
    where
      by_cases : (i ≡ v) ⊎ (i ≡ v → ⊥) → Marks rows i v
      by_cases (inl e) = inl e
      by_cases (inr ne) = let f : (i == v) ≡ false = grind (arith, nat_tests) in inr (sym (ap (λ b. cond b true (mark rows i v)) f) ∙ t)

  abbrev counted : ℕ → ℕ → ℕ
  counted v i = cond (test i v) 1 0

  abbrev size : ℕ → ℕ
  size v = total (length rows) (counted v)

  abbrev rank : ℕ → ℕ
  rank g = size (least_of numbers g) - 1

  small : (g : ℕ) → rank g < 512
  small g = let s = total_small (length rows) (counted (least_of numbers g)) (λ i. counts_low (test i (least_of numbers g))) in omega arith

  some : (v : ℕ) → v < length rows → 0 < size v
  some v l =
      let s = total_lt (length rows) (λ i. 0) (counted v) v (λ i h. omega arith) l (counts_less false (test v v) (λ e. absurd (cc)) (passes v v (inl refl))) in omega arith

  -- an instance and the least one of its group
  least_inside : (a : ℕ) → a < length rows → least_of numbers (get_or numbers a 0) < length rows
  least_inside a l = let la : a < length numbers = omega arith in let u = numbered.used (get_or numbers a 0) (numbered.below a la) in omega arith

  with_least : (a : ℕ) → a < length rows → MarkEachOther rows (least_of numbers (get_or numbers a 0)) a
  with_least a l =
      let la : a < length numbers = omega arith in
      let u = numbered.used (get_or numbers a 0) (numbered.below a la) in
      (same (least_of numbers (get_or numbers a 0)) a u la).0 (first_hits (get_or numbers a 0) numbers u)

  module _ (a b : ℕ) (la : a < length rows) (lb : b < length rows) (step : Marks rows a b) (apart : get_or numbers a 0 ≡ get_or numbers b 0 → ⊥) where
    abbrev u : ℕ
    u = least_of numbers (get_or numbers a 0)

    abbrev w : ℕ
    w = least_of numbers (get_or numbers b 0)

    onward : (i : ℕ) → i < length rows → test i u ≡ true → test i w ≡ true
    onward i l t =
        let lu = least_inside a la in let lw = least_inside b lb in
        let to_a = transitive i u a l lu la (marks i u t) (with_least a la).0 in
        let to_b = transitive i a b l la lb to_a step in
        passes i w (transitive i b w l lb lw to_b (with_least b lb).1)

    no_way_back : test w u ≡ true → ⊥
    no_way_back t =
        let lu = least_inside a la in let lw = least_inside b lb in
        let to_u = transitive b w u lb lw lu (with_least b lb).1 (marks w u t) in
        let to_a = transitive b u a lb lu la to_u (with_least a la).0 in
        apart ((same a b (omega arith) (omega arith)).1 (step, to_a))

    larger : size u < size w
    larger =
        total_lt (length rows) (counted u) (counted w) w (λ i l. counts_more (test i u) (test i w) (onward i l)) (least_inside b lb)
        (counts_less (test w u) (test w w) no_way_back (passes w w (inl refl)))

    rank_grows : rank (get_or numbers a 0) < rank (get_or numbers b 0)
    rank_grows = let s = some u (least_inside a la) in let m = larger in omega arith

  grows : (e : ℕ) → e < length edges → (get_or numbers (from_of edges e) 0 ≡ get_or numbers (to_of edges e) 0 → ⊥) → rank (get_or numbers (from_of edges e) 0) < rank (get_or numbers (to_of edges e) 0)
  grows e l apart =
      let a = from_of edges e in let b = to_of edges e in
      let inside = ends e l in
      let along : Reaches edges a b = (suc zero, (e, l, refl, refl)) in
      rank_grows a b inside.0 inside.1 ((reached a b inside.0 inside.1).1 along) apart

  pub has_rank : HasRank numbers groups edges
  has_rank = (rank, record { small = small; grows = grows })
