-- The graphs of programs that are one as plain data are one.
use Rattle.std.proofs.Common.{◌≡◌, ◌⊎◌, ℕ, zero, suc, ◌<◌, ◌≤◌, ◌==◌, List, length, get_or, map, inl, inr, refl, sym, ap, subst, ◌∙◌, arith}
use Rattle.std.proofs.Math.Logic.{∥∥₁_elim}
use Rattle.std.proofs.Math.Nat.{ℕ_set}
use Rattle.std.proofs.lemmas.Bool.{cases_lt, cases_order}
use Rattle.std.proofs.lemmas.Bool.Decides.{nat_tests}
use Rattle.std.proofs.lemmas.Grind.{same_number_lists}
use Rattle.std.proofs.lemmas.List.Sums.{passes_at_first, fails_before_first}
use Rattle.std.proofs.lemmas.Simd.{map-map}
use Rattle.tapa_syntax.specs.declared.program.Instance.{Instance}
use Rattle.tapa_syntax.specs.declared.program.Program.{Program}
use Rattle.tapa_syntax.specs.Flat.{FlatInstance, FlatProgram, flat_instance, flat_leaf, flat_program}
use Rattle.task_graph.specs.declared.Edge.{Edge}
use Rattle.task_graph.specs.declared.Use.{Use}
use Rattle.task_graph.specs.Edges.{edge_of}
use Rattle.task_graph.specs.Streams.{AreGroups, AreNumbered, least_of}
use Rattle.task_graph.specs.Uses.{use_of}
use Rattle.tapa_laws.specs.plans.OneGraph.{ProgramsHaveOneGraph}
use Rattle.tapa_laws.proofs.plans.FlatUses.{flat_use, use_by_data}
use Rattle.tapa_laws.proofs.plans.Mapped.{map_alike}

-- ---- groups are numbered in one way

number_at_first : (xs : List ℕ) (v : ℕ) → least_of xs v < length xs → get_or xs (least_of xs v) 0 ≡ v
number_at_first xs v inside = let test = passes_at_first (λ x. x == v) xs 0 inside in grind (arith, nat_tests)

not_before_first : (xs : List ℕ) (v i : ℕ) → get_or xs i 0 ≡ v → least_of xs v ≤ i
not_before_first xs v i at = by_order (cases_lt i (least_of xs v))
  where
    by_order : (i < least_of xs v) ⊎ (least_of xs v ≤ i) → least_of xs v ≤ i
    by_order (inl less) = let test = fails_before_first (λ x. x == v) xs i 0 less in grind (arith, nat_tests)
    by_order (inr more) = more

-- An instance's number in one list is not less than in another. The other list would have the lesser number at an earlier
-- instance, where both lists have the same number, and one group would have two numbers.
not_less : (a b : List ℕ) (n i : ℕ) → AreNumbered b n → i < length b → ((j : ℕ) → j < i → get_or a j 0 ≡ get_or b j 0)
    → ((j : ℕ) → j < i → get_or a j 0 ≡ get_or a i 0 → get_or b j 0 ≡ get_or b i 0) → get_or a i 0 < get_or b i 0 → ⊥
not_less a b n i numbered inside before together less =
    let low = numbered.below i inside in
    let number = get_or a i 0 in
    let used = numbered.used number (omega arith) in
    let order = numbered.in_order number (get_or b i 0) less low in
    let first = not_before_first b (get_or b i 0) i refl in
    let j = least_of b number in
    let earlier : j < i = omega arith in
    let at = number_at_first b number used in
    let same = together j earlier (before j earlier ∙ at) in
    let no : ⊥ = omega arith in no

-- the numbers of a list are those below one count of groups
not_fewer : (xs : List ℕ) (m n : ℕ) → AreNumbered xs m → AreNumbered xs n → m < n → ⊥
not_fewer xs m n one other less =
    let used = other.used m less in
    let at = number_at_first xs m used in
    let low = one.below (least_of xs m) used in
    let no : ⊥ = omega arith in no

one_count : (xs : List ℕ) (m n : ℕ) → AreNumbered xs m → AreNumbered xs n → m ≡ n
one_count xs m n one other = by_order (cases_order m n)
  where
    by_order : (m ≡ n) ⊎ ((m < n) ⊎ (n < m)) → m ≡ n
    by_order (inl same) = same
    by_order (inr (inl less)) = absurd (not_fewer xs m n one other less)
    by_order (inr (inr more)) = absurd (not_fewer xs n m other one more)

-- instances that have one number in a list have one in another list of the same groups
together : (a b : List ℕ) (edges : List Edge) → length a ≡ length b → ∥ AreGroups a edges ∥₁ → ∥ AreGroups b edges ∥₁
    → (i j : ℕ) → i < length a → j < length a → get_or a i 0 ≡ get_or a j 0 → get_or b i 0 ≡ get_or b j 0
together a b edges long groups others i j li lj same =
    ∥∥₁_elim groups (ℕ_set (get_or b i 0) (get_or b j 0)) (λ (x : AreGroups a edges).
    ∥∥₁_elim others (ℕ_set (get_or b i 0) (get_or b j 0)) (λ (y : AreGroups b edges).
    (y i j (omega arith) (omega arith)).1 ((x i j li lj).0 same)))

module _ (a b : List ℕ) (m n : ℕ) (edges : List Edge) (long : length a ≡ length b)
    (one : AreNumbered a m) (other : AreNumbered b n) (groups : ∥ AreGroups a edges ∥₁) (others : ∥ AreGroups b edges ∥₁) where
  -- an instance has the same number in both lists where all before it have
  same_next : (i : ℕ) → i < length a → ((j : ℕ) → j < i → get_or a j 0 ≡ get_or b j 0) → get_or a i 0 ≡ get_or b i 0
  same_next i inside before = by_order (cases_order (get_or a i 0) (get_or b i 0))
    where
      by_order : (get_or a i 0 ≡ get_or b i 0) ⊎ ((get_or a i 0 < get_or b i 0) ⊎ (get_or b i 0 < get_or a i 0)) → get_or a i 0 ≡ get_or b i 0
      by_order (inl same) = same
      by_order (inr (inl less)) =
          absurd (not_less a b n i other (omega arith) before (λ j l. together a b edges long groups others j i (omega arith) inside) less)
      by_order (inr (inr more)) =
          absurd (not_less b a m i one inside (λ j l. sym (before j l)) (λ j l. together b a edges (sym long) others groups j i (omega arith) (omega arith)) more)

  same_below : (bound i : ℕ) → i < bound → i < length a → get_or a i 0 ≡ get_or b i 0
  same_below zero i low inside = absurd (omega arith)
  same_below (suc bound) i low inside = same_next i inside (λ j less. same_below bound j (omega arith) (omega arith))

  one_numbering : a ≡ b
  one_numbering = same_number_lists a b long (λ i inside. same_below (suc i) i (omega arith) inside)

  one_group_count : m ≡ n
  one_group_count = one_count b m n (subst (λ (l : List ℕ). AreNumbered l m) one_numbering one) other

-- ---- the labels, uses and streams of a graph, by its program as plain data

abbrev labels_by : FlatProgram → List (List ℕ)
labels_by f = map (λ (i : FlatInstance). i.label) f.instances

abbrev uses_by : FlatProgram → List Use
uses_by f = map (flat_use f.bodies) f.instances

abbrev edges_by : FlatProgram → List Edge
edges_by f = map edge_of f.streams

labels_are : (p : Program) → map (λ (i : Instance). i.label) p.instances.items ≡ labels_by (flat_program p)
labels_are p = sym (map-map (λ (i : FlatInstance). i.label) flat_instance p.instances.items)

uses_are : (p : Program) → map (use_of p.bodies.items) p.instances.items ≡ uses_by (flat_program p)
uses_are p =
    map_alike (use_of p.bodies.items) (λ (i : Instance). flat_use (map flat_leaf p.bodies.items) (flat_instance i)) (use_by_data p.bodies.items) p.instances.items
    ∙ sym (map-map (flat_use (map flat_leaf p.bodies.items)) flat_instance p.instances.items)

-- ---- one graph

pub one_graph : ProgramsHaveOneGraph
one_graph p q g h same x y =
    let labels : g.labels.items ≡ h.labels.items = x.labels ∙ labels_are p ∙ ap labels_by same ∙ sym (labels_are q) ∙ sym y.labels in
    let uses : g.uses.items ≡ h.uses.items = x.uses ∙ uses_are p ∙ ap uses_by same ∙ sym (uses_are q) ∙ sym y.uses in
    let edges : g.edges.items ≡ h.edges.items = x.edges ∙ ap edges_by same ∙ sym y.edges in
    let long : length g.group.items ≡ length h.group.items = sym g.labelled ∙ ap length labels ∙ h.labelled in
    let grouped : ∥ AreGroups h.group.items g.edges.items ∥₁ = subst (λ (l : List Edge). ∥ AreGroups h.group.items l ∥₁) (sym edges) h.grouped in
    record {
      labels = labels;
      group = one_numbering g.group.items h.group.items g.groups h.groups g.edges.items long g.numbered h.numbered g.grouped grouped;
      groups = one_group_count g.group.items h.group.items g.groups h.groups g.edges.items long g.numbered h.numbered g.grouped grouped;
      uses = uses;
      edges = edges;
    }
