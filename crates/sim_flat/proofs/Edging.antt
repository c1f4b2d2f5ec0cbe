-- Lists of edges as they grow.
use Rattle.std.proofs.Common.{◌≡◌, ℕ, zero, suc, ◌+◌, ◌<◌, ◌≤◌, Bool, true, false, cond, Option, List, [], ◌++◌, length, get_or, drop, Some, inl, inr, refl, sym, ap, subst, ◌∙◌, append_assoc, arith}
use Rattle.std.specs.Prelude.{◌⊎◌, ◌==◌}
use Rattle.std.specs.Option.{option_map_or}
use Rattle.std.specs.List.{flat_map}
use Rattle.std.proofs.lemmas.Bool.{cases_eq}
use Rattle.std.proofs.lemmas.Option.{slice_get_past}
use Rattle.vlog_tree.specs.declared.table.Declaration.{Declaration}
use Rattle.vlog_tree.specs.Form.{ModuleTree}
use Rattle.tapa_base.specs.Lists.{Has}
use Rattle.vlog_tree.specs.Table.{Name}
use Rattle.vlog_tree.proofs.Walks.{grows}
use Rattle.tapa_base.proofs.Lists.{has_left, has_right, has_split, has_flat, of_flat}
use Rattle.sim_flat.specs.Places.{number_in, both}
use Rattle.sim_flat.specs.declared.instances.Instance as row
use Rattle.sim_flat.specs.declared.flat.Flat.{Flat}
use Rattle.sim_flat.specs.Edges.{net_edge, net_edges, edges_below, joins_in, join_edges}
use Rattle.sim_flat.proofs.Names.{of_both, is_both, of_edge, has_edge}
use Rattle.std.proofs.lemmas.Grind.{flat_map-append}

-- what two calls add
pub added_both : {A B : Type 0} (f : A → List B) (xs ys : List A) (old mid new : List B) → mid ≡ old ++ flat_map f xs → new ≡ mid ++ flat_map f ys → new ≡ old ++ flat_map f (xs ++ ys)
added_both f xs ys old mid new a b = b ∙ ap (λ l. l ++ flat_map f ys) a ∙ append_assoc old (flat_map f xs) (flat_map f ys) ∙ ap (λ l. old ++ l) (sym (flat_map-append f xs ys))

pub of_net_edges : (base : ℕ) (ds : List Declaration) (x : Name) (ys : List Name) (p q : ℕ) → Has (net_edges base ds x ys) (p, q) → (y : Name) × Has ys y × (number_in base ds x ≡ Some p) × (number_in base ds y ≡ Some q)
of_net_edges base ds x ys p q h =
    let t = of_flat (net_edge base ds x) ys (p, q) h in
    let e = of_both (number_in base ds x) (number_in base ds t.0) p q (of_edge (both (number_in base ds x) (number_in base ds t.0)) p q t.2) in
    (t.0, t.1, e.0, e.1)

pub has_net_edges : (base : ℕ) (ds : List Declaration) (x y : Name) (ys : List Name) (p q : ℕ) → Has ys y → number_in base ds x ≡ Some p → number_in base ds y ≡ Some q → Has (net_edges base ds x ys) (p, q)
has_net_edges base ds x y ys p q h e f =
    has_flat (net_edge base ds x) ys y (p, q) h (has_edge (both (number_in base ds x) (number_in base ds y)) p q (is_both (number_in base ds x) (number_in base ds y) p q e f))

pub of_below : (g : ℕ → List (ℕ × ℕ)) (n : ℕ) (e : ℕ × ℕ) → Has (edges_below g n) e → (k : ℕ) × (k < n) × Has (g k) e
of_below g zero e h = absurd h
of_below g (suc n) e h = elim (has_split (edges_below g n) (g n) e h) [
  | inl l ↦ (let t = of_below g n e l in let low : t.0 < n = t.1 in let z : t.0 < suc n = omega arith in (t.0, z, t.2))
  | inr r ↦ (let z : n < suc n = omega arith in (n, z, r))
]

below_of : (g : ℕ → List (ℕ × ℕ)) (n k : ℕ) (e : ℕ × ℕ) → Has (g k) e → (k < n → Has (edges_below g n) e) → k < suc n → (k ≡ n) ⊎ ((k ≡ n) → ⊥) → Has (edges_below g n ++ g n) e
below_of g n k e h f low (inl same) = has_right (edges_below g n) (g n) e (subst (λ m. Has (g m) e) same h)
below_of g n k e h f low (inr ne) = has_left (edges_below g n) (g n) e (f (omega (arith, ne)))

pub has_below : (g : ℕ → List (ℕ × ℕ)) (n k : ℕ) (e : ℕ × ℕ) → k < n → Has (g k) e → Has (edges_below g n) e
has_below g zero k e low h = absurd (omega arith)
has_below g (suc n) k e low h = below_of g n k e h (λ lt. has_below g n k e lt h) low (cases_eq k n)

-- the names of one more element are gone over
pub names_more : {X A B : Type 0} (f : A → List B) (g : X → List A) (xs : List X) (i : ℕ) (x : X) (old new all : List B) → i < length xs → x ≡ get_or xs i x → new ≡ old ++ flat_map f (g x)
    → old ++ flat_map f (flat_map g (drop i xs)) ≡ all → new ++ flat_map f (flat_map g (drop (i + 1) xs)) ≡ all
names_more f g xs i x old new all low is step inv = grows (λ l. flat_map f (flat_map g l)) xs i x old new (flat_map f (g x)) all (λ rest. flat_map-append f (g x) (flat_map g rest)) low is step inv

-- the edges of one more instance
pub below_more : (g : ℕ → List (ℕ × ℕ)) (k : ℕ) (first old new : List (ℕ × ℕ)) → old ≡ first ++ edges_below g k → new ≡ old ++ g k → new ≡ first ++ edges_below g (k + 1)
below_more g k first old new inv step =
    let e : suc k ≡ k + 1 = omega arith in
    step ∙ ap (λ l. l ++ g k) inv ∙ append_assoc first (edges_below g k) (g k) ∙ ap (λ n. first ++ edges_below g n) e

-- past the last instance there are no connections
pub join_past : (ms : List ModuleTree) (f : Flat) (k : ℕ) → length f.instances.items ≤ k → join_edges ms f k ≡ []
join_past ms f k high = ap (λ (o : Option row.Instance). cond (k == 0) [] (option_map_or (joins_in ms f k) o [])) (slice_get_past f.instances.items k high) ∙ nothing (k == 0) where
  nothing : (b : Bool) → ◌≡◌ {A = List (ℕ × ℕ)} (cond b [] []) []
  nothing true = refl
  nothing false = refl
