-- The names of what scalar parameters are bound to: told apart by their numbers.
use Rattle.std.proofs.Common.{◌≡◌, ℕ, zero, suc, ◌+◌, ◌-◌, ◌^◌, ◌<◌, ◌≤◌, true, List, [], ◌∷◌, length, get_or, drop, inl, inr, refl, sym, ap, subst, ◌∙◌, arith, length-append}
use Rattle.std.specs.Prelude.{codes, decimal, slice_index_or}
use Rattle.std.specs.List.{flat_map}
use Rattle.std.proofs.lemmas.Fmt.{decimal_injective}
use Rattle.std.proofs.Math.Seq.{drop-append_seam}
use Rattle.tapa_base.specs.declared.kind.Kind.{Kind}
use Rattle.tapa_base.specs.declared.kind.Kind.TheVariants.{U64}
use Rattle.tapa_base.specs.Kinds.{bits_of}
use Rattle.tapa_syntax.specs.declared.program.Bound.{Bound}
use Rattle.tapa_syntax.specs.declared.program.Bound.TheVariants.{Number, Top}
use Rattle.tapa_syntax.specs.declared.program.Program.{Program}
use Rattle.vlog_tree.specs.declared.tree.Atom.TheVariants.{Net, Literal}
use Rattle.vlog_tree.specs.declared.tree.Value.TheVariants.{Plain}
use Rattle.tapa_base.specs.Lists.{Has}
use Rattle.vlog_tree.specs.Labels.{scalar}
use Rattle.vlog_tree.specs.Names.{is_name, starts_name, goes_on}
use Rattle.vlog_tree.specs.Table.{Name}
use Rattle.hw_build.specs.Elements.{Element, Wire}
use Rattle.hw_build.specs.Trees.{numbered, tree_node, tree_nodes}
use Rattle.hw_build.specs.Scope.{each}
use Rattle.hw_build.specs.Fits.{declared_names, AreOnce}
use Rattle.hw_build.proofs.Once.{two_once}
use Rattle.hw_lines.specs.Drivers.{Driver, wires_of, last_of, conversion}
use Rattle.hw_lines.specs.Names.{AreSmall}
use Rattle.hw_lines.specs.Nets.{spelled}
use Rattle.hw_lines.proofs.Names.{same_spelled, spelled_tail}
use Rattle.hw_lines.proofs.Spelled.{numbered_name}
use Rattle.hw_task_laws.proofs.names.Bounds.{each_many}
use Rattle.hw_task_laws.proofs.names.Named.{single}
use Rattle.hw_task_laws.proofs.names.Rows.{AreRow, row_append, row_names, drivers_row}
use Rattle.hw_top_lines.specs.Names.{bound_net, ended_net, waits}
use Rattle.hw_top_lines.specs.Bounds.{scalar_kind, scalar_name, converted_net, kind_before, conversion_step, bound_nets}
use Rattle.hw_top_laws.proofs.names.Made.{sort}
use Rattle.hw_top_laws.proofs.names.Named.{IsOf, Names, Any, names_apart, names_each, names_one}

-- ---- rows of wires with numbers

pub same_numbered : (front : Name) (i j : ℕ) → i < 2 ^ 64 → j < 2 ^ 64 → numbered front i ≡ numbered front j → i ≡ j
unfolding numbered
same_numbered front i j a b e =
    let rest : 95 ∷ decimal i ≡ 95 ∷ decimal j = sym (drop-append_seam front (95 ∷ decimal i)) ∙ ap (drop (length front)) e ∙ drop-append_seam front (95 ∷ decimal j) in
    decimal_injective i j a b (ap (drop 1) rest)

pub row_once : (front : Name) (n : ℕ) (es : List Element) → AreRow front n es → n + length es ≤ 2 ^ 64 → AreOnce (flat_map declared_names es)
row_once front n [] h s = λ x. omega arith
row_once front n (e ∷ es) h s =
    two_once (declared_names e) (flat_map declared_names es) (subst AreOnce (sym (ap declared_names h.0.2)) (single (numbered front n))) (row_once front (suc n) es h.1 (omega (arith, s))) apart where
      first : (x : Name) → Has (declared_names e) x → x ≡ numbered front n
      first x p = only (subst (λ l. Has l x) (ap declared_names h.0.2) p) where
        only : Has (numbered front n ∷ []) x → x ≡ numbered front n
        only (inl i) = sym i
        only (inr m) = absurd m

      apart : (x : Name) → Has (declared_names e) x → Has (flat_map declared_names es) x → ⊥
      apart x p q =
          let t = row_names front (suc n) es h.1 x q in
          let low : suc n ≤ t.0 = t.1 in
          let high : t.0 < suc n + length es = t.2 in
          let same : n ≡ t.0 = same_numbered front n t.0 (omega (arith, s)) (omega (arith, s, high)) (sym (first x p) ∙ t.3) in
          omega (arith, low, same)

-- ---- names of numbers behind `b`

pub record IsSpelled (K : List ℕ → Type 0) (x : Name) : Type 0 where
  pub numbers : List ℕ
  pub small : AreSmall numbers
  pub is : x ≡ spelled (codes "b") numbers
  pub so : K numbers

pub same_numbers : (J K : List ℕ → Type 0) (x : Name) (a : IsSpelled J x) (b : IsSpelled K x) → a.numbers ≡ b.numbers
same_numbers J K x a b = (same_spelled (codes "b") (codes "b") a.numbers b.numbers refl refl a.small b.small (sym a.is ∙ b.is)).1

b_sort : (ns : List ℕ) → sort (spelled (codes "b") ns) ≡ 13
b_sort ns = ap sort (spelled_tail (codes "b") ns)

b_form : (n : ℕ) (ns : List ℕ) → AreSmall (n ∷ ns) → is_name (spelled (codes "b") (n ∷ ns)) ≡ true
unfolding starts_name goes_on
b_form n ns small = numbered_name (codes "b") n ns (omega arith) refl small

-- the first numbers
abbrev pub OfInstance : ℕ → List ℕ → Type 0
OfInstance i ns = get_or ns 0 0 ≡ i

abbrev pub OfParameter : ℕ → ℕ → List ℕ → Type 0
OfParameter i p ns = (get_or ns 0 0 ≡ i) × (get_or ns 1 0 ≡ p)

abbrev pub OfStep : ℕ → ℕ → ℕ → List ℕ → Type 0
OfStep i p k ns = (get_or ns 0 0 ≡ i) × (get_or ns 1 0 ≡ p) × (get_or ns 2 0 ≡ k)

module _ (i p : ℕ) (small_i : i < 2 ^ 64) (small_p : p < 2 ^ 64) where
  net_spelled : (k : ℕ) → k < 2 ^ 64 → IsSpelled (OfStep i p k) (bound_net i p k)
  unfolding bound_net
  net_spelled k small_k = record { numbers = i ∷ p ∷ k ∷ []; small = (small_i, (small_p, (small_k, tt))); is = refl; so = (refl, refl, refl) }

  net_facts : (k : ℕ) → k < 2 ^ 64 → (sort (bound_net i p k) ≡ 13) × (is_name (bound_net i p k) ≡ true)
  unfolding bound_net
  net_facts k small_k = (b_sort (i ∷ p ∷ k ∷ []), b_form i (p ∷ k ∷ []) (small_i, (small_p, (small_k, tt))))

  wire_spelled : (k n : ℕ) → k < 2 ^ 64 → n < 2 ^ 64 → IsSpelled (λ ns. OfStep i p k ns × (length ns ≡ 4)) (numbered (bound_net i p k) n)
  unfolding bound_net
  wire_spelled k n small_k small_n =
      record { numbers = i ∷ p ∷ k ∷ n ∷ []; small = (small_i, (small_p, (small_k, (small_n, tt)))); is = refl; so = ((refl, refl, refl), refl) }

  wire_facts : (k n : ℕ) → k < 2 ^ 64 → n < 2 ^ 64 → (sort (numbered (bound_net i p k) n) ≡ 13) × (is_name (numbered (bound_net i p k) n) ≡ true)
  unfolding bound_net
  wire_facts k n small_k small_n = (b_sort (i ∷ p ∷ k ∷ n ∷ []), b_form i (p ∷ k ∷ n ∷ []) (small_i, (small_p, (small_k, (small_n, tt)))))

  last_spelled : (k : ℕ) → k < 2 ^ 64 → IsSpelled (λ ns. OfStep i p k ns × (length ns ≡ 3)) (bound_net i p k)
  unfolding bound_net
  last_spelled k small_k = record { numbers = i ∷ p ∷ k ∷ []; small = (small_i, (small_p, (small_k, tt))); is = refl; so = ((refl, refl, refl), refl) }

  step_only : (L : List ℕ → Type 0) (k : ℕ) (x : Name) → IsSpelled (λ ns. OfStep i p k ns × L ns) x → IsSpelled (OfStep i p k) x
  step_only L k x s = record { numbers = s.numbers; small = s.small; is = s.is; so = s.so.0 }

  -- the wires of a conversion
  wires_named : (k : ℕ) (drivers : List Driver) → k < 2 ^ 64 → Names (IsSpelled (λ ns. OfStep i p k ns × (length ns ≡ 4))) 13 14 (wires_of (bound_net i p k) 0 drivers)
  wires_named k drivers small_k = λ s. record {
    once = row_once (bound_net i p k) 0 (wires_of (bound_net i p k) 0 drivers) (drivers_row (bound_net i p k) 0 drivers).wires (omega (arith, s));
    names = λ x h.
        let r = row_names (bound_net i p k) 0 (wires_of (bound_net i p k) 0 drivers) (drivers_row (bound_net i p k) 0 drivers).wires x h in
        let high : r.0 < 0 + length (wires_of (bound_net i p k) 0 drivers) = r.2 in
        let small_n : r.0 < 2 ^ 64 = omega (arith, high, s) in
        subst (λ y. IsOf (IsSpelled (λ ns. OfStep i p k ns × (length ns ≡ 4))) 13 14 y) (sym r.3) (of_wire r.0 small_n);
  } where
    of_wire : (n : ℕ) → n < 2 ^ 64 → IsOf (IsSpelled (λ ns. OfStep i p k ns × (length ns ≡ 4))) 13 14 (numbered (bound_net i p k) n)
    of_wire n small_n =
        let f = wire_facts k n small_k small_n in
        let s : sort (numbered (bound_net i p k) n) ≡ 13 = f.0 in
        record { so = wire_spelled k n small_k small_n; from = omega (arith, s); below = omega (arith, s); named = f.1 }

  longer : (k : ℕ) (x : Name) → IsSpelled (λ ns. OfStep i p k ns × (length ns ≡ 4)) x → IsSpelled (λ ns. OfStep i p k ns × (length ns ≡ 3)) x → ⊥
  longer k x a b =
      let e : length a.numbers ≡ length b.numbers = ap length (same_numbers (λ ns. OfStep i p k ns × (length ns ≡ 4)) (λ ns. OfStep i p k ns × (length ns ≡ 3)) x a b) in
      let f : length a.numbers ≡ 4 = a.so.1 in
      let g : length b.numbers ≡ 3 = b.so.1 in
      omega (arith, e, f, g)

  pub converted_named : (k : ℕ) (source target : Kind) (old : Name) → k < 2 ^ 64 → Names (IsSpelled (OfStep i p k)) 13 14 (converted_net (bound_net i p k) source target old)
  converted_named k source target old small_k =
      let x = bound_net i p k in
      let drivers = conversion x 0 source target (Net old) in
      let f = net_facts k small_k in
      names_apart (IsSpelled (λ ns. OfStep i p k ns × (length ns ≡ 4))) (IsSpelled (λ ns. OfStep i p k ns × (length ns ≡ 3))) (IsSpelled (OfStep i p k)) 13 14 (wires_of x 0 drivers) _
      (λ y s. step_only (λ ns. length ns ≡ 4) k y s) (λ y s. step_only (λ ns. length ns ≡ 3) k y s) (λ y a b. longer k y a b) (wires_named k drivers small_k)
      (names_one (IsSpelled (λ ns. OfStep i p k ns × (length ns ≡ 3))) 13 (Wire (bits_of target) x (Plain (last_of x 0 drivers (Net old)))) x refl (last_spelled k small_k) f.0 f.1)

  told_step : (j k : ℕ) (x : Name) → IsSpelled (OfStep i p (suc j)) x → IsSpelled (OfStep i p (suc k)) x → j ≡ k
  told_step j k x a b =
      let e : suc j ≡ suc k = sym a.so.2 ∙ ap (λ ns. get_or ns 2 0) (same_numbers (OfStep i p (suc j)) (OfStep i p (suc k)) x a b) ∙ b.so.2 in
      omega (arith, e)

  later : (x : Name) → IsSpelled (λ ns. (get_or ns 0 0 ≡ i) × (get_or ns 1 0 ≡ p) × (0 < get_or ns 2 0)) x → IsSpelled (OfStep i p 0) x → ⊥
  later x a b =
      let e : get_or a.numbers 2 0 ≡ get_or b.numbers 2 0 = ap (λ ns. get_or ns 2 0) (same_numbers (λ ns. (get_or ns 0 0 ≡ i) × (get_or ns 1 0 ≡ p) × (0 < get_or ns 2 0)) (OfStep i p 0) x a b) in
      let f : 0 < get_or a.numbers 2 0 = a.so.2 in
      let g : get_or b.numbers 2 0 ≡ 0 = b.so.2 in
      omega (arith, e, f, g)

  step_named : (first : Kind) (kinds : List Kind) (step : ℕ) → step < 2 ^ 64 - 1 → Names (IsSpelled (OfStep i p (suc step))) 13 14 (conversion_step i p first kinds step)
  step_named first kinds step few =
      let e : step + 1 ≡ suc step = omega arith in
      subst (λ k. Names (IsSpelled (OfStep i p (suc step))) 13 14 (converted_net (bound_net i p k) (kind_before first kinds step) (slice_index_or kinds step U64) (bound_net i p step))) (sym e)
      (converted_named (suc step) (kind_before first kinds step) (slice_index_or kinds step U64) (bound_net i p step) (omega (arith, few)))

  chain_named : (first : Kind) (kinds : List Kind) (n : ℕ) → n < 2 ^ 64 → Names (IsSpelled (λ ns. (get_or ns 0 0 ≡ i) × (get_or ns 1 0 ≡ p) × (0 < get_or ns 2 0))) 13 14 (each (conversion_step i p first kinds) n)
  chain_named first kinds n few =
      names_each (IsSpelled (λ ns. (get_or ns 0 0 ≡ i) × (get_or ns 1 0 ≡ p) × (0 < get_or ns 2 0))) (λ k. IsSpelled (OfStep i p (suc k))) 13 14 (conversion_step i p first kinds) n
      (λ k x s. let e : get_or s.numbers 2 0 ≡ suc k = s.so.2 in record { numbers = s.numbers; small = s.small; is = s.is; so = (s.so.0, s.so.1, omega (arith, e)) })
      told_step (λ k l. step_named first kinds k (omega (arith, l, few)))

  some_step : (first : Kind) (kinds : List Kind) (k : ℕ) → 1 ≤ length (conversion_step i p first kinds k)
  some_step first kinds k =
      let x = bound_net i p (k + 1) in
      let drivers = conversion x 0 (kind_before first kinds k) (slice_index_or kinds k U64) (Net (bound_net i p k)) in
      let e = length-append (wires_of x 0 drivers) (Wire (bits_of (slice_index_or kinds k U64)) x (Plain (last_of x 0 drivers (Net (bound_net i p k)))) ∷ []) in
      omega (arith, e)

  parameter_only : (K : List ℕ → Type 0) (x : Name) → ((ns : List ℕ) → K ns → OfParameter i p ns) → IsSpelled K x → IsSpelled (OfParameter i p) x
  parameter_only K x f s = record { numbers = s.numbers; small = s.small; is = s.is; so = f s.numbers s.so }

  first_named : (e : Element) → declared_names e ≡ bound_net i p 0 ∷ [] → Names (IsSpelled (OfStep i p 0)) 13 14 (e ∷ [])
  first_named e is = let f = net_facts 0 (omega arith) in names_one (IsSpelled (OfStep i p 0)) 13 e (bound_net i p 0) is (net_spelled 0 (omega arith)) f.0 f.1

  -- the nets of a parameter
  pub bound_named : (program : Program) (k : Kind) (b : Bound) → Names (IsSpelled (OfParameter i p)) 13 14 (bound_nets program i p k b)
  bound_named program k (Number n) = λ s.
      let r = first_named (Wire (bits_of k) (bound_net i p 0) (Plain (Literal (bits_of k) n))) refl s in
      record {
        once = r.once;
        names = λ x h. let t = r.names x h in record { so = parameter_only (OfStep i p 0) x (λ ns q. (q.0, q.1)) t.so; from = t.from; below = t.below; named = t.named };
      }
  bound_named program k (Top x kinds) = λ s.
      let first = Wire (bits_of (scalar_kind program x)) (bound_net i p 0) (Plain (Net (scalar (scalar_name program x)))) in
      let chain = each (conversion_step i p (scalar_kind program x) kinds.items) (length kinds.items) in
      let many : length kinds.items ≤ length chain = each_many (conversion_step i p (scalar_kind program x) kinds.items) (length kinds.items) (λ j l. some_step (scalar_kind program x) kinds.items j) in
      names_apart (IsSpelled (OfStep i p 0)) (IsSpelled (λ ns. (get_or ns 0 0 ≡ i) × (get_or ns 1 0 ≡ p) × (0 < get_or ns 2 0))) (IsSpelled (OfParameter i p)) 13 14 (first ∷ []) chain
      (λ y t. parameter_only (OfStep i p 0) y (λ ns q. (q.0, q.1)) t)
      (λ y t. parameter_only (λ ns. (get_or ns 0 0 ≡ i) × (get_or ns 1 0 ≡ p) × (0 < get_or ns 2 0)) y (λ ns q. (q.0, q.1)) t)
      (λ y a b. later y b a) (first_named first refl) (chain_named (scalar_kind program x) kinds.items (length kinds.items) (omega (arith, many, s))) s

pub told_parameter : (i j k : ℕ) (x : Name) → IsSpelled (OfParameter i j) x → IsSpelled (OfParameter i k) x → j ≡ k
told_parameter i j k x a b = sym a.so.1 ∙ ap (λ ns. get_or ns 1 0) (same_numbers (OfParameter i j) (OfParameter i k) x a b) ∙ b.so.1

pub told_instance : (j k : ℕ) (x : Name) → IsSpelled (OfInstance j) x → IsSpelled (OfInstance k) x → j ≡ k
told_instance j k x a b = sym a.so ∙ ap (λ ns. get_or ns 0 0) (same_numbers (OfInstance j) (OfInstance k) x a b) ∙ b.so

-- ---- whether instances have ended

pub ended_facts : (i : ℕ) → i < 2 ^ 64 → (sort (ended_net i) ≡ 14) × (is_name (ended_net i) ≡ true)
unfolding ended_net starts_name goes_on
ended_facts i small = (ap sort (spelled_tail (codes "ended") (i ∷ [])), numbered_name (codes "ended") i [] (omega arith) refl (small, tt))

pub same_ended : (i j : ℕ) → i < 2 ^ 64 → j < 2 ^ 64 → ended_net i ≡ ended_net j → i ≡ j
unfolding ended_net
same_ended i j a b e = same_numbered (codes "ended") i j a b e

pub waits_facts : (n : ℕ) → n < 2 ^ 64 → (sort (numbered waits n) ≡ 16) × (is_name (numbered waits n) ≡ true)
unfolding waits starts_name goes_on
waits_facts n small = (ap sort (spelled_tail (codes "waits") (n ∷ [])), numbered_name (codes "waits") n [] (omega arith) refl (small, tt))

pub waits_named : (es : List Element) → AreRow waits 0 es → Names Any 16 17 es
waits_named es row = λ s. record {
  once = row_once waits 0 es row (omega (arith, s));
  names = λ x h.
      let r = row_names waits 0 es row x h in
      let high : r.0 < 0 + length es = r.2 in
      subst (λ y. IsOf Any 16 17 y) (sym r.3) (of_wait r.0 (omega (arith, high, s)));
} where
  of_wait : (n : ℕ) → n < 2 ^ 64 → IsOf Any 16 17 (numbered waits n)
  of_wait n small =
      let f = waits_facts n small in
      let s : sort (numbered waits n) ≡ 16 = f.0 in
      record { so = tt; from = omega (arith, s); below = omega (arith, s); named = f.1 }

pub nodes_long : (w : ℕ) (front : Name) (leaves m : ℕ) → length (tree_nodes w front leaves m) ≡ m
nodes_long w front leaves zero = refl
nodes_long w front leaves (suc m) =
    let e = length-append (tree_nodes w front leaves m) (tree_node w front leaves m ∷ []) in
    let r = nodes_long w front leaves m in
    omega (arith, e, r)

pub nodes_row : (w : ℕ) (front : Name) (leaves m : ℕ) → AreRow front leaves (tree_nodes w front leaves m)
nodes_row w front leaves zero = tt
nodes_row w front leaves (suc m) =
    row_append front leaves (tree_nodes w front leaves m) (tree_node w front leaves m ∷ []) (nodes_row w front leaves m)
    (subst (λ z. AreRow front z (tree_node w front leaves m ∷ [])) (ap (λ z. leaves + z) (sym (nodes_long w front leaves m))) ((w, _, refl), tt))
