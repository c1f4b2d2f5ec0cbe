-- What rests in a module reaches in the graph of all modules at once.
use Rattle.std.proofs.Common.{◌≡◌, Bool, true, false, cond, List, ◌∷◌, [], Some, inl, inr, refl, sym, ap, subst, ◌∙◌, map}
use Rattle.std.specs.Prelude.{bytes_eq}
use Rattle.std.specs.List.{flat_map}
use Rattle.std.specs.Cmp.Lexicographic.{bytes_decides}
use Rattle.vlog_tree.specs.declared.table.Declaration.{Declaration}
use Rattle.vlog_tree.specs.declared.table.NetKind.{NetKind}
use Rattle.vlog_tree.specs.declared.table.NetKind.TheVariants.{Unknown, Input, Output}
use Rattle.vlog_tree.specs.declared.tree.PortDecl.{PortDecl}
use Rattle.tapa_base.specs.Lists.{Has, one, more}
use Rattle.vlog_tree.specs.Form.{ModuleTree}
use Rattle.vlog_tree.specs.Table.{Name, declaration_name, port_declared, module_named, net_kind_of, net_kind_is_input, ports_in, ports_of}
use Rattle.vlog_tree.specs.Loops.{Reaches, Rests, directly, through, after, port_of, direct_edges, instances}
use Rattle.vlog_tree.proofs.Lists.{known}
use Rattle.tapa_base.proofs.Lists.{has_flat, has_map, of_map, has_left, has_right, chains}
use Rattle.vlog_net_graph.specs.Merged.{port_pair, port_edge, join, joins, module_merged, merged_edges}

-- the module that a name finds has that name
found_of : (m : ModuleTree) (ms : List ModuleTree) (x : Name) (k : ModuleTree) (b : Bool) → bytes_eq m.name x ≡ b → (module_named ms x ≡ Some k → Has ms k × (k.name ≡ x)) → cond b (Some m) (module_named ms x) ≡ Some k → Has {N = ModuleTree} (m ∷ ms) k × (k.name ≡ x)
found_of m ms x k true e ih h = let same : m ≡ k = cc h in (inl same, ap (λ (t : ModuleTree). t.name) (sym same) ∙ (bytes_decides m.name x).0 e)
found_of m ms x k false e ih h = let r = ih h in (inr r.0, r.1)

pub found : (ms : List ModuleTree) (x : Name) (k : ModuleTree) → module_named ms x ≡ Some k → Has ms k × (k.name ≡ x)
found [] x k h = cc
found (m ∷ ms) x k h = found_of m ms x k (bytes_eq m.name x) refl (found ms x k) h

pub no_output : Unknown ≡ Output → ⊥
no_output e = cc

pub no_input : Unknown ≡ Input → ⊥
no_input e = cc

module _ (ports : List Declaration) (k p net : Name) where
  edge_out : net_kind_of ports p ≡ Output → port_edge ports k p net ≡ (net, port_of k p)
  edge_out e = ap (λ (s : NetKind). cond (net_kind_is_input s) (port_of k p, net) (net, port_of k p)) e

  edge_in : net_kind_of ports p ≡ Input → port_edge ports k p net ≡ (port_of k p, net)
  edge_in e = ap (λ (s : NetKind). cond (net_kind_is_input s) (port_of k p, net) (net, port_of k p)) e

module _ (ms : List ModuleTree) (is_top : Name → Bool) where
  -- the edges of a module are there
  module _ (m : ModuleTree) (in_ms : Has ms m) where
    own_edge : (a b : Name) → Has (direct_edges ms is_top m) (a, b) → Has (merged_edges ms is_top) (port_of m.name a, port_of m.name b)
    own_edge a b h =
        has_flat (module_merged ms is_top) ms m (port_of m.name a, port_of m.name b) in_ms
        (has_left (map (port_pair m.name) (direct_edges ms is_top m)) (flat_map (joins ms m.name) (instances m)) (port_of m.name a, port_of m.name b)
        (has_map (port_pair m.name) (direct_edges ms is_top m) (a, b) h))

    join_edge : (kn i : Name) (d : Declaration) → Has (instances m) (kn, i) → Has (map port_declared (ports_of ms kn)) d
        → Has (merged_edges ms is_top) (join (map port_declared (ports_of ms kn)) m.name (kn, i) d)
    join_edge kn i d inst h =
        let e = join (map port_declared (ports_of ms kn)) m.name (kn, i) d in
        has_flat (module_merged ms is_top) ms m e in_ms
        (has_right (map (port_pair m.name) (direct_edges ms is_top m)) (flat_map (joins ms m.name) (instances m)) e
        (has_flat (joins ms m.name) (instances m) (kn, i) e inst (has_map (join (map port_declared (ports_of ms kn)) m.name (kn, i)) (map port_declared (ports_of ms kn)) d h)))

    -- that of a port by its name
    edge_of : (kn i x : Name) → Has (instances m) (kn, i) → Has (map declaration_name (map port_declared (ports_of ms kn))) x
        → Has (merged_edges ms is_top) (port_edge (map port_declared (ports_of ms kn)) kn x (port_of m.name (port_of i x)))
    edge_of kn i x inst h =
        let t = of_map declaration_name (map port_declared (ports_of ms kn)) x h in
        subst (λ (z : Name). Has (merged_edges ms is_top) (port_edge (map port_declared (ports_of ms kn)) kn z (port_of m.name (port_of i z)))) t.2 (join_edge kn i t.0 inst t.1)

    -- from an output of an instance to an input, by a way inside
    passes : (k : ModuleTree) (kn i x y : Name) → Has (instances m) (kn, i) → k.ports ≡ ports_of ms kn → k.name ≡ kn
        → net_kind_of (map port_declared k.ports) x ≡ Output → net_kind_of (map port_declared k.ports) y ≡ Input
        → Reaches (merged_edges ms is_top) (port_of k.name x) (port_of k.name y) → Reaches (merged_edges ms is_top) (port_of m.name (port_of i x)) (port_of m.name (port_of i y))
    passes k kn i x y inst same named out into inside =
        let ports = map port_declared (ports_of ms kn) in
        let is_out : net_kind_of ports x ≡ Output = subst (λ (p : List PortDecl). net_kind_of (map port_declared p) x ≡ Output) same out in
        let is_in : net_kind_of ports y ≡ Input = subst (λ (p : List PortDecl). net_kind_of (map port_declared p) y ≡ Input) same into in
        let first : Has (merged_edges ms is_top) (port_of m.name (port_of i x), port_of kn x) =
        subst (λ (e : Name × Name). Has (merged_edges ms is_top) e) (edge_out ports kn x (port_of m.name (port_of i x)) is_out) (edge_of kn i x inst (known ports x Output no_output is_out)) in
        let last : Has (merged_edges ms is_top) (port_of kn y, port_of m.name (port_of i y)) =
        subst (λ (e : Name × Name). Has (merged_edges ms is_top) e) (edge_in ports kn y (port_of m.name (port_of i y)) is_in) (edge_of kn i y inst (known ports y Input no_input is_in)) in
        let between : Reaches (merged_edges ms is_top) (port_of kn x) (port_of kn y) = subst (λ (n : Name). Reaches (merged_edges ms is_top) (port_of n x) (port_of n y)) named inside in
        more (port_of kn x) first (chains _ (port_of kn x) (port_of kn y) (port_of m.name (port_of i y)) between (one last))

  pub rests_merged : {m : ModuleTree} {a b : Name} → Has ms m → Rests ms is_top m a b → Reaches (merged_edges ms is_top) (port_of m.name a) (port_of m.name b)
  rests_merged in_ms (directly {m = m} {x = x} {y = y} h) = one (own_edge m in_ms x y h)
  rests_merged in_ms (through {m = m} {a = a} {b = b} k kn i x y inst named out into inside ea eb) =
      let f = found ms kn k named in
      let whole = passes m in_ms k kn i x y inst (sym (ap ports_in named)) f.1 out into (rests_merged f.0 inside) in
      subst (λ (z : Name). Reaches (merged_edges ms is_top) (port_of m.name a) (port_of m.name z)) (sym eb)
      (subst (λ (z : Name). Reaches (merged_edges ms is_top) (port_of m.name z) (port_of m.name (port_of i y))) (sym ea) whole)
  rests_merged in_ms (after {m = m} {x = x} {z = z} y r s) = chains _ (port_of m.name x) (port_of m.name y) (port_of m.name z) (rests_merged in_ms r) (rests_merged in_ms s)

  -- without a cycle there no module has a loop
  pub merged_loopless : ((x : Name) → Reaches (merged_edges ms is_top) x x → ⊥) → (m : ModuleTree) → Has ms m → (x : Name) → Rests ms is_top m x x → ⊥
  merged_loopless none m in_ms x r = none (port_of m.name x) (rests_merged in_ms r)
