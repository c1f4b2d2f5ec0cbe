-- What is among the parts of a net.
use Rattle.std.proofs.Common.{◌≡◌, Bool, true, false, ◌&&◌, List, [], ◌∷◌, Some, inl, refl, sym, subst, map}
use Rattle.std.specs.Prelude.{bytes_eq, if◌then◌else◌, not}
use Rattle.std.specs.List.{flat_map}
use Rattle.vlog_tree.specs.declared.tree.Value.{Value}
use Rattle.vlog_tree.specs.declared.tree.Connection.{Connection}
use Rattle.vlog_tree.specs.declared.tree.Item.TheVariants.{Assign, Instance}
use Rattle.vlog_tree.specs.Form.{ModuleTree}
use Rattle.tapa_base.specs.Lists.{Has}
use Rattle.vlog_tree.specs.Cycle.{Path, module_at}
use Rattle.vlog_tree.specs.Table.{Name, port_declared, net_kind_of, net_kind_is_input, ports_of}
use Rattle.vlog_tree.specs.Loops.{value_nets}
use Rattle.vlog_tree.specs.Flattened.{FlatNet, parts, line_parts, lines_of, memory_parts}
use Rattle.tapa_base.proofs.Lists.{has_flat, has_map, has_left, has_right}
use Rattle.vlog_run_laws.proofs.runs.Alone.{same_name}
use Rattle.vlog_run_laws.proofs.runs.Settled.{outside, answers}
use Rattle.vlog_run_laws.proofs.runs.Drivers.{IsDrivenBy}

-- what the lines of a net's module say of it
pub part_line : (ms : List ModuleTree) (root : ModuleTree) (path : Path) (x : Name) (m : ModuleTree) → module_at ms root path ≡ Some m → (b : FlatNet) → Has (flat_map (line_parts ms path x) m.items) b → Has (parts ms root true (path, x)) b
part_line ms root [] x m at b h =
    let same : root ≡ m = cc at in
    has_left (flat_map (line_parts ms [] x) root.items) (memory_parts true (map port_declared root.ports) x) b (subst (λ (k : ModuleTree). Has (flat_map (line_parts ms [] x) k.items) b) (sym same) h)
part_line ms root (i ∷ path) x m at b h =
    has_left (flat_map (line_parts ms (i ∷ path) x) (lines_of (module_at ms root (i ∷ path)))) (outside ms root (i ∷ path, x)) b (subst (λ o. Has (flat_map (line_parts ms (i ∷ path) x) (lines_of o)) b) (sym at) h)

-- what a port is joined to around its instance
pub part_outside : (ms : List ModuleTree) (root : ModuleTree) (path : Path) (x : Name) (b : FlatNet) → Has (outside ms root (path, x)) b → Has (parts ms root true (path, x)) b
part_outside ms root [] x b h = absurd h
part_outside ms root (i ∷ path) x b h = has_right (flat_map (line_parts ms (i ∷ path) x) (lines_of (module_at ms root (i ∷ path)))) (outside ms root (i ∷ path, x)) b h

-- where an input of the top reads a memory
pub part_answer : (ms : List ModuleTree) (root : ModuleTree) (path : Path) (x : Name) (b : FlatNet) → Has (answers root (path, x)) b → Has (parts ms root true (path, x)) b
part_answer ms root [] x b h = has_right (flat_map (line_parts ms [] x) root.items) (memory_parts true (map port_declared root.ports) x) b h
part_answer ms root (i ∷ path) x b h = absurd h

-- what may be taken or left by a test
abbrev by_test : Bool → List FlatNet → List FlatNet
by_test b l = if b then l else []

module _ (ms : List ModuleTree) (m : ModuleTree) (path : Path) where
  -- what a driver reads
  pub driver_part : (x : Name) (e : Value) → Has m.items (Assign x e) → (z : Name) → Has (value_nets e) z → Has (flat_map (line_parts ms path x) m.items) (path, z)
  driver_part x e has z h =
      has_flat (line_parts ms path x) m.items (Assign x e) (path, z) has
      (subst (λ b. Has (by_test b (map (λ y. (path, y)) (value_nets e))) (path, z)) (sym (same_name x)) (has_map (λ y. (path, y)) (value_nets e) z h))

  pub connection_part : (kn i : Name) (connections : List Connection) → Has m.items (Instance kn i connections) → (l : Connection) → Has connections l → net_kind_is_input (net_kind_of (map port_declared (ports_of ms kn)) l.port) ≡ false → Has (flat_map (line_parts ms path l.net) m.items) (i ∷ path, l.port)
  connection_part kn i connections has l h e =
      has_flat (line_parts ms path l.net) m.items (Instance kn i connections) (i ∷ path, l.port) has
      (has_flat (λ (k : Connection). if bytes_eq k.net l.net && not (net_kind_is_input (net_kind_of (map port_declared (ports_of ms kn)) k.port)) then (i ∷ path, k.port) ∷ [] else []) connections l (i ∷ path, l.port) h
      (subst (λ b. Has (by_test (b && not (net_kind_is_input (net_kind_of (map port_declared (ports_of ms kn)) l.port))) ((i ∷ path, l.port) ∷ [])) (i ∷ path, l.port)) (sym (same_name l.net))
      (subst (λ b. Has (by_test (not b) ((i ∷ path, l.port) ∷ [])) (i ∷ path, l.port)) (sym e) (inl refl))))

  -- the port that drives a net
  pub output_part : (x i p : Name) → IsDrivenBy ms m.items x i p → Has (flat_map (line_parts ms path x) m.items) (i ∷ path, p)
  output_part x i p d =
      subst (λ z. Has (flat_map (line_parts ms path z) m.items) (i ∷ path, p)) d.net (subst (λ z. Has (flat_map (line_parts ms path d.connection.net) m.items) (i ∷ path, z)) d.port (connection_part d.kn i d.connections d.has d.connection d.connected d.output))
