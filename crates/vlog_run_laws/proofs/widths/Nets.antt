-- In a cycle each net fits its width, where registers, cells and the top's inputs do.
use Rattle.std.proofs.Common.{◌≡◌, ℕ, ◌^◌, ◌<◌, true, false, List, [], ◌∷◌, Some, None, inl, inr, refl, sym, ap, subst, ◌∙◌, map}
use Rattle.std.specs.List.{flat_map}
use Rattle.std.proofs.Math.Pow.{pow_pos}
use Rattle.vlog_tree.specs.declared.tree.Value.{Value}
use Rattle.vlog_tree.specs.declared.tree.Value.TheVariants.{Plain, Invert, Binary, Choose, Concat, Repeat, Cell}
use Rattle.vlog_tree.specs.declared.tree.Connection.{Connection}
use Rattle.vlog_tree.specs.declared.tree.Item.{Item}
use Rattle.vlog_tree.specs.declared.tree.Item.TheVariants.{Wire, Reg, Memory, Assign, Always, Instance}
use Rattle.vlog_tree.specs.declared.table.Declaration.{Declaration}
use Rattle.vlog_tree.specs.declared.table.NetKind.{NetKind}
use Rattle.vlog_tree.specs.declared.table.NetKind.TheVariants.{Unknown, Input, Output, WireNet, Register, MemoryArray, ChildInstance}
use Rattle.vlog_tree.specs.Form.{ModuleTree}
use Rattle.vlog_tree.specs.Grounded.{IsGrounded, grounded}
use Rattle.tapa_base.specs.Lists.{Has}
use Rattle.vlog_tree.specs.Cycle.{Cycle, Path, PowersUp, driven, module_at}
use Rattle.vlog_tree.specs.Table.{Name, is_clk, declared, port_declared, items_declared, net_kind_of, bits_of, net_kind_is_read, net_kind_is_input, ports_of, first_violation}
use Rattle.vlog_tree.specs.V2.{v2_uses}
use Rattle.vlog_tree.specs.V3.{v3_uses}
use Rattle.vlog_tree.specs.V4.{v4_uses}
use Rattle.vlog_tree.specs.V6.{v6_uses}
use Rattle.vlog_tree.specs.Loops.{item_instances}
use Rattle.vlog_tree.specs.Flattened.{FlatNet, parts, line_parts}
use Rattle.tapa_base.proofs.Lists.{has_flat, of_flat}
use Rattle.vlog_run_laws.specs.runs.OneRun.{SameHeld, FitsPowerUp}
use Rattle.vlog_run_laws.proofs.runs.Sound.{assign_reads, assign_cell, connection_port, connection_net, connection_clock, output_is, is_known_module, input_is}
use Rattle.vlog_run_laws.proofs.runs.Alone.{child_is, module_there, module_is, IsNamed}
use Rattle.vlog_run_laws.proofs.runs.Settled.{outside, Joined, joined, child_at, module_in}
use Rattle.vlog_run_laws.proofs.runs.Sizes.{sizes_of, cells_of, memory_item, memory_cells, register_item}
use Rattle.vlog_run_laws.proofs.runs.Drivers.{Source, value, output, sources, line_sources, source_cases, value_line, output_line, IsDrivenBy}
use Rattle.vlog_run_laws.proofs.runs.Parts.{part_line, part_outside, driver_part, connection_part}
use Rattle.vlog_run_laws.proofs.runs.Equations.{first_number, input_value, undriven_value, source_value}
use Rattle.vlog_run_laws.proofs.runs.Cycles.{port_stands, port_net_kind_declared}
use Rattle.vlog_run_laws.proofs.runs.Alike.{memory_is}
use Rattle.vlog_run_laws.proofs.runs.TopPorts.{clock_joined}
use Rattle.vlog_run_laws.proofs.runs.Solved.{numbers, Allowed, Around, module_around, net_solves, inner_input}
use Rattle.vlog_run_laws.specs.widths.Widths.{NumbersFit}
use Rattle.vlog_run_laws.proofs.widths.Bits.{CellsBelow, value_below}
use Rattle.vlog_run_laws.proofs.widths.Ruled.{assign_width, connection_width}
use Rattle.vlog_run_laws.proofs.widths.Steps.{memory_bits, register_bits}
use Rattle.tapa_base.proofs.Got.{all_at, all_from}

first_below : (v : FlatNet → ℕ) (ns : List FlatNet) (w : ℕ) → ((b : FlatNet) → Has ns b → v b < 2 ^ w) → first_number v ns < 2 ^ w
first_below v [] w f = pow_pos w
first_below v (n ∷ ns) w f = f n (inl refl)

-- a port has the width that its module's names give it
port_bits : (m : ModuleTree) (x : Name) → net_kind_is_read (net_kind_of (map port_declared m.ports) x) ≡ true → bits_of (declared m) x ≡ bits_of (map port_declared m.ports) x
port_bits m x h = ap (λ (d : Declaration). d.bits) (port_stands (map port_declared m.ports) (items_declared m.items) x h)

module _ (ms : List ModuleTree) (root : ModuleTree) (names : first_violation (v2_uses ms) ≡ None) (widths : first_violation (v3_uses ms) ≡ None) (drivers : first_violation (v4_uses ms) ≡ None)
    (tops : first_violation (v6_uses ms) ≡ None) (in_root : Has ms root) (c : Path → Cycle) (allowed : Allowed ms root c) (held : FitsPowerUp ms root c)
    (inputs : (x : Name) → net_kind_of (declared root) x ≡ Input → is_clk x ≡ false → (c []).net x < 2 ^ bits_of (declared root) x) where
  -- a net of the flattened design fits the width of its module
  abbrev Fits : FlatNet → Type 0
  Fits n = (m : ModuleTree) → module_at ms root n.0 ≡ Some m → net_kind_is_read (net_kind_of (declared m) n.1) ≡ true → is_clk n.1 ≡ false → numbers c n < 2 ^ bits_of (declared m) n.1

  held_itself : (path : Path) (it : Item) → SameHeld (c path) (c path) it
  held_itself path (Reg w x) = refl
  held_itself path (Memory w x n) = λ a low. refl
  held_itself path (Wire w x) = tt
  held_itself path (Assign x e) = tt
  held_itself path (Always b) = tt
  held_itself path (Instance k i connections) = tt

  -- the top's inputs have the numbers that they have
  abbrev give : Name → ℕ → ℕ
  give x asked = (c []).net x

  module _ (path : Path) (m : ModuleTree) (at : module_at ms root path ≡ Some m) where
    here : Has ms m
    here = module_in ms root in_root path m at

    cell_fits : (w : ℕ) (y : Name) (k : ℕ) → Has m.items (Memory w y k) → (a : ℕ) → a < k → (c path).cell y a < 2 ^ w
    cell_fits w y k has a low = all_at (PowersUp (c path)) m.items (Memory w y k) (held path m at) has a low

    register_fits : (x : Name) → net_kind_of (declared m) x ≡ Register → (c path).net x < 2 ^ bits_of (declared m) x
    register_fits x s =
        let t = register_item m x s in
        let low : (c path).net x < 2 ^ t.0 = all_at (PowersUp (c path)) m.items (Reg t.0 x) (held path m at) t.1 in
        subst (λ w. (c path).net x < 2 ^ w) (sym (register_bits ms names m here t.0 x t.1)) low

    cells_below : (x : Name) (e : Value) → Has m.items (Assign x e) → CellsBelow (declared m) (cells_of m.items) (c path) e
    cells_below x (Cell y z) has =
        let t = memory_item m y (memory_is _ (assign_cell ms names m here x y z has)) in
        λ a low.
        subst (λ w. (c path).cell y a < 2 ^ w) (sym (memory_bits ms names m here t.0 y t.1 t.2))
        (cell_fits t.0 y t.1 t.2 a (subst (λ k. a < k) (memory_cells m ms names here t.0 y t.1 t.2) low))
    cells_below x (Plain a) has = tt
    cells_below x (Invert a) has = tt
    cells_below x (Binary a op b) has = tt
    cells_below x (Choose t a b) has = tt
    cells_below x (Concat atoms) has = tt
    cells_below x (Repeat n a) has = tt

    module _ (x : Name) (no_clock : is_clk x ≡ false) (below : (b : FlatNet) → Has (parts ms root true (path, x)) b → Fits b) where
      driver_fits : (e : Value) → Has m.items (Assign x e) → driven (sizes_of m) (bits_of (declared m) x) (c path) e < 2 ^ bits_of (declared m) x
      driver_fits e has =
          value_below (declared m) (cells_of m.items) (c path) (bits_of (declared m) x) e (assign_width ms widths m here x e has)
          (λ z h. let r = assign_reads ms names m here x e has z h in below (path, z) (part_line ms root path x m at (path, z) (driver_part ms m path x e has z h)) m at r.0 r.1)
          (cells_below x e has)

      output_fits : (kn i : Name) (connections : List Connection) → Has m.items (Instance kn i connections) → (l : Connection) → Has connections l → l.net ≡ x → net_kind_is_input (net_kind_of (map port_declared (ports_of ms kn)) l.port) ≡ false → numbers c (i ∷ path, l.port) < 2 ^ bits_of (declared m) x
      output_fits kn i connections has l h net e =
          let t = module_there ms kn (is_known_module ms names m here kn i connections has) in
          let n : IsNamed ms kn t.0 = module_is ms kn t.0 t.1 in
          let net_kind : net_kind_of (map port_declared t.0.ports) l.port ≡ Output = subst (λ ps. net_kind_of (map port_declared ps) l.port ≡ Output) n.ports (output_is (ports_of ms kn) l.port (connection_port ms names m here kn i connections has l h) e) in
          let part : Has (parts ms root true (path, x)) (i ∷ path, l.port) = part_line ms root path x m at (i ∷ path, l.port) (subst (λ z. Has (flat_map (line_parts ms path z) m.items) (i ∷ path, l.port)) net (connection_part ms m path kn i connections has l h e)) in
          let low : numbers c (i ∷ path, l.port) < 2 ^ bits_of (declared t.0) l.port =
          below (i ∷ path, l.port) part t.0 (child_at ms root names m here path at kn i t.0 (has_flat item_instances m.items (Instance kn i connections) (kn, i) has (inl refl)) t.1)
          (ap net_kind_is_read (port_net_kind_declared t.0 l.port Output refl net_kind)) (clock_joined ms tops m here kn i connections has l h (ap is_clk net ∙ no_clock)) in
          let bits : bits_of (declared t.0) l.port ≡ bits_of (declared m) x =
          port_bits t.0 l.port (ap net_kind_is_read net_kind) ∙ ap (λ ps. bits_of (map port_declared ps) l.port) (sym n.ports) ∙ connection_width ms widths m here kn i connections has l h ∙ ap (λ z. bits_of (declared m) z) net in
          subst (λ w. numbers c (i ∷ path, l.port) < 2 ^ w) bits low

      source_fits : (s : Source) → Has (sources ms m.items) (x, s) → source_value ms root c give m (numbers c) (path, x) (Some s) < 2 ^ bits_of (declared m) x
      source_fits (value e) h = let t = of_flat (line_sources ms) m.items (x, value e) h in driver_fits e (subst (λ z. Has m.items z) (value_line ms t.0 x e t.2) t.1)
      source_fits (output i p) h =
          let t = of_flat (line_sources ms) m.items (x, output i p) h in
          let d : IsDrivenBy ms m.items x i p = output_line ms m.items t.0 t.1 x i p t.2 in
          subst (λ z. numbers c (i ∷ path, z) < 2 ^ bits_of (declared m) x) d.port (output_fits d.kn i d.connections d.has d.connection d.connected d.net d.output)

  -- an input of an instance has the width of the net around
  outer_fits : (i : Name) (path : Path) (m : ModuleTree) (x : Name) → is_clk x ≡ false → (a : Around ms root i path m) (b : FlatNet) → Joined ms root a.tree path i x b → Fits b → numbers c b < 2 ^ bits_of (declared m) x
  outer_fits i path m x no_clock a b j f =
      let in_around = module_in ms root in_root path a.tree a.at in
      let named : Some a.kn ≡ Some j.kn = sym a.child ∙ child_is ms names a.tree in_around j.kn i j.connections j.has in
      let same : a.kn ≡ j.kn = cc named in
      let n : IsNamed ms a.kn m = module_is ms a.kn m a.named in
      let ports : ports_of ms j.kn ≡ m.ports = ap (λ z. ports_of ms z) (sym same) ∙ n.ports in
      let input : net_kind_is_input (net_kind_of (map port_declared (ports_of ms j.kn)) j.connection.port) ≡ true = subst (λ z. net_kind_is_input (net_kind_of (map port_declared (ports_of ms j.kn)) z) ≡ true) (sym j.port) j.input in
      let read : net_kind_is_read (net_kind_of (map port_declared m.ports) x) ≡ true = ap net_kind_is_read (input_is _ (subst (λ ps. net_kind_is_input (net_kind_of (map port_declared ps) x) ≡ true) ports j.input)) in
      let g : Fits (path, j.connection.net) = subst Fits (sym j.is) f in
      let low : numbers c (path, j.connection.net) < 2 ^ bits_of (declared a.tree) j.connection.net =
      g a.tree a.at (connection_net ms names a.tree in_around j.kn i j.connections j.has j.connection j.connected) (connection_clock ms names a.tree in_around j.kn i j.connections j.has j.connection j.connected input (ap is_clk j.port ∙ no_clock)) in
      let bits : bits_of (declared a.tree) j.connection.net ≡ bits_of (declared m) x =
      sym (connection_width ms widths a.tree in_around j.kn i j.connections j.has j.connection j.connected) ∙ ap (λ z. bits_of (map port_declared (ports_of ms j.kn)) z) j.port ∙ ap (λ ps. bits_of (map port_declared ps) x) ports ∙ sym (port_bits m x read) in
      subst (λ k. numbers c k < 2 ^ bits_of (declared m) x) j.is (subst (λ w. numbers c (path, j.connection.net) < 2 ^ w) bits low)

  input_fits : (path : Path) (m : ModuleTree) → module_at ms root path ≡ Some m → (x : Name) → net_kind_of (declared m) x ≡ Input → is_clk x ≡ false → ((b : FlatNet) → Has (parts ms root true (path, x)) b → Fits b) → input_value ms root c give (numbers c) (path, x) < 2 ^ bits_of (declared m) x
  input_fits [] m at x s n f =
      let same : root ≡ m = cc at in
      subst (λ (k : ModuleTree). (c []).net x < 2 ^ bits_of (declared k) x) same (inputs x (subst (λ (k : ModuleTree). net_kind_of (declared k) x ≡ Input) (sym same) s) n)
  input_fits (i ∷ path) m at x s n f =
      let a = module_around ms root i path m at in
      first_below (numbers c) (outside ms root (i ∷ path, x)) (bits_of (declared m) x)
      (λ b h. outer_fits i path m x n a b (joined ms root a.tree path a.at i x b h) (f b (part_outside ms root (i ∷ path) x b h)))

  input_is_given : (path : Path) (m : ModuleTree) → module_at ms root path ≡ Some m → (x : Name) → net_kind_of (declared m) x ≡ Input → (c path).net x ≡ input_value ms root c give (numbers c) (path, x)
  input_is_given [] m at x s = refl
  input_is_given (i ∷ path) m at x s = inner_input ms root names drivers in_root c allowed i path m at x s

  undriven_fits : (path : Path) (m : ModuleTree) → module_at ms root path ≡ Some m → (x : Name) → is_clk x ≡ false → ((b : FlatNet) → Has (parts ms root true (path, x)) b → Fits b)
      → (s : NetKind) → net_kind_of (declared m) x ≡ s → undriven_value ms root c give s (numbers c) (path, x) < 2 ^ bits_of (declared m) x
  undriven_fits path m at x n f Input e = input_fits path m at x e n f
  undriven_fits path m at x n f Register e = register_fits path m at x e
  undriven_fits path m at x n f Output e = pow_pos (bits_of (declared m) x)
  undriven_fits path m at x n f WireNet e = pow_pos (bits_of (declared m) x)
  undriven_fits path m at x n f Unknown e = pow_pos (bits_of (declared m) x)
  undriven_fits path m at x n f MemoryArray e = pow_pos (bits_of (declared m) x)
  undriven_fits path m at x n f ChildInstance e = pow_pos (bits_of (declared m) x)

  -- a net fits where the nets that it has its number from do
  module_fits : (path : Path) (m : ModuleTree) → module_at ms root path ≡ Some m → (x : Name) → net_kind_is_read (net_kind_of (declared m) x) ≡ true → is_clk x ≡ false → ((b : FlatNet) → Has (parts ms root true (path, x)) b → Fits b) → numbers c (path, x) < 2 ^ bits_of (declared m) x
  module_fits path m at x r n f =
      subst (λ v. v < 2 ^ bits_of (declared m) x)
      (sym (net_solves ms root names drivers in_root c allowed path m at c (all_from (SameHeld (c path) (c path)) m.items (λ it h. held_itself path it)) give x r (input_is_given path m at x)))
      (elim (source_cases (sources ms m.items) x) [
        | inl none ↦ subst (λ o. source_value ms root c give m (numbers c) (path, x) o < 2 ^ bits_of (declared m) x) (sym none) (undriven_fits path m at x n f (net_kind_of (declared m) x) refl)
        | inr t ↦ subst (λ o. source_value ms root c give m (numbers c) (path, x) o < 2 ^ bits_of (declared m) x) (sym t.2) (source_fits path m at x n f t.0 t.1)
      ])

  net_fits : (n : FlatNet) → IsGrounded (parts ms root true) n → Fits n
  net_fits n (grounded f) m at r no_clock = module_fits n.0 m at n.1 r no_clock (λ b h. net_fits b (f b h))

  pub cycle_fits : ((n : FlatNet) → IsGrounded (parts ms root true) n) → (path : Path) (m : ModuleTree) → module_at ms root path ≡ Some m → NumbersFit m (c path)
  cycle_fits settled path m at = record { nets = λ x r n. net_fits (path, x) (settled (path, x)) m at r n; cells = cell_fits path m at }
