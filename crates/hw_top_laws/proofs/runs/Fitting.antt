-- Where the modules of tasks and channels stand in a circuit, and that the numbers at their ports fit.
use Rattle.std.proofs.Common.{◌≡◌, ℕ, ◌+◌, ◌*◌, ◌^◌, ◌<◌, ◌≤◌, Bool, true, false, List, [], ◌∷◌, ◌++◌, length, map, Some, inl, inr, refl, sym, ap, subst, ◌∙◌, arith}
use Rattle.std.specs.Prelude.{slice_get, slice_index, codes, if◌then◌else◌}
use Rattle.std.specs.Cmp.Lexicographic.{bytes_decides}
use Rattle.tapa_base.specs.Kinds.{bits_of}
use Rattle.tapa_syntax.specs.LeafKinds.{writes_of}
use Rattle.tapa_syntax.specs.declared.program.Instance.{Instance}
use Rattle.tapa_syntax.specs.declared.program.Leaf.{Leaf}
use Rattle.tapa_syntax.specs.declared.program.Program.{Program}
use Rattle.tapa_syntax.specs.declared.program.Stream.{Stream}
use Rattle.vlog_tree.specs.declared.tree.Connection.{Connection}
use Rattle.vlog_tree.specs.declared.tree.Direction.TheVariants.{Input as Inward}
use Rattle.vlog_tree.specs.declared.tree.Item.TheVariants.{Instance as InstanceLine}
use Rattle.vlog_tree.specs.declared.tree.PortDecl.{PortDecl}
use Rattle.vlog_tree.specs.declared.table.Declaration.{Declaration}
use Rattle.vlog_tree.specs.declared.table.NetKind.TheVariants.{Input, Output}
use Rattle.vlog_tree.specs.Cycle.{Cycle, Path, module_at}
use Rattle.vlog_tree.specs.Environment.{Environment, FitsShape, shape_of}
use Rattle.vlog_run_laws.specs.Beside.{RunsBeside}
use Rattle.vlog_tree.specs.Form.{ModuleTree, is_input}
use Rattle.tapa_base.specs.Lists.{Has}
use Rattle.vlog_tree.specs.Refused.{IsDesign}
use Rattle.vlog_tree.specs.Table.{Name, clk, is_clk, declared, port_declared, items_declared, find_name, net_kind_is_read, module_named}
use Rattle.tapa_base.proofs.Lists.{has_left, has_right, has_map}
use Rattle.vlog_module_laws.proofs.Larger.{instance_there}
use Rattle.vlog_run_laws.proofs.runs.Alone.{stands_for}
use Rattle.vlog_run_laws.proofs.runs.Settled.{IsTopTree, top_tree as is_top_tree, module_in, child_at}
use Rattle.vlog_run_laws.specs.widths.Widths.{RunFits}
use Rattle.vlog_run_laws.proofs.widths.Fitting.{run_fits_beside}
use Rattle.hw_build.specs.Elements.{Instance as InstanceElement, empty}
use Rattle.hw_build.proofs.Driven.{line_there}
use Rattle.hw_build.specs.Scope.{each}
use Rattle.hw_build.proofs.Parts.{has_each}
use Rattle.hw_channel_lines.specs.Names.{channel_name}
use Rattle.hw_channel_laws.specs.modules.Ports.{AreFoundIn}
use Rattle.hw_channel_laws.specs.modules.Rules.{OfFirst, IsOutermost, outer_ports}
use Rattle.hw_channel_lines.specs.Texts.{AreModules}
use Rattle.hw_channel_laws.proofs.modules.Fits.{clear}
use Rattle.task_fsm.specs.declared.machine.Fsm.{Fsm}
use Rattle.hw_lines.specs.declared.nets.Net.TheVariants.{Done, Din, Wr, Taken}
use Rattle.hw_lines.specs.Nets.{name}
use Rattle.hw_lines.specs.Shape.{Shape, stream_kind}
use Rattle.hw_lines.specs.Texts.{task_name, task_tree}
use Rattle.hw_task_laws.specs.names.Ports.{outward, stream_out, memory_out, task_inputs, task_outputs}
use Rattle.hw_task_laws.proofs.names.Ported.{modules_have_ports}
use Rattle.hw_task_laws.proofs.steps.Allowed.{stream_there, side_is}
use Rattle.hw_network_laws.specs.modules.Tasks.{shape_for}
use Rattle.hw_top_lines.specs.Names.{task_instance, channel_instance}
use Rattle.hw_top_lines.specs.Texts.{token_bits, top_elements, top_tree, task_connections, channel_connections}
use Rattle.hw_top_laws.proofs.runs.Elements.{task_there, channel_there}
use Rattle.tapa_base.proofs.Tests.{kind_bits}

abbrev clock_port : PortDecl
clock_port = record { direction = Inward; width = 1; name = clk }

port_read : (b : Bool) → net_kind_is_read (if b then Input else Output) ≡ true
port_read true = refl
port_read false = refl

-- the outermost module of a channel, and those below it
pub record IsPlaced (bits depth late : ℕ) (all : List ModuleTree) (root : ModuleTree) (path : Path) : Type 0 where
  pub first : ModuleTree
  pub rest : List ModuleTree
  pub are : AreModules bits depth late (first ∷ rest)
  pub found : AreFoundIn all (first ∷ rest)
  pub ports : first.ports ≡ outer_ports bits
  pub at : module_at all root path ≡ Some first

module _ (program : Program) (added : List ℕ) (all : List ModuleTree) (place : ℕ) (d : IsDesign all place) (top_is : slice_get all place ≡ Some (top_tree program added)) where
  abbrev root : ModuleTree
  root = top_tree program added

  in_all : IsTopTree all root
  in_all = is_top_tree all place d root top_is

  placed_at : (k i : Name) (ls : List Connection) (m : ModuleTree) → Has (top_elements program added) (InstanceElement k i ls) → module_named all k ≡ Some m → module_at all root (i ∷ []) ≡ Some m
  placed_at k i ls m there named =
      child_at all root d.sound.names root in_all.has [] refl k i m
      (instance_there root k i ls (line_there (task_name program.top) (top_elements program added) (InstanceElement k i ls) (InstanceLine k i ls) there (inl refl))) named

  pub task_placed : (i : ℕ) (x : Instance) (leaf : Leaf) (m : ModuleTree) → slice_get program.instances.items i ≡ Some x → slice_get program.bodies.items x.body ≡ Some leaf → module_named all (task_name leaf.name) ≡ Some m → module_at all root (task_instance x.label ∷ []) ≡ Some m
  task_placed i x leaf m at body named = placed_at (task_name leaf.name) (task_instance x.label) (task_connections program i x leaf) m (task_there program added i x leaf at body) named

  -- ---- channels

  module _ (s : ℕ) (r : Stream) (at : slice_get program.streams.items s ≡ Some r) where
    abbrev bits : ℕ
    bits = token_bits r.kind

    abbrev late : ℕ
    late = slice_index added s

    abbrev path : Path
    path = channel_instance r.label ∷ []

    of_modules : (ms : List ModuleTree) → AreModules bits r.depth late ms → AreFoundIn all ms → OfFirst (IsOutermost bits r.depth late) ms → IsPlaced bits r.depth late all root path
    of_modules [] are found outer = absurd outer
    of_modules (m ∷ ms) are found outer = record {
      first = m;
      rest = ms;
      are = are;
      found = found;
      ports = outer.1;
      at = placed_at (channel_name bits r.depth late) (channel_instance r.label) (channel_connections r.label) m (channel_there program added s r at) (ap (module_named all) (sym outer.0) ∙ found m (inl refl));
    }

    pub channel_placed : 0 < r.depth → r.depth + 2 * late ≤ 1048576 → (ms : List ModuleTree) → AreModules bits r.depth late ms → AreFoundIn all ms → IsPlaced bits r.depth late all root path
    channel_placed some few ms are found =
        let k = kind_bits r.kind in
        let low = k.0 in
        let high = k.1 in
        of_modules ms are found (clear bits r.depth late ms are (omega (arith, low)) (omega (arith, high)) some few).outermost

  -- ---- numbers

  module _ (env : Environment) (env_fits : FitsShape env (shape_of (top_tree program added))) (acks : ℕ → ℕ → Bool) (nets : ℕ → Path → Cycle) (r : RunsBeside all (top_tree program added) env acks nets) where
    pub fits : RunFits all root env nets
    fits = run_fits_beside all place root d top_is env env_fits acks nets r

    module _ (path : Path) (m : ModuleTree) (at : module_at all root path ≡ Some m) where
      declared_as : (p : PortDecl) → Has m.ports p → find_name (declared m) p.name ≡ port_declared p
      declared_as p h =
          stands_for all d.sound.names m (module_in all root in_all.has path m at) (port_declared p)
          (has_left (map port_declared m.ports) (items_declared m.items) (port_declared p) (has_map port_declared m.ports p h))

      pub port_low : (p : PortDecl) → Has m.ports p → is_clk p.name ≡ false → (n : ℕ) → (nets n path).net p.name < 2 ^ p.width
      port_low p h other n =
          let e = declared_as p h in
          subst (λ z. (nets n path).net p.name < 2 ^ z) (ap (λ (z : Declaration). z.bits) e)
          ((fits.modules n path m at).nets p.name (ap (λ (z : Declaration). net_kind_is_read z.net_kind) e ∙ port_read (is_input p.direction)) other)

      -- an output is not the clock
      other_name : (p : PortDecl) → Has m.ports p → is_input p.direction ≡ false → Has m.ports clock_port → (b : Bool) → is_clk p.name ≡ b → is_clk p.name ≡ false
      other_name p h out clock false e = e
      other_name p h out clock true e =
          let same : p.name ≡ clk = (bytes_decides p.name clk).0 e in
          let one : port_declared p ≡ port_declared clock_port = sym (declared_as p h) ∙ ap (find_name (declared m)) same ∙ declared_as clock_port clock in
          let kinds : Output ≡ Input = ap (λ (b : Bool). if b then Input else Output) (sym out) ∙ ap (λ (z : Declaration). z.net_kind) one in
          cc

      pub output_low : (p : PortDecl) → Has m.ports p → is_input p.direction ≡ false → Has m.ports clock_port → (n : ℕ) → (nets n path).net p.name < 2 ^ p.width
      output_low p h out clock n = port_low p h (other_name p h out clock (is_clk p.name) refl) n

    -- the outputs of a task
    module _ (leaf : Leaf) (machine : Fsm) (path : Path) (at : module_at all root path ≡ Some (task_tree machine leaf.memories.items leaf.streams.items)) where
      abbrev S : Shape
      S = shape_for leaf machine

      abbrev m : ModuleTree
      m = task_tree machine leaf.memories.items leaf.streams.items

      abbrev front : List PortDecl
      front = (empty (task_name machine.name)).ports

      of_ports : (p : PortDecl) → Has (front ++ (task_inputs S ++ task_outputs S)) p → Has m.ports p
      of_ports p h = subst (λ l. Has l p) (sym (modules_have_ports S (task_name machine.name))) h

      of_streams : (p : ℕ) (q : PortDecl) → p < length leaf.streams.items → Has (stream_out S p) q → Has m.ports q
      of_streams p q l h =
          let outs = each (stream_out S) (length S.streams) in
          let rest = each (memory_out S) (length S.memories) in
          let done = outward 1 Done ∷ [] in
          of_ports q
          (has_right front (task_inputs S ++ task_outputs S) q
          (has_right (task_inputs S) (task_outputs S) q (has_left (done ++ outs) rest q (has_right done outs q (has_each (stream_out S) (length S.streams) p q l h)))))

      clock_there : Has m.ports (clock_port)
      clock_there = of_ports (clock_port) (has_left front (task_inputs S ++ task_outputs S) (clock_port) (inl refl))

      pub done_low : (n : ℕ) → (nets n path).net (name Done) < 2
      done_low n =
          let q = outward 1 Done in
          let outs = each (stream_out S) (length S.streams) in
          let rest = each (memory_out S) (length S.memories) in
          let done = outward 1 Done ∷ [] in
          output_low path m at q
          (of_ports q (has_right front (task_inputs S ++ task_outputs S) q (has_right (task_inputs S) (task_outputs S) q (has_left (done ++ outs) rest q (has_left done outs q (inl refl))))))
          refl clock_there n

      pub write_low : (p : ℕ) → writes_of leaf.streams.items p ≡ Some true → (n : ℕ) → (nets n path).net (name (Wr p)) < 2
      write_low p w n =
          let q = outward 1 (Wr p) in
          output_low path m at q
          (of_streams p q (stream_there leaf.streams.items p true w) (subst (λ b. Has (if b then outward 1 (Wr p) ∷ outward (bits_of (stream_kind S p) + 1) (Din p) ∷ [] else outward 1 (Taken p) ∷ []) q) (sym (side_is (slice_get leaf.streams.items p) true w)) (inl refl)))
          refl clock_there n

      pub take_low : (p : ℕ) → writes_of leaf.streams.items p ≡ Some false → (n : ℕ) → (nets n path).net (name (Taken p)) < 2
      take_low p w n =
          let q = outward 1 (Taken p) in
          output_low path m at q
          (of_streams p q (stream_there leaf.streams.items p false w) (subst (λ b. Has (if b then outward 1 (Wr p) ∷ outward (bits_of (stream_kind S p) + 1) (Din p) ∷ [] else outward 1 (Taken p) ∷ []) q) (sym (side_is (slice_get leaf.streams.items p) false w)) (inl refl)))
          refl clock_there n

    -- and those of a channel
    module _ (s : ℕ) (q : Stream) (placed : IsPlaced (token_bits q.kind) q.depth (slice_index added s) all (top_tree program added) (channel_instance q.label ∷ [])) where
      abbrev here : Path
      here = channel_instance q.label ∷ []

      of_outer : (p : PortDecl) → Has (outer_ports (token_bits q.kind)) p → Has placed.first.ports p
      of_outer p h = subst (λ l. Has l p) (sym placed.ports) h

      outer_low : (p : PortDecl) → Has (outer_ports (token_bits q.kind)) p → is_clk p.name ≡ false → (n : ℕ) → (nets n here).net p.name < 2 ^ p.width
      outer_low p h other n = port_low here placed.first placed.at p (of_outer p h) other n

      pub rdy_low : (n : ℕ) → (nets n here).net (codes "rdy") < 2
      unfolding clk
      rdy_low n = outer_low _ (inr (inr (inr (inr (inr (inl refl)))))) refl n

      pub has_low : (n : ℕ) → (nets n here).net (codes "has") < 2
      unfolding clk
      has_low n = outer_low _ (inr (inr (inr (inr (inr (inr (inl refl))))))) refl n

      pub dout_low : (n : ℕ) → (nets n here).net (codes "dout") < 2 ^ token_bits q.kind
      unfolding clk
      dout_low n = outer_low _ (inr (inr (inr (inr (inr (inr (inr (inl refl)))))))) refl n
