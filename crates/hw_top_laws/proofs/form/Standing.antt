-- What stands before the instances of the top: its ports, its wires, and when all is done.
use Rattle.std.proofs.Common.{◌≡◌, ℕ, ◌<◌, List, ◌++◌, length, Some, inl, refl, sym, ap, subst, ◌∙◌, ⊎_elim}
use Rattle.std.specs.Prelude.{slice_get}
use Rattle.tapa_base.specs.Kinds.{bits_of}
use Rattle.tapa_syntax.specs.declared.program.Instance.{Instance}
use Rattle.tapa_syntax.specs.declared.program.Leaf.{Leaf}
use Rattle.tapa_syntax.specs.declared.program.Memory.{Memory}
use Rattle.tapa_syntax.specs.declared.program.Program.{Program}
use Rattle.tapa_syntax.specs.declared.program.Scalar.{Scalar}
use Rattle.tapa_syntax.specs.declared.program.Stream.{Stream}
use Rattle.tapa_base.specs.Lists.{Has}
use Rattle.vlog_tree.specs.Labels.{scalar}
use Rattle.vlog_tree.specs.Table.{Name}
use Rattle.tapa_base.proofs.Lists.{has_left, has_right, has_split, has_flat}
use Rattle.hw_build.specs.Elements.{Element, Input, Outlet, InstanceWire}
use Rattle.hw_build.specs.Scope.{each, IsNet}
use Rattle.hw_build.specs.Fits.{IsAmong}
use Rattle.hw_build.proofs.Parts.{has_each}
use Rattle.hw_task_laws.proofs.fit.Scopes.{net_of}
use Rattle.hw_top_laws.specs.joins.Joins.{open_nets, IsOpen}
use Rattle.hw_top_lines.specs.Names.{s_take, ended_net}
use Rattle.hw_top_lines.specs.Bounds.{parameters}
use Rattle.hw_top_lines.specs.Texts.{scalar_port, memory_ports, ports, stream_wires, take_wire, of_leaf, of_instance, at_instance, ended_wire, doneness, wires}
use Rattle.tapa_base.proofs.Got.{got_low as some_index}

-- a link or an outlet among elements is an open net
pub open_of : (before : List Element) (e : Element) (x : Name) (w : ℕ) → Has before e → Has {N = Name × ℕ} (open_nets e) (x, w) → IsOpen before x w
open_of before e x w h k = has_flat open_nets before e (x, w) h k

module _ (program : Program) where
  abbrev pub standing : List Element
  standing = ports program ++ wires program ++ doneness program

  pub ports_among : IsAmong (ports program) standing
  ports_among e h = has_left (ports program ++ wires program) (doneness program) e (has_left (ports program) (wires program) e h)

  pub wires_among : IsAmong (wires program) standing
  wires_among e h = has_left (ports program ++ wires program) (doneness program) e (has_right (ports program) (wires program) e h)

  abbrev pub scalars : List Element
  scalars = each (λ x. scalar_port (slice_get program.scalars.items x)) (length program.scalars.items)

  abbrev pub memories : List Element
  memories = each (λ m. memory_ports (slice_get program.memories.items m)) (length program.memories.items)

  abbrev pub streams : List Element
  streams = each (λ s. stream_wires (slice_get program.streams.items s)) (length program.streams.items)

  abbrev pub bounds : List Element
  bounds = each (at_instance program (parameters program)) (length program.instances.items)

  abbrev pub ends : List Element
  ends = each ended_wire (length program.instances.items)

  abbrev pub takes : List Element
  takes = each (λ s. take_wire (slice_get program.streams.items s)) (length program.streams.items)

  -- all but the wires that say what is taken, and when all is done
  abbrev pub front : List Element
  front = ports program ++ (streams ++ bounds ++ ends)

  pub front_among : IsAmong front standing
  front_among e h =
      ⊎_elim (λ l. ports_among e l) (λ r. wires_among e (has_left (streams ++ bounds ++ ends) takes e r)) (has_split (ports program) (streams ++ bounds ++ ends) e h)

  pub scalar_there : (x : ℕ) (c : Scalar) → slice_get program.scalars.items x ≡ Some c → Has scalars (Input (bits_of c.kind) (scalar c.name))
  scalar_there x c g =
      let e = Input (bits_of c.kind) (scalar c.name) in
      has_each (λ x. scalar_port (slice_get program.scalars.items x)) (length program.scalars.items) x e (some_index program.scalars.items x c g) (subst (λ o. Has (scalar_port o) e) (sym g) (inl refl))

  pub scalars_among : IsAmong scalars (ports program)
  scalars_among e h = has_left scalars memories e h

  pub memory_there : (m : ℕ) (r : Memory) → slice_get program.memories.items m ≡ Some r → (e : Element) → Has (memory_ports (Some r)) e → Has (ports program) e
  memory_there m r g e h =
      has_right scalars memories e
      (has_each (λ m. memory_ports (slice_get program.memories.items m)) (length program.memories.items) m e (some_index program.memories.items m r g) (subst (λ o. Has (memory_ports o) e) (sym g) h))

  pub stream_there : (s : ℕ) (r : Stream) → slice_get program.streams.items s ≡ Some r → (e : Element) → Has (stream_wires (Some r)) e → Has (wires program) e
  stream_there s r g e h =
      has_left (streams ++ bounds ++ ends) takes e
      (has_left (streams ++ bounds) ends e
      (has_left streams bounds e
      (has_each (λ s. stream_wires (slice_get program.streams.items s)) (length program.streams.items) s e (some_index program.streams.items s r g) (subst (λ o. Has (stream_wires o) e) (sym g) h))))

  stream_front : (s : ℕ) (r : Stream) → slice_get program.streams.items s ≡ Some r → (e : Element) → Has (stream_wires (Some r)) e → Has front e
  stream_front s r g e h =
      has_right (ports program) (streams ++ bounds ++ ends) e
      (has_left (streams ++ bounds) ends e
      (has_left streams bounds e
      (has_each (λ s. stream_wires (slice_get program.streams.items s)) (length program.streams.items) s e (some_index program.streams.items s r g) (subst (λ o. Has (stream_wires o) e) (sym g) h))))

  pub take_there : (s : ℕ) (r : Stream) → slice_get program.streams.items s ≡ Some r → Has (wires program) (InstanceWire 1 (s_take r.label))
  take_there s r g =
      let e = InstanceWire 1 (s_take r.label) in
      has_right (streams ++ bounds ++ ends) takes e
      (has_each (λ s. take_wire (slice_get program.streams.items s)) (length program.streams.items) s e (some_index program.streams.items s r g) (subst (λ o. Has (take_wire o) e) (sym g) (inl refl)))

  pub ended_there : (i : ℕ) → i < length program.instances.items → Has (wires program) (InstanceWire 1 (ended_net i))
  ended_there i l =
      let e = InstanceWire 1 (ended_net i) in
      has_left (streams ++ bounds ++ ends) takes e (has_right (streams ++ bounds) ends e (has_each ended_wire (length program.instances.items) i e l (inl refl)))

  pub at_is : (f : ℕ → Instance → Leaf → List Element) (i : ℕ) (x : Instance) (leaf : Leaf) → slice_get program.instances.items i ≡ Some x → slice_get program.bodies.items x.body ≡ Some leaf → at_instance program f i ≡ f i x leaf
  at_is f i x leaf g k = ap (of_instance program (f i)) g ∙ ap (of_leaf (f i) x) k

  pub parameters_front : (i : ℕ) (x : Instance) (leaf : Leaf) → slice_get program.instances.items i ≡ Some x → slice_get program.bodies.items x.body ≡ Some leaf → IsAmong (parameters program i x leaf) front
  parameters_front i x leaf g k e h =
      has_right (ports program) (streams ++ bounds ++ ends) e
      (has_left (streams ++ bounds) ends e
      (has_right streams bounds e
      (has_each (at_instance program (parameters program)) (length program.instances.items) i e (some_index program.instances.items i x g) (subst (λ (l : List Element). Has l e) (sym (at_is (parameters program) i x leaf g k)) h))))

  -- ---- the nets

  module _ (s : ℕ) (r : Stream) (g : slice_get program.streams.items s ≡ Some r) where
    pub link_open : (w : ℕ) (x : Name) → Has (stream_wires (Some r)) (InstanceWire w x) → IsOpen standing x w
    link_open w x h = open_of standing (InstanceWire w x) x w (wires_among _ (stream_there s r g _ h)) (inl refl)

    pub link_net : (w : ℕ) (x : Name) → Has (stream_wires (Some r)) (InstanceWire w x) → IsNet standing x w
    link_net w x h = net_of standing (InstanceWire w x) x w (wires_among _ (stream_there s r g _ h)) (inl refl)

    pub link_front : (w : ℕ) (x : Name) → Has (stream_wires (Some r)) (InstanceWire w x) → IsNet front x w
    link_front w x h = net_of front (InstanceWire w x) x w (stream_front s r g _ h) (inl refl)

    pub take_open : IsOpen standing (s_take r.label) 1
    take_open = open_of standing (InstanceWire 1 (s_take r.label)) (s_take r.label) 1 (wires_among _ (take_there s r g)) (inl refl)

    pub take_net : IsNet standing (s_take r.label) 1
    take_net = net_of standing (InstanceWire 1 (s_take r.label)) (s_take r.label) 1 (wires_among _ (take_there s r g)) (inl refl)

  module _ (m : ℕ) (r : Memory) (g : slice_get program.memories.items m ≡ Some r) where
    pub outlet_open : (w : ℕ) (x : Name) → Has (memory_ports (Some r)) (Outlet w x) → IsOpen standing x w
    outlet_open w x h = open_of standing (Outlet w x) x w (ports_among _ (memory_there m r g _ h)) (inl refl)

    pub answer_net : (w : ℕ) (x : Name) → Has (memory_ports (Some r)) (Input w x) → IsNet front x w
    answer_net w x h = net_of front (Input w x) x w (has_left (ports program) (streams ++ bounds ++ ends) _ (memory_there m r g _ h)) (inl refl)

  pub ended_open : (i : ℕ) → i < length program.instances.items → IsOpen standing (ended_net i) 1
  ended_open i l = open_of standing (InstanceWire 1 (ended_net i)) (ended_net i) 1 (wires_among _ (ended_there i l)) (inl refl)
