-- What holds of the top, part by part: a property of two lists of elements holds of the first followed by the second.
use Rattle.std.proofs.Common.{◌≡◌, ℕ, zero, suc, ◌+◌, ◌-◌, ◌<◌, List, [], ◌∷◌, ◌++◌, length, Option, Some, None, refl, arith}
use Rattle.std.specs.Prelude.{slice_get, slice_index, slice_index_or}
use Rattle.tapa_base.specs.declared.kind.Kind.{Kind}
use Rattle.tapa_base.specs.declared.kind.Kind.TheVariants.{U64}
use Rattle.tapa_base.specs.Kinds.{bits_of}
use Rattle.tapa_syntax.specs.declared.program.Bound.{Bound}
use Rattle.tapa_syntax.specs.declared.program.Bound.TheVariants.{Number, Top}
use Rattle.tapa_syntax.specs.declared.program.Instance.{Instance}
use Rattle.tapa_syntax.specs.declared.program.Leaf.{Leaf}
use Rattle.tapa_syntax.specs.declared.program.Memory.{Memory}
use Rattle.tapa_syntax.specs.declared.program.Program.{Program}
use Rattle.tapa_syntax.specs.declared.program.Scalar.{Scalar}
use Rattle.tapa_syntax.specs.declared.program.Stream.{Stream}
use Rattle.vlog_tree.specs.declared.tree.Atom.TheVariants.{Net, Literal}
use Rattle.vlog_tree.specs.declared.tree.Value.{Value}
use Rattle.vlog_tree.specs.declared.tree.Value.TheVariants.{Plain}
use Rattle.vlog_tree.specs.Labels.{done, scalar}
use Rattle.hw_build.specs.Elements.{Element, Output, Wire}
use Rattle.hw_build.specs.Trees.{numbered, tree_node, tree_nodes}
use Rattle.hw_build.specs.Scope.{each}
use Rattle.hw_lines.specs.Drivers.{Driver, wires_of, last_of, conversion}
use Rattle.hw_top_lines.specs.Names.{waits, bound_net}
use Rattle.hw_top_lines.specs.Bounds.{scalar_kind, scalar_name, parameter_kind, kind_before, conversion_step, bound_elements, parameters}
use Rattle.hw_top_lines.specs.Texts.{scalar_port, memory_ports, ports, stream_wires, take_wire, of_leaf, of_instance, at_instance, ended_wire, waiting, none_waits, doneness, task_part, channel_part, wires, instances, top_elements}

module _ (P : List Element → Type 0) (none : P []) (both : (xs ys : List Element) → P xs → P ys → P (xs ++ ys)) where
  pub each_part : (f : ℕ → List Element) (n : ℕ) → ((k : ℕ) → k < n → P (f k)) → P (each f n)
  each_part f zero h = none
  each_part f (suc n) h = both (each f n) (f n) (each_part f n (λ k l. h k (omega arith))) (h n (omega arith))

  -- a part for each of a list
  each_of : {A : Type 0} (part : ℕ → Option A → List Element) (xs : List A) → ((k : ℕ) → P (part k None)) → ((k : ℕ) (a : A) → slice_get xs k ≡ Some a → P (part k (Some a)))
      → P (each (λ k. part k (slice_get xs k)) (length xs))
  each_of {A} part xs empty given = each_part (λ k. part k (slice_get xs k)) (length xs) (λ k l. at k (slice_get xs k) refl) where
    at : (k : ℕ) (o : Option A) → slice_get xs k ≡ o → P (part k o)
    at k None e = empty k
    at k (Some a) e = given k a e

  module _ (program : Program) where
    abbrev n : ℕ
    n = length program.instances.items

    pub ports_by : ((k : ℕ) (c : Scalar) → slice_get program.scalars.items k ≡ Some c → P (scalar_port (Some c))) → ((k : ℕ) (m : Memory) → slice_get program.memories.items k ≡ Some m → P (memory_ports (Some m)))
        → P (ports program)
    ports_by scalars memories =
        both (each (λ x. scalar_port (slice_get program.scalars.items x)) (length program.scalars.items)) (each (λ m. memory_ports (slice_get program.memories.items m)) (length program.memories.items))
        (each_of (λ k. scalar_port) program.scalars.items (λ k. none) scalars) (each_of (λ k. memory_ports) program.memories.items (λ k. none) memories)

    -- a part for each instance of a leaf task
    pub each_leaf : (f : ℕ → Instance → Leaf → List Element)
        → ((i : ℕ) (x : Instance) (leaf : Leaf) → slice_get program.instances.items i ≡ Some x → slice_get program.bodies.items x.body ≡ Some leaf → P (f i x leaf)) → P (each (at_instance program f) n)
    each_leaf f given = each_of (λ i. of_instance program (f i)) program.instances.items (λ i. none) (λ i x g. body i x g (slice_get program.bodies.items x.body) refl) where
      body : (i : ℕ) (x : Instance) → slice_get program.instances.items i ≡ Some x → (o : Option Leaf) → slice_get program.bodies.items x.body ≡ o → P (of_leaf (f i) x o)
      body i x g None e = none
      body i x g (Some leaf) e = given i x leaf g e

    -- the wires of scalar parameters
    pub bounds_by : ((i p w k : ℕ) (v : Value) → P (Wire w (bound_net i p k) v ∷ [])) → ((i p w k m : ℕ) (v : Value) → P (Wire w (numbered (bound_net i p k) m) v ∷ [])) → P (each (at_instance program (parameters program)) n)
    bounds_by net driver =
        each_leaf (parameters program)
        (λ i x leaf g e.
        each_part (λ p. bound_elements program i p (parameter_kind leaf p) (slice_get x.scalars.items p)) (length leaf.scalars.items) (λ p l. bound i p (parameter_kind leaf p) (slice_get x.scalars.items p))) where
          drivers : (i p k m : ℕ) (ds : List Driver) → P (wires_of (bound_net i p k) m ds)
          drivers i p k m [] = none
          drivers i p k m (d ∷ ds) = both (Wire d.0 (numbered (bound_net i p k) m) d.1 ∷ []) (wires_of (bound_net i p k) (suc m) ds) (driver i p d.0 k m d.1) (drivers i p k (suc m) ds)

          step : (i p : ℕ) (first : Kind) (kinds : List Kind) (k : ℕ) → P (conversion_step i p first kinds k)
          step i p first kinds k =
              let x = bound_net i p (k + 1) in
              let target = slice_index_or kinds k U64 in
              let ds = conversion x 0 (kind_before first kinds k) target (Net (bound_net i p k)) in
              let value = Plain (last_of x 0 ds (Net (bound_net i p k))) in
              both (wires_of x 0 ds) (Wire (bits_of target) x value ∷ []) (drivers i p (k + 1) 0 ds) (net i p (bits_of target) (k + 1) value)

          bound : (i p : ℕ) (k : Kind) (o : Option Bound) → P (bound_elements program i p k o)
          bound i p k None = none
          bound i p k (Some (Number v)) = net i p (bits_of k) 0 (Plain (Literal (bits_of k) v))
          bound i p k (Some (Top x kinds)) =
              let first = scalar_kind program x in
              let value = Plain (Net (scalar (scalar_name program x))) in
              both (Wire (bits_of first) (bound_net i p 0) value ∷ []) (each (conversion_step i p first kinds.items) (length kinds.items)) (net i p (bits_of first) 0 value)
              (each_part (conversion_step i p first kinds.items) (length kinds.items) (λ k l. step i p first kinds.items k))

    pub wires_by : ((s : ℕ) (r : Stream) → slice_get program.streams.items s ≡ Some r → P (stream_wires (Some r))) → P (each (at_instance program (parameters program)) n) → ((i : ℕ) → i < n → P (ended_wire i))
        → ((s : ℕ) (r : Stream) → slice_get program.streams.items s ≡ Some r → P (take_wire (Some r))) → P (wires program)
    wires_by streams bounds ends takes =
        let first = each (λ s. stream_wires (slice_get program.streams.items s)) (length program.streams.items) in
        let second = each (at_instance program (parameters program)) n in
        let third = each ended_wire n in
        both (first ++ second ++ third) (each (λ s. take_wire (slice_get program.streams.items s)) (length program.streams.items))
        (both (first ++ second) third (both first second (each_of (λ s. stream_wires) program.streams.items (λ s. none) streams) bounds) (each_part ended_wire n ends))
        (each_of (λ s. take_wire) program.streams.items (λ s. none) takes)

    -- the tree that says whether an instance is waited for
    pub waits_by : ((i : ℕ) → P (waiting program i)) → ((m : ℕ) → P (tree_node 1 waits n m ∷ [])) → P (each (waiting program) n ++ tree_nodes 1 waits n (n - 1))
    waits_by leaf node = both (each (waiting program) n) (tree_nodes 1 waits n (n - 1)) (each_part (waiting program) n (λ i l. leaf i)) (nodes (n - 1)) where
      nodes : (m : ℕ) → P (tree_nodes 1 waits n m)
      nodes zero = none
      nodes (suc m) = both (tree_nodes 1 waits n m) (tree_node 1 waits n m ∷ []) (nodes m) (node m)

    pub done_by : P (each (waiting program) n ++ tree_nodes 1 waits n (n - 1)) → P (Output 1 done (none_waits n) ∷ []) → P (doneness program)
    done_by tree last = both (each (waiting program) n ++ tree_nodes 1 waits n (n - 1)) (Output 1 done (none_waits n) ∷ []) tree last

    module _ (added : List ℕ) where
      pub instances_by : ((i : ℕ) (x : Instance) (leaf : Leaf) → slice_get program.instances.items i ≡ Some x → slice_get program.bodies.items x.body ≡ Some leaf → P (task_part program i x leaf))
          → ((s : ℕ) (r : Stream) → slice_get program.streams.items s ≡ Some r → P (channel_part (slice_index added s) (Some r))) → P (instances program added)
      instances_by tasks channels =
          both (each (at_instance program (task_part program)) n) (each (λ s. channel_part (slice_index added s) (slice_get program.streams.items s)) (length program.streams.items))
          (each_leaf (task_part program) tasks) (each_of (λ s. channel_part (slice_index added s)) program.streams.items (λ s. none) channels)

      pub top_by : P (ports program) → P (wires program) → P (doneness program) → P (instances program added) → P (top_elements program added)
      top_by first second third last =
          both (ports program ++ wires program ++ doneness program) (instances program added)
          (both (ports program ++ wires program) (doneness program) (both (ports program) (wires program) first second) third) last
