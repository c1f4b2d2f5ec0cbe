-- The instances of the top: those of leaf tasks, and those of channels.
use Rattle.std.proofs.Common.{◌≡◌, ℕ, List, ◌++◌, Some, inl, inr, refl, subst, ⊎_elim}
use Rattle.std.specs.Prelude.{slice_get, slice_index}
use Rattle.tapa_syntax.specs.declared.program.Instance.{Instance}
use Rattle.tapa_syntax.specs.declared.program.Leaf.{Leaf}
use Rattle.tapa_syntax.specs.declared.program.Program.{Program}
use Rattle.tapa_syntax.specs.declared.program.Stream.{Stream}
use Rattle.vlog_tree.specs.declared.tree.Connection.{Connection}
use Rattle.tapa_base.specs.Lists.{Has}
use Rattle.vlog_tree.specs.Table.{Name}
use Rattle.tapa_base.proofs.Lists.{has_split, has_flat}
use Rattle.hw_build.specs.Elements.{Element, Instance as InstanceElement}
use Rattle.hw_build.specs.Order.{child_names}
use Rattle.hw_channel_lines.specs.Names.{channel_name}
use Rattle.hw_lines.specs.Texts.{task_name}
use Rattle.hw_top_lines.specs.Names.{task_instance, channel_instance}
use Rattle.hw_top_lines.specs.Texts.{ports, wires, doneness, token_bits, task_connections, task_part, channel_connections, channel_part, instances, top_elements}
use Rattle.hw_top_laws.proofs.form.PartByPart.{instances_by}
use Rattle.hw_top_laws.proofs.form.Drives.{standing_none}

module _ (program : Program) (added : List ℕ) where
  -- an element that is the instance of a task, or of a channel
  pub data IsOfTop (e : Element) : Type 0 where
    OfTask : (i : ℕ) (x : Instance) (leaf : Leaf) → slice_get program.instances.items i ≡ Some x → slice_get program.bodies.items x.body ≡ Some leaf
        → InstanceElement (task_name leaf.name) (task_instance x.label) (task_connections program i x leaf) ≡ e → IsOfTop e
    OfChannel : (s : ℕ) (r : Stream) → slice_get program.streams.items s ≡ Some r
        → InstanceElement (channel_name (token_bits r.kind) r.depth (slice_index added s)) (channel_instance r.label) (channel_connections r.label) ≡ e → IsOfTop e

  abbrev AreOfTop : List Element → Type 0
  AreOfTop es = (e : Element) → Has es e → IsOfTop e

  pub in_instances : AreOfTop (instances program added)
  in_instances = instances_by AreOfTop (λ e h. absurd h) (λ xs ys f g e h. ⊎_elim (f e) (g e) (has_split xs ys e h)) program added task channel where
    task : (i : ℕ) (x : Instance) (leaf : Leaf) → slice_get program.instances.items i ≡ Some x → slice_get program.bodies.items x.body ≡ Some leaf → AreOfTop (task_part program i x leaf)
    task i x leaf g k e (inl s) = OfTask i x leaf g k s
    task i x leaf g k e (inr n) = absurd n

    channel : (s : ℕ) (r : Stream) → slice_get program.streams.items s ≡ Some r → AreOfTop (channel_part (slice_index added s) (Some r))
    channel s r g e (inl q) = OfChannel s r g q
    channel s r g e (inr n) = absurd n

  pub of_top : (k i : Name) (ls : List Connection) → Has (top_elements program added) (InstanceElement k i ls) → IsOfTop (InstanceElement k i ls)
  of_top k i ls h =
      let standing = ports program ++ wires program ++ doneness program in
      let none = standing_none child_names program (λ w x v. refl) (λ w x. refl) (λ v. refl) (λ w x. refl) (λ w x. refl) in
      ⊎_elim (λ r. absurd (subst (λ (l : List Name). Has l k) none (has_flat child_names standing (InstanceElement k i ls) k r (inl refl)))) (λ r. in_instances (InstanceElement k i ls) r)
      (has_split standing (instances program added) (InstanceElement k i ls) h)
