-- What stands at an instance, and the channel of a stream.
use Rattle.std.proofs.Common.{◌≡◌, ℕ, List, [], Some, None, sym, ap, ◌∙◌}
use Rattle.std.specs.Prelude.{slice_get, slice_index}
use Rattle.tapa_syntax.specs.declared.program.Instance.{Instance}
use Rattle.tapa_syntax.specs.declared.program.Leaf.{Leaf}
use Rattle.tapa_syntax.specs.declared.program.Program.{Program}
use Rattle.tapa_syntax.specs.declared.program.Stream.{Stream}
use Rattle.vlog_tree.specs.declared.tree.Connection.{Connection}
use Rattle.vlog_tree.specs.Form.{ModuleTree}
use Rattle.vlog_tree.specs.Table.{Name}
use Rattle.hw_build.specs.Elements.{Element, Instance as InstanceElement, with, with_all}
use Rattle.hw_channel_lines.specs.Names.{channel_name}
use Rattle.hw_top_lines.specs.Names.{channel_instance}
use Rattle.hw_top_lines.specs.Texts.{token_bits, of_leaf, of_instance, at_instance, channel_connections, channel_part}

-- an instance of a leaf
pub part_at : (program : Program) (f : ℕ → Instance → Leaf → List Element) (i : ℕ) (x : Instance) (leaf : Leaf) → slice_get program.instances.items i ≡ Some x → slice_get program.bodies.items x.body ≡ Some leaf
    → at_instance program f i ≡ f i x leaf
part_at program f i x leaf p q = ap (of_instance program (f i)) p ∙ ap (of_leaf (f i) x) q

pub no_leaf_at : (program : Program) (f : ℕ → Instance → Leaf → List Element) (i : ℕ) (x : Instance) → slice_get program.instances.items i ≡ Some x → slice_get program.bodies.items x.body ≡ None → at_instance program f i ≡ []
no_leaf_at program f i x p q = ap (of_instance program (f i)) p ∙ ap (of_leaf (f i) x) q

pub no_instance_at : (program : Program) (f : ℕ → Instance → Leaf → List Element) (i : ℕ) → slice_get program.instances.items i ≡ None → at_instance program f i ≡ []
no_instance_at program f i p = ap (of_instance program (f i)) p

-- the instance of a channel
pub channel_grows : (program : Program) (added : List ℕ) (s late bits : ℕ) (r : Stream) (d f : ModuleTree) (module_name name : Name) (ends : List Connection) → slice_get program.streams.items s ≡ Some r → late ≡ slice_index added s
    → bits ≡ token_bits r.kind → module_name ≡ channel_name bits r.depth late → name ≡ channel_instance r.label → ends ≡ channel_connections r.label → f ≡ with d (InstanceElement module_name name ends)
    → f ≡ with_all d (channel_part (slice_index added s) (slice_get program.streams.items s))
channel_grows program added s late bits r d f module_name name ends at is wide of_channel of_stream joined grown =
    let title = of_channel ∙ ap (λ b. channel_name b r.depth late) wide ∙ ap (channel_name (token_bits r.kind) r.depth) is in
    grown ∙ ap (λ z. with d (InstanceElement z name ends)) title ∙ ap (λ z. with d (InstanceElement (channel_name (token_bits r.kind) r.depth (slice_index added s)) z ends)) of_stream
    ∙ ap (λ z. with d (InstanceElement (channel_name (token_bits r.kind) r.depth (slice_index added s)) (channel_instance r.label) z)) joined
    ∙ sym (ap (λ o. with_all d (channel_part (slice_index added s) o)) at)

pub no_channel_stays : (program : Program) (added : List ℕ) (s : ℕ) (d : ModuleTree) → slice_get program.streams.items s ≡ None → d ≡ with_all d (channel_part (slice_index added s) (slice_get program.streams.items s))
no_channel_stays program added s d at = sym (ap (λ o. with_all d (channel_part (slice_index added s) o)) at)
