-- The instances of a circuit's top, and what its wires are.
use Rattle.std.proofs.Common.{◌≡◌, ℕ, List, ◌++◌, length, Some, inl, refl, sym, ap, subst}
use Rattle.std.specs.Prelude.{slice_get, slice_index}
use Rattle.std.proofs.lemmas.Option.{slice_get_within}
use Rattle.tapa_syntax.specs.declared.program.Instance.{Instance}
use Rattle.tapa_syntax.specs.declared.program.Leaf.{Leaf}
use Rattle.tapa_syntax.specs.declared.program.Program.{Program}
use Rattle.tapa_syntax.specs.declared.program.Stream.{Stream}
use Rattle.tapa_base.specs.Lists.{Has}
use Rattle.tapa_base.proofs.Lists.{has_left, has_right}
use Rattle.hw_build.specs.Elements.{Element, Instance as InstanceElement}
use Rattle.hw_build.specs.Scope.{each}
use Rattle.hw_build.proofs.Parts.{has_each}
use Rattle.hw_channel_lines.specs.Names.{channel_name}
use Rattle.hw_lines.specs.Texts.{task_name}
use Rattle.hw_top_lines.specs.Bounds.{parameters}
use Rattle.hw_top_lines.specs.Names.{task_instance, channel_instance}
use Rattle.hw_top_lines.specs.Texts.{token_bits, ports, wires, doneness, instances, top_elements, at_instance, task_part, task_connections, channel_part, channel_connections}
use Rattle.hw_top_laws.proofs.form.Standing.{standing, front_among, at_is, parameters_front}

module _ (program : Program) (added : List ℕ) where
  pub of_doneness : (e : Element) → Has (doneness program) e → Has (top_elements program added) e
  of_doneness e h = has_left (standing program) (instances program added) e (has_right (ports program ++ wires program) (doneness program) e h)

  of_instances : (e : Element) → Has (instances program added) e → Has (top_elements program added) e
  of_instances e h = has_right (standing program) (instances program added) e h

  abbrev tasks : List Element
  tasks = each (at_instance program (task_part program)) (length program.instances.items)

  abbrev channels : List Element
  channels = each (λ s. channel_part (slice_index added s) (slice_get program.streams.items s)) (length program.streams.items)

  abbrev task_element : ℕ → Instance → Leaf → Element
  task_element i x leaf = InstanceElement (task_name leaf.name) (task_instance x.label) (task_connections program i x leaf)

  pub task_there : (i : ℕ) (x : Instance) (leaf : Leaf) → slice_get program.instances.items i ≡ Some x → slice_get program.bodies.items x.body ≡ Some leaf → Has (top_elements program added) (task_element i x leaf)
  task_there i x leaf e b =
      of_instances (task_element i x leaf)
      (has_left tasks channels (task_element i x leaf)
      (has_each (at_instance program (task_part program)) (length program.instances.items) i (task_element i x leaf) (slice_get_within program.instances.items i x e)
      (subst (λ es. Has es (task_element i x leaf)) (sym (at_is program (task_part program) i x leaf e b)) (inl refl))))

  abbrev channel_element : ℕ → Stream → Element
  channel_element s r = InstanceElement (channel_name (token_bits r.kind) r.depth (slice_index added s)) (channel_instance r.label) (channel_connections r.label)

  pub channel_there : (s : ℕ) (r : Stream) → slice_get program.streams.items s ≡ Some r → Has (top_elements program added) (channel_element s r)
  channel_there s r e =
      of_instances (channel_element s r)
      (has_right tasks channels (channel_element s r)
      (has_each (λ k. channel_part (slice_index added k) (slice_get program.streams.items k)) (length program.streams.items) s (channel_element s r) (slice_get_within program.streams.items s r e)
      (subst (λ es. Has es (channel_element s r)) (sym (ap (channel_part (slice_index added s)) e)) (inl refl))))

  -- the nets of an instance's scalar parameters
  pub of_parameters : (i : ℕ) (x : Instance) (leaf : Leaf) → slice_get program.instances.items i ≡ Some x → slice_get program.bodies.items x.body ≡ Some leaf → (e : Element) → Has (parameters program i x leaf) e → Has (top_elements program added) e
  of_parameters i x leaf at body e h = has_left (standing program) (instances program added) e (front_among program e (parameters_front program i x leaf at body e h))
