-- Each link and each outlet of the top is driven by an instance.
use Rattle.std.proofs.Common.{◌≡◌, ℕ, ◌<◌, Bool, true, false, cond, List, [], ◌∷◌, ◌++◌, length, Option, Some, None, inl, inr, refl, sym, ap, subst, ◌∙◌, arith, ⊎_elim}
use Rattle.std.specs.Prelude.{option_map, unwrap_or, slice_get, slice_index}
use Rattle.std.specs.List.{flat_map}
use Rattle.std.proofs.lemmas.Grind.{flat_map-append}
use Rattle.std.proofs.lemmas.Option.{get_or_from_slice_get}
use Rattle.tapa_syntax.specs.declared.program.End.{End}
use Rattle.tapa_syntax.specs.declared.program.Instance.{Instance}
use Rattle.tapa_syntax.specs.declared.program.Leaf.{Leaf}
use Rattle.tapa_syntax.specs.declared.program.Memory.{Memory}
use Rattle.tapa_syntax.specs.declared.program.Program.{Program}
use Rattle.tapa_syntax.specs.declared.program.Stream.{Stream}
use Rattle.tapa_syntax.specs.WellFormed.{IsJoined as IsStreamEnd}
use Rattle.task_fsm.specs.declared.machine.Fsm.{Fsm}
use Rattle.tapa_base.specs.Lists.{Has}
use Rattle.vlog_tree.specs.Labels.{m_addr, m_wdata, m_we, s_din, s_wr, s_rdy}
use Rattle.vlog_tree.specs.Table.{Name}
use Rattle.tapa_base.proofs.Lists.{has_left, has_right, has_split, has_flat}
use Rattle.hw_build.specs.Elements.{Element, Instance as InstanceElement}
use Rattle.hw_build.specs.Fitting.{link_names, instance_driven}
use Rattle.hw_build.specs.Scope.{each}
use Rattle.hw_build.proofs.Parts.{has_each}
use Rattle.hw_channel_lines.specs.Names.{channel_name}
use Rattle.hw_lines.specs.Texts.{is_written, task_name}
use Rattle.hw_task_laws.proofs.names.Empty.{GiveNone}
use Rattle.hw_top_lines.specs.Names.{s_has, s_dout, s_take, task_instance, channel_instance}
use Rattle.hw_top_lines.specs.Bounds.{parameters}
use Rattle.hw_top_lines.specs.Legal.{IsReady}
use Rattle.hw_top_lines.specs.Texts.{take_wire, at_instance, stream_label, memory_name, token_bits, task_connections, ended_wire, doneness, channel_connections, instances, top_elements}
use Rattle.hw_top_laws.specs.modules.Lower.{lower_modules, KeepPromises}
use Rattle.hw_top_laws.proofs.form.Drives.{bounds_none, done_none, instances_none, stream_drives, memory_drives, task_drives, channel_drives, task_driven, channel_driven}
use Rattle.hw_top_laws.proofs.form.PartByPart.{ports_by, wires_by, top_by}
use Rattle.hw_top_laws.proofs.runs.Elements.{task_there, channel_there}
use Rattle.hw_top_laws.proofs.form.Tasks.{part_at}
use Rattle.hw_task_laws.proofs.steps.Allowed.{side_is as way_of}
use Rattle.tapa_base.proofs.Got.{got_low as some_index, some_at as got_some}

module _ (program : Program) (machines : List Fsm) (added : List ℕ) (ready : IsReady program machines added) (kept : KeepPromises program machines) where
  abbrev drives : Element → List Name
  drives e = instance_driven (lower_modules program machines added) e

  abbrev Reached : Name → Type 0
  Reached y = Has (flat_map drives (top_elements program added)) y

  -- what an instance of a task drives
  by_task : (i : ℕ) (x : Instance) (leaf : Leaf) → slice_get program.instances.items i ≡ Some x → slice_get program.bodies.items x.body ≡ Some leaf → (y : Name) → Has (task_drives program i x leaf) y → Reached y
  by_task i x leaf g k y h =
      let e = InstanceElement (task_name leaf.name) (task_instance x.label) (task_connections program i x leaf) in
      has_flat drives (top_elements program added) e y (task_there program added i x leaf g k)
      (subst (λ (l : List Name). Has l y) (sym (task_driven program machines added ready kept i x leaf (part_at program machines added ready kept i x leaf g k) (task_instance x.label))) h)

  -- and what a channel drives
  by_channel : (s : ℕ) (r : Stream) → slice_get program.streams.items s ≡ Some r → (y : Name) → Has (channel_drives r) y → Reached y
  by_channel s r g y h =
      let e = InstanceElement (channel_name (token_bits r.kind) r.depth (slice_index added s)) (channel_instance r.label) (channel_connections r.label) in
      has_flat drives (top_elements program added) e y (channel_there program added s r g) (subst (λ (l : List Name). Has l y) (sym (channel_driven program machines added ready kept s r g (channel_instance r.label))) h)

  -- ---- memories

  by_owner : (m : ℕ) (y : Name) (i : ℕ) (x : Instance) → slice_get program.instances.items i ≡ Some x → (p : ℕ) → slice_get x.memories.items p ≡ Some m → Has (memory_drives program x p) y → Reached y
  by_owner m y i x g p b h =
      let r = ready.well_formed.instances i x g in
      let long = r.1.memories_len in
      let low = some_index x.memories.items p m b in
      by_task i x r.0 g r.1.body y
      (inr
      (has_right (each (stream_drives program x r.0) (length r.0.streams.items)) (each (memory_drives program x) (length r.0.memories.items)) y
      (has_each (memory_drives program x) (length r.0.memories.items) p y (omega (arith, long, low)) h)))

  memory_reached : (m : ℕ) (r : Memory) → slice_get program.memories.items m ≡ Some r → (y : Name) → Has (m_addr r.name ∷ m_wdata r.name ∷ m_we r.name ∷ []) y → Reached y
  memory_reached m r g y h =
      let o = ready.well_formed.memories m r g in
      let index : slice_index o.instance.memories.items o.position ≡ m = get_or_from_slice_get o.instance.memories.items o.position m 0 o.bound in
      let name : memory_name program (slice_index o.instance.memories.items o.position) ≡ r.name =
      ap (memory_name program) index ∙ ap (λ q. unwrap_or (option_map (λ (z : Memory). z.name) q) []) g in
      by_owner m y r.owner o.instance o.is o.position o.bound (subst (λ (z : Name). Has (m_addr z ∷ m_wdata z ∷ m_we z ∷ []) y) (sym name) h)

  -- ---- streams

  abbrev ends_by : Bool → Name → List Name
  ends_by b z = cond b (s_wr z ∷ s_din z ∷ []) (s_take z ∷ [])

  end_reached : (i s : ℕ) (r : Stream) (b : Bool) → slice_get program.streams.items s ≡ Some r → IsStreamEnd program i s b → (y : Name) → Has (ends_by b r.label) y → Reached y
  end_reached i s r b g j y h =
      let x = j.instance in
      let leaf = j.leaf in
      let p = j.position in
      let index : slice_index x.streams.items p ≡ s = get_or_from_slice_get x.streams.items p s 0 j.stream in
      let label : stream_label program (slice_index x.streams.items p) ≡ r.label = ap (stream_label program) index ∙ ap (λ q. unwrap_or (option_map (λ (z : Stream). z.label) q) []) g in
      let goes : is_written (slice_get leaf.streams.items p) ≡ b = way_of (slice_get leaf.streams.items p) b j.writes in
      let here : Has (stream_drives program x leaf p) y =
      subst (λ c. Has (ends_by c (stream_label program (slice_index x.streams.items p))) y) (sym goes) (subst (λ z. Has (ends_by b z) y) (sym label) h) in
      by_task i x leaf j.is j.leaf_is y
      (inr
      (has_left (each (stream_drives program x leaf) (length leaf.streams.items)) (each (memory_drives program x) (length leaf.memories.items)) y
      (has_each (stream_drives program x leaf) (length leaf.streams.items) p y (long_enough (slice_get leaf.streams.items p) refl j.writes) here))) where
        long_enough : (o : Option End) → slice_get j.leaf.streams.items j.position ≡ o → option_map (λ (e : End). e.writes) o ≡ Some b → j.position < length j.leaf.streams.items
        long_enough None e f = cc
        long_enough (Some q) e f = some_index j.leaf.streams.items j.position q e

  stream_reached : (s : ℕ) (r : Stream) → slice_get program.streams.items s ≡ Some r → (y : Name) → Has (s_din r.label ∷ s_wr r.label ∷ s_rdy r.label ∷ s_has r.label ∷ s_dout r.label ∷ []) y → Reached y
  stream_reached s r g y (inl e) = end_reached r.producer s r true g (ready.well_formed.streams s r g).written y (inr (inl e))
  stream_reached s r g y (inr (inl e)) = end_reached r.producer s r true g (ready.well_formed.streams s r g).written y (inl e)
  stream_reached s r g y (inr (inr (inl e))) = by_channel s r g y (inl e)
  stream_reached s r g y (inr (inr (inr (inl e)))) = by_channel s r g y (inr (inl e))
  stream_reached s r g y (inr (inr (inr (inr (inl e))))) = by_channel s r g y (inr (inr (inl e)))
  stream_reached s r g y (inr (inr (inr (inr (inr n))))) = absurd n

  -- ---- all links

  -- a part of the elements, by the links that it has
  abbrev Reach : List Element → Type 0
  Reach es = (y : Name) → Has (flat_map link_names es) y → Reached y

  take_reached : (s : ℕ) (r : Stream) → slice_get program.streams.items s ≡ Some r → Reach (take_wire (Some r))
  take_reached s r g y (inl e) = end_reached r.consumer s r false g (ready.well_formed.streams s r g).read y (inl e)
  take_reached s r g y (inr n) = absurd n

  ended_reached : (i : ℕ) → i < length program.instances.items → Reach (ended_wire i)
  ended_reached i l y (inl e) =
      let x = got_some program.instances.items i l in
      let r = ready.well_formed.instances i x.0 x.1 in
      by_task i x.0 r.0 x.1 r.1.body y (inl e)
  ended_reached i l y (inr n) = absurd n

  reach_none : (es : List Element) → GiveNone link_names es → Reach es
  reach_none es e y h = absurd (subst (λ (l : List Name). Has l y) e h)

  reach_both : (xs ys : List Element) → Reach xs → Reach ys → Reach (xs ++ ys)
  reach_both xs ys f g y h =
      ⊎_elim (λ l. f y l) (λ r. g y r) (has_split (flat_map link_names xs) (flat_map link_names ys) y (subst (λ (l : List Name). Has l y) (flat_map-append link_names xs ys) h))

  pub all_reached : Reach (top_elements program added)
  all_reached =
      let none : Reach [] = λ y h. absurd h in
      top_by Reach none reach_both program added (ports_by Reach none reach_both program (λ k c e y h. absurd h) memory_reached)
      (wires_by Reach none reach_both program stream_reached
      (reach_none (each (at_instance program (parameters program)) (length program.instances.items)) (bounds_none link_names (λ w x v. refl) program)) ended_reached take_reached)
      (reach_none (doneness program) (done_none link_names (λ w x v. refl) program (λ v. refl)))
      (reach_none (instances program added) (instances_none link_names (λ k i ls. refl) program added))
