-- The labels of the parts of a legal program tell them apart.
use Rattle.std.proofs.Common.{◌≡◌, ◌+◌, ℕ, List, [], ◌∷◌, ◌++◌, map, true, not, ◌&&◌, Option, Some, None, refl, sym, ap, subst, ◌∙◌, arith}
use Rattle.std.specs.Prelude.{nat_le, option_map, slice_get}
use Rattle.std.proofs.lemmas.Option.{same_Some, slice_get-map}
use Rattle.std.specs.List.{list_any, AllByRecursion}
use Rattle.tapa_syntax.specs.declared.program.Stream.{Stream}
use Rattle.tapa_syntax.specs.Flat.{FlatInstance, FlatLeaf}
use Rattle.check_scope.specs.declared.fault.CheckCode.TheVariants.{C3}
use Rattle.check_scope.specs.Faults.{over, where_so}
use Rattle.check_upper.specs.declared.task.Channel.{Channel}
use Rattle.check_upper.specs.Tasks.{Invocation, Body, leaf_body, upper_body, Task}
use Rattle.stream_check.specs.Parts.{Part, own, instance, too_deep, streams_in, instances_in}
use Rattle.stream_check.specs.Programs.{is_stream_parameter, is_upper, top_faults, top_instance, top_parts, limit_faults, bindings_faults, parts_faults, body_numbers, with_body, streams_of, program_made, top_task_faults, whole_faults, top_program, whole_program}
use Rattle.stream_check.proofs.WellLists.{holds, no_faults}
use Rattle.stream_check.proofs.WellTops.{limits}
use Rattle.command_source.specs.Labels.{IsPlainName, IsLabel, HasOwnLabels}
use Rattle.command_source.specs.Named.{parameter_name}
use Rattle.command_source.specs.Owned.{HaveOwnNames}
use Rattle.command_source.proofs.Apart.{all_append, all_at, all_from, Distinct, distinct, apart}
use Rattle.command_source.proofs.Names.{scalar_names, memory_names, scalars_all, memories_all, parameters_distinct, task_names, NamesLeaf, leaf_names_of, leaves_all, leaves_by, leaves_distinct}
use Rattle.command_source.proofs.Labelled.{AreInvoked, IsBelow, IsFlat, AreTold, top_good}
use Rattle.tapa_base.proofs.Tests.{both_true as both}

-- ---- what the limits say

flat_within : (s i : ℕ) (ps : List Part) → limit_faults s i ps ≡ [] → IsFlat ps
flat_within s i [] h = tt
flat_within s i (own c ∷ ps) h = flat_within (s + 1) i ps (no_faults (where_so (nat_le 1024 s) (over 1024 c.place)) (limit_faults (s + 1) i ps) h).1
flat_within s i (instance at x ∷ ps) h = flat_within s (i + 1) ps (no_faults (where_so (nat_le 512 i) (over 512 at)) (limit_faults s (i + 1) ps) h).1
flat_within s i (too_deep at ∷ ps) h = absurd (cc)

-- ---- the labels of a program are those of its parts

made_streams : (tasks : List Task) (is : List FlatInstance) (s : ℕ) (cs : List Channel) → map (λ (r : Stream). r.label) (streams_of tasks is s cs) ≡ map (λ (c : Channel). c.name) cs
made_streams tasks is s [] = refl
made_streams tasks is s (c ∷ cs) = ap (λ rest. c.name ∷ rest) (made_streams tasks is (s + 1) cs)

made_instances : (numbers : List ℕ) (is : List FlatInstance) → map (λ (x : FlatInstance). x.label) (map (with_body numbers) is) ≡ map (λ (x : FlatInstance). x.label) is
made_instances numbers [] = refl
made_instances numbers (x ∷ is) = ap (λ rest. x.label ∷ rest) (made_instances numbers is)

module _ (tasks : List Task) (h : HaveOwnNames tasks) where
  names_leaves : AllByRecursion NamesLeaf tasks
  names_leaves = all_from NamesLeaf tasks (λ n t there l e. h.leaves n t l there e)

  -- no leaf has the name of an upper-level task
  upper_avoids : (n : ℕ) (t : Task) (channels : List Channel) (invocations : List Invocation) → slice_get tasks n ≡ Some t → t.body ≡ upper_body channels invocations → (numbers : List ℕ) → AllByRecursion (λ x. t.declared.name.text ≡ x → ⊥) (leaf_names_of numbers 0 tasks)
  upper_avoids n t channels invocations there upper numbers =
      leaves_by (λ x. t.declared.name.text ≡ x → ⊥) numbers 0 tasks
      (all_from (λ (u : Task). (l : FlatLeaf) → u.body ≡ leaf_body l → t.declared.name.text ≡ l.name → ⊥) tasks
      (λ m u at l leaf same.
      let name_of = λ (z : Task). z.declared.name.text in
      let named : l.name ≡ u.declared.name.text = h.leaves m u l at leaf in
      let here : slice_get (task_names tasks) n ≡ Some t.declared.name.text = slice_get-map name_of tasks n ∙ ap (option_map name_of) there in
      let too : slice_get (task_names tasks) m ≡ Some t.declared.name.text = slice_get-map name_of tasks m ∙ ap (option_map name_of) at ∙ ap Some (sym (same ∙ named)) in
      let position : n ≡ m = h.apart n m t.declared.name.text here too in
      let both : Some t ≡ Some u = sym there ∙ ap (slice_get tasks) position ∙ at in
      let one : t ≡ u = same_Some t u both in
      let bodies : upper_body channels invocations ≡ leaf_body l = sym upper ∙ ap (λ (z : Task). z.body) one ∙ leaf in
      cc))

  made_labelled : (n : ℕ) (t : Task) (channels : List Channel) (invocations : List Invocation) (parts : List Part) → slice_get tasks n ≡ Some t → t.body ≡ upper_body channels invocations → AreTold (IsBelow []) parts → HasOwnLabels (program_made tasks t.declared (instances_in parts) (streams_in parts))
  made_labelled n t channels invocations parts there upper told =
      let is = instances_in parts in
      let cs = streams_in parts in
      let ps = t.declared.parameters in
      let numbers = body_numbers (instances_in parts) 0 tasks in
      let own = h.parameters n t there in
      let streams = sym (made_streams tasks (instances_in parts) 0 (streams_in parts)) in
      let instances = sym (made_instances (body_numbers (instances_in parts) 0 tasks) (instances_in parts)) in
      record {
        top = record { written = all_at (λ (u : Task). IsPlainName u.declared.name.text) tasks n t h.names there; apart = upper_avoids n t channels invocations there upper numbers };
        instances = apart (map (λ (x : FlatInstance). x.label) (map (with_body numbers) is)) (subst Distinct instances told.instances.apart);
        streams = apart (map (λ (r : Stream). r.label) (streams_of tasks is 0 cs)) (subst Distinct streams told.streams.apart);
        parameters = apart (scalar_names ps ++ memory_names is 0 ps) (parameters_distinct is ps (distinct (map parameter_name ps) (h.parameters_apart n t there)));
        leaves = apart (leaf_names_of numbers 0 tasks) (leaves_distinct numbers 0 tasks names_leaves (distinct (task_names tasks) h.apart));
        instances_written = subst (AllByRecursion IsLabel) instances told.instances.written;
        streams_written = subst (AllByRecursion IsLabel) streams told.streams.written;
        parameters_written = all_append IsPlainName (scalar_names ps) (memory_names is 0 ps) (scalars_all IsPlainName ps own) (memories_all IsPlainName is 0 ps own);
        leaves_written = leaves_all IsPlainName numbers 0 tasks names_leaves (all_map_names tasks h.names);
      }
    where
      all_map_names : (ts : List Task) → AllByRecursion (λ (u : Task). IsPlainName u.declared.name.text) ts → AllByRecursion IsPlainName (task_names ts)
      all_map_names [] a = tt
      all_map_names (u ∷ ts) (p, a) = (p, all_map_names ts a)

  -- ---- the whole program

  uppers : (b : Body) → is_upper b ≡ true → (channels : List Channel) × (invocations : List Invocation) × (b ≡ upper_body channels invocations)
  uppers (leaf_body l) e = absurd (cc)
  uppers (upper_body channels invocations) e = (channels, invocations, refl)

  top_labelled : AreInvoked tasks → (levels n : ℕ) (o : Option Task) → slice_get tasks n ≡ o → top_task_faults levels tasks n o ≡ [] → HasOwnLabels (top_program levels tasks n o)
  top_labelled invoked levels n None there f = absurd (cc)
  top_labelled invoked levels n (Some t) there f =
      let parts = top_parts levels tasks n t.declared in
      let p = no_faults (top_faults t) (parts_faults tasks t.declared (top_parts levels tasks n t.declared)) f in
      let q = no_faults (limit_faults 0 0 parts) (bindings_faults tasks t.declared (instances_in parts) (streams_in parts)) p.1 in
      let upper = is_upper t.body in
      let alone = not (list_any is_stream_parameter t.declared.parameters) in
      let u = uppers t.body (both upper alone (holds (upper && alone) (record { code = C3; place = t.declared.name.place; limit = None }) p.0)).0 in
      let l = (limits 0 0 parts (omega arith) (omega arith) q.0).1 in
      made_labelled n t u.0 u.1 parts there u.2 (top_good tasks h invoked levels t.declared.name.place (top_instance n t.declared.parameters) 0 t u.0 u.1 there u.2 refl (flat_within 0 0 parts q.0) (omega arith))

-- where no rule is broken, and each upper-level task invokes tasks of the list
pub tasks_labelled : (levels : ℕ) (tasks : List Task) (n : ℕ) → HaveOwnNames tasks → AreInvoked tasks → whole_faults levels tasks n ≡ [] → HasOwnLabels (whole_program levels tasks n)
tasks_labelled levels tasks n h invoked f = top_labelled tasks h invoked levels n (slice_get tasks n) refl f
