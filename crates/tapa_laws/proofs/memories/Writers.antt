-- In a legal program the instance of a memory that may be written is waited for.
use Rattle.std.proofs.Common.{◌≡◌, ◌+◌, ℕ, zero, suc, List, [], ◌∷◌, ◌++◌, Bool, true, false, not, ◌&&◌, Option, Some, None, refl, sym, ap, subst, ◌∙◌}
use Rattle.std.specs.Prelude.{slice_get}
use Rattle.tapa_base.specs.declared.text.Place.{Place}
use Rattle.tapa_syntax.specs.declared.program.Memory.{Memory}
use Rattle.tapa_syntax.specs.declared.tree.Parameter.{Parameter}
use Rattle.tapa_syntax.specs.declared.tree.Parameter.TheVariants as parameter
use Rattle.tapa_syntax.specs.Flat.{FlatInstance}
use Rattle.tapa_syntax.specs.Trees.{TaskTree, ItemTree}
use Rattle.check_scope.specs.declared.fault.Broken.{Broken}
use Rattle.check_scope.specs.declared.fault.CheckCode.{CheckCode}
use Rattle.check_scope.specs.declared.fault.CheckCode.TheVariants.{C7, C12}
use Rattle.check_scope.specs.Faults.{fault, where_so}
use Rattle.check_upper.specs.declared.task.Channel.{Channel}
use Rattle.check_upper.specs.Tasks.{Task, task_position}
use Rattle.check_scope.specs.One.{is_one, the_one, one_faults}
use Rattle.stream_check.specs.Items.{no_items, items_faults, tasks_of}
use Rattle.stream_check.specs.Parts.{streams_in, instances_in}
use Rattle.stream_check.specs.Programs.{instances_with, streams_faults, memories_faults, memories_of, is_detached, is_of_detached, writers_faults, body_numbers, with_body, bindings_faults, program_made, top_faults, top_parts, limit_faults, parts_faults, top_task_faults, top_program, whole_faults, all_levels, program_faults, program_of}
use Rattle.stream_check.proofs.WellLists.{nothing, no_faults, holds, holds_not}
use Rattle.tapa_laws.specs.memories.Writers.{HasJoinedWriters}
use Rattle.tapa_base.proofs.Got.{the_same, of_map_got as get_unmap}

-- ---- one memory

abbrev the_fault : CheckCode → Place → Broken
the_fault code place = record { code = code; place = place; limit = None }

of_the_one : (is : List FlatInstance) (bound : List ℕ) → is_one bound ≡ true → is_of_detached is bound ≡ is_detached (slice_get is (the_one bound))
of_the_one is [] h = absurd (cc)
of_the_one is (i ∷ []) h = refl
of_the_one is (i ∷ j ∷ rest) h = absurd (cc)

-- where neither C7 nor C12 is told of it
joined_owner : (is : List FlatInstance) (bound : List ℕ) (constant : Bool) (place : Place) (owner : ℕ) → one_faults C7 place bound ≡ [] → where_so (not constant && is_of_detached is bound) (fault C12 place) ≡ [] → constant ≡ false → owner ≡ the_one bound → is_detached (slice_get is owner) ≡ false
joined_owner is bound constant place owner one none free own =
    let told = holds_not (not constant && is_of_detached is bound) (the_fault C12 place) none in
    let waited : is_of_detached is bound ≡ false = subst (λ b. (not b && is_of_detached is bound) ≡ false) free told in
    ap (λ i. is_detached (slice_get is i)) own ∙ sym (of_the_one is bound (holds (is_one bound) (the_fault C7 place) one)) ∙ waited

-- ---- the memories of the top task

memories_joined : (is : List FlatInstance) (k : ℕ) (ps : List Parameter) → memories_faults is k ps ≡ [] → writers_faults is k ps ≡ [] → (m : ℕ) (r : Memory) → slice_get (memories_of is k ps) m ≡ Some r → r.constant ≡ false → is_detached (slice_get is r.owner) ≡ false
memories_joined is k [] h w m r a c = absurd (nothing r a)
memories_joined is k (parameter.InputStream j x ∷ ps) h w m r a c = memories_joined is (k + 0) ps h w m r a c
memories_joined is k (parameter.OutputStream j x ∷ ps) h w m r a c = memories_joined is (k + 0) ps h w m r a c
memories_joined is k (parameter.Scalar constant j x ∷ ps) h w m r a c = memories_joined is (k + 0) ps h w m r a c
memories_joined is k (parameter.Memory constant j x ∷ ps) h w zero r a c =
    let bound = instances_with k 0 is in
    let f = no_faults (one_faults C7 x.place bound) (memories_faults is (k + 1) ps) h in
    let g = no_faults (where_so (not constant && is_of_detached is bound) (fault C12 x.place)) (writers_faults is (k + 1) ps) w in
    let e = the_same (record { name = x.text; kind = j; constant = constant; owner = the_one (instances_with k 0 is) }) r a in
    joined_owner is bound constant x.place r.owner f.0 g.0 (ap (λ (v : Memory). v.constant) e ∙ c) (ap (λ (v : Memory). v.owner) (sym e))
memories_joined is k (parameter.Memory constant j x ∷ ps) h w (suc m) r a c =
    let bound = instances_with k 0 is in
    let f = no_faults (one_faults C7 x.place bound) (memories_faults is (k + 1) ps) h in
    let g = no_faults (where_so (not constant && is_of_detached is bound) (fault C12 x.place)) (writers_faults is (k + 1) ps) w in
    memories_joined is (k + 1) ps f.1 g.1 m r a c

-- ---- the program

made_joined : (tasks : List Task) (top : TaskTree) (is : List FlatInstance) (cs : List Channel) → bindings_faults tasks top is cs ≡ [] → HasJoinedWriters (program_made tasks top is cs)
made_joined tasks top is cs h m r x at free there =
    let a = no_faults (streams_faults tasks is 0 cs) (memories_faults is 0 top.parameters ++ writers_faults is 0 top.parameters) h in
    let b = no_faults (memories_faults is 0 top.parameters) (writers_faults is 0 top.parameters) a.1 in
    let y = get_unmap (with_body (body_numbers is 0 tasks)) is r.owner x there in
    let joined = memories_joined is 0 top.parameters b.0 b.1 m r at free in
    ap (λ (z : FlatInstance). z.detached) (sym y.2) ∙ subst (λ (o : Option FlatInstance). is_detached o ≡ false) y.1 joined

top_joined : (levels : ℕ) (tasks : List Task) (n : ℕ) (o : Option Task) → top_task_faults levels tasks n o ≡ [] → HasJoinedWriters (top_program levels tasks n o)
top_joined levels tasks n None h = absurd (cc)
top_joined levels tasks n (Some t) h =
    let parts = top_parts levels tasks n t.declared in
    let a = no_faults (top_faults t) (parts_faults tasks t.declared (top_parts levels tasks n t.declared)) h in
    let b = no_faults (limit_faults 0 0 parts) (bindings_faults tasks t.declared (instances_in parts) (streams_in parts)) a.1 in
    made_joined tasks t.declared (instances_in parts) (streams_in parts) b.1

pub writers_joined : (items : List ItemTree) (top : List ℕ) → program_faults items top ≡ [] → HasJoinedWriters (program_of items top)
writers_joined items top h =
    let a = no_faults (items_faults no_items items) (whole_faults all_levels (tasks_of items) (task_position 0 top (tasks_of items))) h in
    top_joined all_levels (tasks_of items) (task_position 0 top (tasks_of items)) (slice_get (tasks_of items) (task_position 0 top (tasks_of items))) a.1
