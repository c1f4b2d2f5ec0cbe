-- No instance of a legal source's program has code that stores in a const memory.
use Rattle.std.proofs.Common.{◌≡◌, ◌+◌, ℕ, List, [], ◌∷◌, ◌++◌, length, map, Bool, true, false, not, ◌||◌, Option, Some, None, refl, sym, ap, subst, ◌∙◌, arith}
use Rattle.std.specs.Prelude.{slice_get, ◌==◌}
use Rattle.std.proofs.lemmas.Bool.{eqb-true}
use Rattle.std.proofs.lemmas.List.{append-nil}
use Rattle.tapa_syntax.specs.declared.program.Instance.{Instance}
use Rattle.tapa_syntax.specs.declared.program.Leaf.{Leaf}
use Rattle.tapa_syntax.specs.declared.program.Memory.{Memory}
use Rattle.tapa_syntax.specs.declared.program.Program.{Program}
use Rattle.tapa_syntax.specs.declared.tree.Parameter.{Parameter}
use Rattle.tapa_syntax.specs.declared.tree.Parameter.TheVariants as parameter
use Rattle.tapa_syntax.specs.Trees.{TaskTree}
use Rattle.tapa_syntax.specs.Flat.{FlatInstance, FlatLeaf, FlatProgram, flat_instance, flat_leaf, flat_program, flat_statement}
use Rattle.check_upper.specs.Tasks.{leaf_body, Task, task_position}
use Rattle.check_upper.specs.declared.task.Channel.{Channel}
use Rattle.stream_check.specs.Items.{no_items, items_faults, tasks_of}
use Rattle.stream_check.specs.Parts.{streams_in, instances_in}
use Rattle.stream_check.specs.Programs.{top_memories, top_instance, all_levels, top_parts, top_task_faults, top_program, memories_of, is_used, body_numbers, bodies_of, with_body}
use Rattle.stream_check.specs.Programs.{whole_faults, program_made}
use Rattle.stream_check.proofs.WellLists.{no_faults, Each, each_get, get_last, Pairs, pairs_get, pairs_push}
use Rattle.stream_check.proofs.WellBodies.{is_used_by, body_there}
use Rattle.stream_check.proofs.WellTasks.{TaskFits, tasks_fit}
use Rattle.tapa_laws.specs.memories.Stores.{CodeStoresAt, IsApart, StoresNothingIn}
use Rattle.tapa_laws.specs.memories.Constant.{LegalProgramsStoreNothingInConstMemories, ConstMemoriesKeepTheirCells}
use Rattle.tapa_laws.proofs.memories.Stores.{code_wider}
use Rattle.tapa_laws.proofs.memories.Cells.{cells_stay}
use Rattle.tapa_laws.proofs.memories.Flags.{with_frees, frees_of, IsFree}
use Rattle.tapa_laws.proofs.memories.Tasks.{BodyKeeps, TaskKeeps, tasks_keep}
use Rattle.tapa_laws.proofs.memories.Parts.{MemoryKeeps, LeafKeeps, parts_keep}
use Rattle.stream_check.proofs.WellTops.{none_longer, joined}
use Rattle.stream_check.proofs.WellUppers.{one_more as one_longer}
use Rattle.tapa_base.proofs.Got.{got_left as get_left, the_same, got_map as get_map, of_map_got as get_unmap}

-- ---- the memories of the top task

abbrev free_of : Memory → Bool
free_of r = not r.constant

memory_flags : (is : List FlatInstance) (m : ℕ) (q : List Bool) (ps : List Parameter) → with_frees q ps ≡ q ++ map free_of (memories_of is m ps)
memory_flags is m q [] = sym (append-nil q)
memory_flags is m q (parameter.InputStream k x ∷ ps) = memory_flags is (m + 0) q ps
memory_flags is m q (parameter.OutputStream k x ∷ ps) = memory_flags is (m + 0) q ps
memory_flags is m q (parameter.Memory constant k x ∷ ps) = memory_flags is (m + 1) (q ++ not constant ∷ []) ps ∙ joined q (not constant) (map free_of (memories_of is (m + 1) ps))
memory_flags is m q (parameter.Scalar constant k x ∷ ps) = memory_flags is (m + 0) q ps

-- flags stay where they are
kept_flag : (q : List Bool) (ps : List Parameter) (n : ℕ) (b : Bool) → slice_get q n ≡ Some b → slice_get (with_frees q ps) n ≡ Some b
kept_flag q [] n b h = h
kept_flag q (parameter.InputStream k x ∷ ps) n b h = kept_flag q ps n b h
kept_flag q (parameter.OutputStream k x ∷ ps) n b h = kept_flag q ps n b h
kept_flag q (parameter.Memory constant k x ∷ ps) n b h = kept_flag (q ++ not constant ∷ []) ps n b (get_left q (not constant ∷ []) n b h)
kept_flag q (parameter.Scalar constant k x ∷ ps) n b h = kept_flag q ps n b h

-- the top task's memories are bound to themselves
module _ (w : List Bool) where
  abbrev HaveFlags : List Bool → List Parameter → Type 0
  HaveFlags q ps = (n : ℕ) (b : Bool) → slice_get (with_frees q ps) n ≡ Some b → slice_get w n ≡ Some b

  top_keeps : (q : List Bool) (ps : List Parameter) (n : ℕ) (ms : List ℕ) → n ≡ length q → HaveFlags q ps → Pairs (MemoryKeeps w) ms q
      → Pairs (MemoryKeeps w) (ms ++ top_memories n ps) (with_frees q ps)
  top_keeps q [] n ms e h f = subst (λ xs. Pairs (MemoryKeeps w) xs q) (sym (append-nil ms)) f
  top_keeps q (parameter.InputStream k x ∷ ps) n ms e h f = top_keeps q ps (n + 0) ms (none_longer n (length q) e) h f
  top_keeps q (parameter.OutputStream k x ∷ ps) n ms e h f = top_keeps q ps (n + 0) ms (none_longer n (length q) e) h f
  top_keeps q (parameter.Scalar constant k x ∷ ps) n ms e h f = top_keeps q ps (n + 0) ms (none_longer n (length q) e) h f
  top_keeps q (parameter.Memory constant k x ∷ ps) n ms e h f =
      let more = q ++ not constant ∷ [] in
      let there : slice_get w n ≡ Some (not constant) = h n (not constant) (kept_flag more ps n (not constant) (get_last q (not constant) n e)) in
      subst (λ xs. Pairs (MemoryKeeps w) xs (with_frees more ps)) (joined ms n (top_memories (n + 1) ps))
      (top_keeps more ps (n + 1) (ms ++ n ∷ []) (one_longer q (not constant) n e) h (pairs_push (MemoryKeeps w) ms q n (not constant) f (λ free. there ∙ ap Some free)))

-- ---- tasks that are used

used_by : (w : List Bool) (tasks : List Task) (j : ℕ) (u : Task) (x : FlatInstance) (b c : Bool) → (x.body == j) ≡ b → LeafKeeps w tasks x → slice_get tasks j ≡ Some u
    → (c ≡ true → (l : FlatLeaf) × (u.body ≡ leaf_body l)) → (b || c) ≡ true → (l : FlatLeaf) × (u.body ≡ leaf_body l)
used_by w tasks j u x true c e m h f k =
    let there : Some m.task ≡ Some u = sym m.there ∙ ap (slice_get tasks) (eqb-true x.body j e) ∙ h in
    (m.leaf, ap (λ (t : Task). t.body) (sym (the_same m.task u there)) ∙ m.is)
used_by w tasks j u x false c e m h f k = f k

used_leaf : (w : List Bool) (tasks : List Task) (is : List FlatInstance) → Each (LeafKeeps w tasks) is → (j : ℕ) (u : Task) → slice_get tasks j ≡ Some u → is_used is j ≡ true
    → (l : FlatLeaf) × (u.body ≡ leaf_body l)
used_leaf w tasks [] a j u h k = absurd (cc)
used_leaf w tasks (x ∷ is) (m, a) j u h k = used_by w tasks j u x (x.body == j) (is_used is j) refl m h (used_leaf w tasks is a j u h) k

-- ---- programs

two_flags : (o : Option Bool) → o ≡ Some true → o ≡ Some false → ⊥
two_flags o a b = cc

module _ (tasks : List Task) (top : TaskTree) (is : List FlatInstance) (cs : List Channel) (kept : Each (TaskKeeps tasks) tasks)
    (made : Each (LeafKeeps (frees_of top.parameters) tasks) is) (p : Program) (same : flat_program p ≡ program_made tasks top is cs) where
  abbrev w : List Bool
  w = frees_of top.parameters

  abbrev numbers : List ℕ
  numbers = body_numbers is 0 tasks

  memories_same : p.memories.items ≡ memories_of is 0 top.parameters
  memories_same = ap (λ (q : FlatProgram). q.memories) same

  bodies_same : map flat_leaf p.bodies.items ≡ bodies_of numbers 0 tasks
  bodies_same = ap (λ (q : FlatProgram). q.bodies) same

  instances_same : map flat_instance p.instances.items ≡ map (with_body numbers) is
  instances_same = ap (λ (q : FlatProgram). q.instances) same

  -- an instance of the program, and what it is made from
  record View (x : Instance) : Type 0 where
    pub from : FlatInstance
    pub is_from : with_body numbers from ≡ flat_instance x
    pub keeps : LeafKeeps w tasks from
    pub leaf : Leaf
    pub leaf_is : slice_get p.bodies.items x.body ≡ Some leaf
    pub flat : flat_leaf leaf ≡ keeps.leaf

  view : (i : ℕ) (x : Instance) → slice_get p.instances.items i ≡ Some x → View x
  view i x h =
      let a = subst (λ xs. slice_get xs i ≡ Some (flat_instance x)) instances_same (get_map flat_instance p.instances.items i x h) in
      let c = get_unmap (with_body numbers) is i (flat_instance x) a in
      let m = each_get (LeafKeeps w tasks) is i c.0 made c.1 in
      let d = body_there is tasks c.0.body m.task m.leaf (used_leaf w tasks is made) m.there m.is (is_used_by is i c.0 c.1) in
      let e = subst (λ n. slice_get (bodies_of numbers 0 tasks) n ≡ Some m.leaf) (ap (λ (z : FlatInstance). z.body) c.2) d in
      let g = get_unmap flat_leaf p.bodies.items x.body m.leaf (subst (λ ls. slice_get ls x.body ≡ Some m.leaf) (sym bodies_same) e) in
      record { from = c.0; is_from = c.2; keeps = m; leaf = g.0; leaf_is = g.1; flat = g.2 }

  constant_flag : (m : ℕ) (o : Memory) → slice_get p.memories.items m ≡ Some o → o.constant ≡ true → slice_get w m ≡ Some false
  constant_flag m o h e =
      let a = get_map free_of (memories_of is 0 top.parameters) m o (subst (λ rs. slice_get rs m ≡ Some o) memories_same h) in
      subst (λ q. slice_get q m ≡ Some (free_of o)) (sym (memory_flags is 0 [] top.parameters)) a ∙ ap (λ b. Some (not b)) e

  module _ (x : Instance) (v : View x) where
    abbrev q : List Bool
    q = frees_of v.keeps.task.declared.parameters

    its_memories : Pairs (MemoryKeeps w) x.memories.items q
    its_memories = subst (λ ms. Pairs (MemoryKeeps w) ms q) (ap (λ (z : FlatInstance). z.memories) v.is_from) v.keeps.memories

    its_code : CodeStoresAt (IsFree q) (map flat_statement v.leaf.code.items)
    its_code = subst (λ (l : FlatLeaf). CodeStoresAt (IsFree q) l.code) (sym v.flat)
        (subst (BodyKeeps tasks q) v.keeps.is (each_get (TaskKeeps tasks) tasks v.from.body v.keeps.task kept v.keeps.there))

    apart : (m n : ℕ) → slice_get w m ≡ Some false → IsFree q n → IsApart x m n
    apart m n flag free bound = two_flags (slice_get w m) (pairs_get (MemoryKeeps w) x.memories.items q n m true its_memories bound free refl) flag

    stores_apart : (m : ℕ) → slice_get w m ≡ Some false → CodeStoresAt (IsApart x m) (map flat_statement v.leaf.code.items)
    stores_apart m flag = code_wider (IsFree q) (IsApart x m) (λ n. apart m n flag) (map flat_statement v.leaf.code.items) its_code

  stores_nothing : (m : ℕ) (o : Memory) → slice_get p.memories.items m ≡ Some o → o.constant ≡ true → StoresNothingIn p m
  stores_nothing m o h e i x leaf a b =
      let v = view i x a in
      subst (λ (l : Leaf). CodeStoresAt (IsApart x m) (map flat_statement l.code.items)) (the_same v.leaf leaf (sym v.leaf_is ∙ b)) (stores_apart x v m (constant_flag m o h e))

whole_stores_nothing : (levels n : ℕ) (tasks : List Task) (o : Option Task) (program : Program) → slice_get tasks n ≡ o → Each (TaskFits tasks) tasks → Each (TaskKeeps tasks) tasks
    → top_task_faults levels tasks n o ≡ [] → flat_program program ≡ top_program levels tasks n o → (m : ℕ) (r : Memory) → slice_get program.memories.items m ≡ Some r → r.constant ≡ true
    → StoresNothingIn program m
whole_stores_nothing levels n tasks None program there fine kept faults same m r h e = absurd (cc)
whole_stores_nothing levels n tasks (Some t) program there fine kept faults same m r h e =
    let w = frees_of t.declared.parameters in
    let parts = top_parts levels tasks n t.declared in
    let top = top_keeps w [] t.declared.parameters 0 [] refl (λ k b a. a) tt in
    let made = parts_keep w tasks fine kept levels t.declared.name.place (top_instance n t.declared.parameters) 0 t there top in
    stores_nothing tasks t.declared (instances_in parts) (streams_in parts) kept made program same m r h e

pub nothing_in_const : LegalProgramsStoreNothingInConstMemories
nothing_in_const items top program h same m r there e =
    let n = task_position 0 top (tasks_of items) in
    let a = no_faults (items_faults no_items items) (whole_faults all_levels (tasks_of items) (task_position 0 top (tasks_of items))) h in
    whole_stores_nothing all_levels n (tasks_of items) (slice_get (tasks_of items) n) program refl (tasks_fit items a.0) (tasks_keep items a.0) a.1 same m r there e

pub const_keeps : ConstMemoriesKeepTheirCells
const_keeps items top program h same m r there e scalars memories k = cells_stay program m (nothing_in_const items top program h same m r there e) scalars memories k
