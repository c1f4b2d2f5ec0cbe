-- The tasks of a file without faults.
use Rattle.std.proofs.Common.{◌≡◌, inl, ℕ, List, [], ◌∷◌, ◌++◌, length, refl}
use Rattle.tapa_syntax.specs.Trees as tree
use Rattle.tapa_syntax.specs.Trees.{BodyTree, TaskTree, ItemTree}
use Rattle.check_scope.specs.declared.entity.Entity.{Entity}
use Rattle.check_scope.specs.declared.entity.Entity.TheVariants as entity
use Rattle.check_expression.specs.Expressions.{constant_value, wanted}
use Rattle.check_scope.specs.Faults.{doubled}
use Rattle.check_upper.specs.Tasks.{Invocation, Body, leaf_body, upper_body, Task}
use Rattle.check_upper.specs.declared.task.Channel.{Channel}
use Rattle.stream_check.specs.Items.{Items, no_items, with_task, body_of, body_faults, after_task, after_item, item_faults, after_items, items_faults, tasks_of}
use Rattle.stream_check.proofs.WellLists.{no_faults, Each, each_append, each_more, get_last}
use Rattle.stream_check.proofs.WellValues.{wanted_fits}
use Rattle.stream_check.proofs.WellPorts.{Ports, no_ports, ports_of, LeafFits, leaf_fits, IsTask, Means, MeansInFile, Declares, declares_more, in_task, scope_sound, file_global}
use Rattle.stream_check.proofs.WellUppers.{InvocationFits, UpperFits, upper_fits}
use Rattle.tapa_base.proofs.Got.{got_left as get_left}

abbrev pub BodyFits : List Task → Ports → Body → Type 0
BodyFits tasks q (leaf_body l) = LeafFits q l
BodyFits tasks q (upper_body channels invocations) = UpperFits tasks q channels invocations

abbrev pub TaskFits : List Task → Task → Type 0
TaskFits tasks t = BodyFits tasks (ports_of t.declared.parameters) t.body

-- ---- more tasks

invocation_more : (tasks more : List Task) (q : Ports) (c : List Channel) (i : Invocation) → InvocationFits tasks q c i → InvocationFits (tasks ++ more) q c i
invocation_more tasks more q c i f = record { task = f.task; there = get_left tasks more i.task f.task f.there; bindings = f.bindings }

body_more : (tasks more : List Task) (q : Ports) (b : Body) → BodyFits tasks q b → BodyFits (tasks ++ more) q b
body_more tasks more q (leaf_body l) f = f
body_more tasks more q (upper_body channels invocations) f = record {
  depths = f.depths;
  invocations = each_more (InvocationFits tasks q channels) (InvocationFits (tasks ++ more) q channels) (invocation_more tasks more q channels) invocations f.invocations;
}

task_more : (tasks more : List Task) (t : Task) → TaskFits tasks t → TaskFits (tasks ++ more) t
task_more tasks more t f = body_more tasks more (ports_of t.declared.parameters) t.body f

task_at_more : (tasks more : List Task) (n : ℕ) → IsTask tasks n → IsTask (tasks ++ more) n
task_at_more tasks more n (t, e) = (t, get_left tasks more n t e)

in_file_more : (tasks more : List Task) (x : List ℕ) (s : Entity) → MeansInFile tasks x s → MeansInFile (tasks ++ more) x s
in_file_more tasks more x (entity.Constant k n) m = m
in_file_more tasks more x (entity.Variable free k n) m = m
in_file_more tasks more x (entity.Array free k n) m = m
in_file_more tasks more x (entity.Memory free k n) m = m
in_file_more tasks more x (entity.Stream writes k n) m = m
in_file_more tasks more x (entity.Channel k n) m = m
in_file_more tasks more x (entity.Task task_number) m = task_at_more tasks more task_number m

-- ---- items

pub record ItemsFit (f : Items) : Type 0 where
  pub names : Declares (MeansInFile f.tasks) f.block
  pub tasks : Each (TaskFits f.tasks) f.tasks

-- the names of a file in a task of it
names_in : (f : Items) (t : TaskTree) → ItemsFit f → Declares (Means f.tasks t.name.text no_ports []) (with_task f t)
names_in f t g = each_append (λ (d : List ℕ × Entity). Means f.tasks t.name.text no_ports [] d.0 d.1) f.block ((t.name.text, entity.Task (length f.tasks)) ∷ [])
    (declares_more (MeansInFile f.tasks) (Means f.tasks t.name.text no_ports []) (in_task f.tasks t.name.text no_ports []) f.block g.names)
    (inl refl, tt)

body_fits : (f : Items) (t : TaskTree) (b : BodyTree) → ItemsFit f → body_faults (with_task f t) f.tasks t b ≡ [] → BodyFits f.tasks (ports_of t.parameters) (body_of (with_task f t) f.tasks t b)
body_fits f t (tree.leaf ss) g h = leaf_fits (with_task f t) t ss (file_global f.tasks f.block t.name.text (length f.tasks) g.names) h
body_fits f t (tree.upper streams invocations) g h = upper_fits (with_task f t) f.tasks t streams invocations (names_in f t g, (tt, tt)) h

task_step : (f : Items) (t : TaskTree) → ItemsFit f → item_faults f (tree.task t) ≡ [] → ItemsFit (after_task f t)
task_step f t g h =
    let p = no_faults (doubled (f.block ∷ []) t.name) (body_faults (with_task f t) f.tasks t t.body) h in
    let new : Task = record { declared = t; body = body_of (with_task f t) f.tasks t t.body } in
    record {
      names = each_append (λ (d : List ℕ × Entity). MeansInFile (f.tasks ++ new ∷ []) d.0 d.1) f.block ((t.name.text, entity.Task (length f.tasks)) ∷ [])
          (declares_more (MeansInFile f.tasks) (MeansInFile (f.tasks ++ new ∷ [])) (in_file_more f.tasks (new ∷ [])) f.block g.names)
          ((new, get_last f.tasks new (length f.tasks) refl), tt);
      tasks = each_append (TaskFits (f.tasks ++ new ∷ [])) f.tasks (new ∷ [])
          (each_more (TaskFits f.tasks) (TaskFits (f.tasks ++ new ∷ [])) (task_more f.tasks (new ∷ [])) f.tasks g.tasks)
          (task_more f.tasks (new ∷ []) new (body_fits f t t.body g p.1), tt);
    }

file_sound : (f : Items) → ItemsFit f → Declares (Means f.tasks [] no_ports []) f.block
file_sound f g = declares_more (MeansInFile f.tasks) (Means f.tasks [] no_ports []) (in_task f.tasks [] no_ports []) f.block g.names

item_step : (f : Items) (x : ItemTree) → ItemsFit f → item_faults f x ≡ [] → ItemsFit (after_item f x)
item_step f (tree.constant attributes k x e) g h = record {
  names = each_append (λ (d : List ℕ × Entity). MeansInFile f.tasks d.0 d.1) f.block ((x.text, entity.Constant k (constant_value (wanted (f.block ∷ []) k e))) ∷ [])
      g.names (wanted_fits (f.block ∷ []) (scope_sound f.tasks [] no_ports [] (f.block ∷ []) (file_sound f g, tt)) k e, tt);
  tasks = g.tasks;
}
item_step f (tree.task t) g h = task_step f t g h

items_steps : (f : Items) (xs : List ItemTree) → ItemsFit f → items_faults f xs ≡ [] → ItemsFit (after_items f xs)
items_steps f [] g h = g
items_steps f (x ∷ xs) g h =
    let p = no_faults (item_faults f x) (items_faults (after_item f x) xs) h in
    items_steps (after_item f x) xs (item_step f x g p.0) p.1

pub tasks_fit : (items : List ItemTree) → items_faults no_items items ≡ [] → Each (TaskFits (tasks_of items)) (tasks_of items)
tasks_fit items h = (items_steps no_items items (record { names = tt; tasks = tt }) h).tasks
