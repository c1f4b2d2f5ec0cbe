-- In a legal file each upper-level task invokes something, and what it invokes are tasks of the file.
use Rattle.std.proofs.Common.{◌≡◌, ◌≤◌, List, [], ◌∷◌, length, Some, subst, arith}
use Rattle.std.specs.Prelude.{slice_get}
use Rattle.std.specs.List.{AllByRecursion}
use Rattle.tapa_syntax.specs.Grammar.{IsBody, IsItem, IsTreeOf}
use Rattle.tapa_base.specs.Spans.{Each}
use Rattle.tapa_syntax.specs.Symbols.{Symbol}
use Rattle.tapa_syntax.specs.Trees as tree
use Rattle.tapa_syntax.specs.Trees.{BodyTree, InvocationTree, TaskTree, ItemTree}
use Rattle.check_scope.specs.Scopes.{Block, Scope}
use Rattle.check_upper.specs.declared.task.Channel.{Channel}
use Rattle.stream_check.specs.Items as items
use Rattle.stream_check.specs.Items.{Items, no_items, with_task, after_item, after_items, items_faults, tasks_of}
use Rattle.check_upper.specs.Tasks.{Invocation, Body, leaf_body, upper_body, Task}
use Rattle.check_upper.specs.Uppers.{invocations_of, after_streams, streams_begin}
use Rattle.stream_check.proofs.WellLists as lists
use Rattle.stream_check.proofs.WellLists.{each_get}
use Rattle.stream_check.proofs.WellPorts.{Ports, ports_of}
use Rattle.stream_check.proofs.WellTasks.{BodyFits, TaskFits, tasks_fit}
use Rattle.stream_check.proofs.WellUppers.{InvocationFits}
use Rattle.command_source.proofs.Apart.{all_append, all_at}
use Rattle.command_source.proofs.Labelled.{AreInvoked}

-- ---- by the grammar an upper-level task invokes at least once

abbrev Invokes : BodyTree → Type 0
Invokes (tree.leaf ss) = Unit {0}
Invokes (tree.upper streams invocations) = 1 ≤ length invocations

abbrev InvokesIn : ItemTree → Type 0
InvokesIn (tree.constant attributes k x e) = Unit {0}
InvokesIn (tree.task t) = Invokes t.body

body_invokes : (b : BodyTree) (before behind : List Symbol) → IsBody b before behind → Invokes b
body_invokes (tree.leaf ss) before behind h = tt
body_invokes (tree.upper streams []) before behind h = absurd h.2.2.2.2.2.2.1
body_invokes (tree.upper streams (i ∷ is)) before behind h = omega arith

item_invokes : (x : ItemTree) (before behind : List Symbol) → IsItem x before behind → InvokesIn x
item_invokes (tree.constant attributes k x e) before behind h = tt
item_invokes (tree.task t) before behind h = body_invokes t.body h.2.2.2.2.2.2.0 h.2.2.2.2.2.2.2.0 h.2.2.2.2.2.2.2.1

items_invoke : (xs : List ItemTree) (before behind : List Symbol) → Each IsItem xs before behind → AllByRecursion InvokesIn xs
items_invoke [] before behind h = tt
items_invoke (x ∷ xs) before behind h = (item_invokes x before h.0 h.1, items_invoke xs h.0 behind h.2)

-- ---- so does what it means

abbrev Invoking : Body → Type 0
Invoking (leaf_body l) = Unit {0}
Invoking (upper_body channels invocations) = 1 ≤ length invocations

some_invoked : (E : Scope) (tasks : List Task) (t : TaskTree) (is : List InvocationTree) → 1 ≤ length is → 1 ≤ length (invocations_of E tasks t is)
some_invoked E tasks t [] h = absurd (omega arith)
some_invoked E tasks t (i ∷ is) h = omega arith

body_invoking : (file : Block) (tasks : List Task) (t : TaskTree) (b : BodyTree) → Invokes b → Invoking (items.body_of file tasks t b)
body_invoking file tasks t (tree.leaf ss) h = tt
body_invoking file tasks t (tree.upper streams invocations) h = some_invoked (after_streams (streams_begin file t) streams).scope tasks t invocations h

abbrev TaskInvokes : Task → Type 0
TaskInvokes t = Invoking t.body

item_step : (f : Items) (x : ItemTree) → AllByRecursion TaskInvokes f.tasks → InvokesIn x → AllByRecursion TaskInvokes (after_item f x).tasks
item_step f (tree.constant attributes k x e) a h = a
item_step f (tree.task t) a h = all_append TaskInvokes f.tasks (record { declared = t; body = items.body_of (with_task f t) f.tasks t t.body } ∷ []) a (body_invoking (with_task f t) f.tasks t t.body h, tt)

items_steps : (f : Items) (xs : List ItemTree) → AllByRecursion TaskInvokes f.tasks → AllByRecursion InvokesIn xs → AllByRecursion TaskInvokes (after_items f xs).tasks
items_steps f [] a h = a
items_steps f (x ∷ xs) a h = items_steps (after_item f x) xs (item_step f x a h.0) h.1

-- ---- what is invoked are tasks

invocations_known : (tasks : List Task) (q : Ports) (cs : List Channel) (is : List Invocation) → lists.Each (InvocationFits tasks q cs) is → AllByRecursion (λ (i : Invocation). (u : Task) × (slice_get tasks i.task ≡ Some u)) is
invocations_known tasks q cs [] a = tt
invocations_known tasks q cs (i ∷ is) a = ((a.0.task, a.0.there), invocations_known tasks q cs is a.1)

pub legal_tasks_invoke : (symbols : List Symbol) (items : List ItemTree) → IsTreeOf symbols items → items_faults no_items items ≡ [] → AreInvoked (tasks_of items)
legal_tasks_invoke symbols items is_tree h =
    let some = items_steps no_items items tt (items_invoke items symbols [] is_tree) in
    let fits = tasks_fit items h in
    record {
      some = λ n t channels invocations there e. subst Invoking e (all_at TaskInvokes (tasks_of items) n t some there);
      known = λ n t channels invocations there e.
          let f = subst (BodyFits (tasks_of items) (ports_of t.declared.parameters)) e (each_get (TaskFits (tasks_of items)) (tasks_of items) n t fits there) in
          invocations_known (tasks_of items) (ports_of t.declared.parameters) channels invocations f.invocations;
    }
