-- The tasks of a legal file: each stores in memories and passes memories on as its parameters let it.
use Rattle.std.proofs.Common.{◌≡◌, ℕ, List, [], ◌∷◌, ◌++◌, length, Bool, refl, sym, subst}
use Rattle.tapa_syntax.specs.Trees as tree
use Rattle.tapa_syntax.specs.Trees.{BodyTree, TaskTree, ItemTree}
use Rattle.check_scope.specs.declared.entity.Entity.{Entity}
use Rattle.check_scope.specs.declared.entity.Entity.TheVariants as entity
use Rattle.check_scope.specs.Faults.{doubled}
use Rattle.check_scope.specs.Scopes.{Block}
use Rattle.check_expression.specs.Expressions.{constant_value, wanted}
use Rattle.check_upper.specs.Tasks.{Body, leaf_body, upper_body, Task}
use Rattle.stream_check.specs.Items.{Items, no_items, with_task, body_of, body_faults, after_task, after_item, item_faults, after_items, items_faults, tasks_of}
use Rattle.stream_check.proofs.WellLists.{no_faults, Each, each_append, each_more}
use Rattle.stream_check.proofs.WellPorts.{Declares}
use Rattle.tapa_laws.specs.memories.Stores.{CodeStoresAt}
use Rattle.tapa_laws.proofs.memories.Flags.{frees_of, IsFree, IsFlagged}
use Rattle.tapa_laws.proofs.memories.Leaves.{leaf_stores}
use Rattle.tapa_laws.proofs.memories.Uppers.{InvocationKeeps, Begins, upper_keeps}
use Rattle.tapa_base.proofs.Got.{got_left as get_left}

abbrev pub BodyKeeps : List Task → List Bool → Body → Type 0
BodyKeeps all q (leaf_body l) = CodeStoresAt (IsFree q) l.code
BodyKeeps all q (upper_body channels invocations) = Each (InvocationKeeps all q) invocations

abbrev pub TaskKeeps : List Task → Task → Type 0
TaskKeeps all t = BodyKeeps all (frees_of t.declared.parameters) t.body

-- what a task of a file is made from: the names and the tasks before it
record Origin (all : List Task) (t : Task) : Type 0 where
  block : Block
  before : List Task
  begins : Begins before all
  names : Declares (IsFlagged []) block
  made : t.body ≡ body_of block before t.declared t.declared.body
  legal : body_faults block before t.declared t.declared.body ≡ []

origin_more : (all more : List Task) (t : Task) → Origin all t → Origin (all ++ more) t
origin_more all more t o = record {
  block = o.block;
  before = o.before;
  begins = λ n u e. get_left all more n u (o.begins n u e);
  names = o.names;
  made = o.made;
  legal = o.legal;
}

record ItemsKeep (f : Items) : Type 0 where
  names : Declares (IsFlagged []) f.block
  tasks : Each (Origin f.tasks) f.tasks

name_more : (block : Block) (x : List ℕ) (s : Entity) → Declares (IsFlagged []) block → IsFlagged [] x s → Declares (IsFlagged []) (block ++ (x, s) ∷ [])
name_more block x s h m = each_append (λ (d : List ℕ × Entity). IsFlagged [] d.0 d.1) block ((x, s) ∷ []) h (m, tt)

task_step : (f : Items) (t : TaskTree) → ItemsKeep f → item_faults f (tree.task t) ≡ [] → ItemsKeep (after_task f t)
task_step f t g h =
    let p = no_faults (doubled (f.block ∷ []) t.name) (body_faults (with_task f t) f.tasks t t.body) h in
    let new : Task = record { declared = t; body = body_of (with_task f t) f.tasks t t.body } in
    let names = name_more f.block t.name.text (entity.Task (length f.tasks)) g.names tt in
    record {
      names = names;
      tasks = each_append (Origin (f.tasks ++ new ∷ [])) f.tasks (new ∷ [])
          (each_more (Origin f.tasks) (Origin (f.tasks ++ new ∷ [])) (origin_more f.tasks (new ∷ [])) f.tasks g.tasks)
          (record { block = with_task f t; before = f.tasks; begins = λ n u e. get_left f.tasks (new ∷ []) n u e; names = names; made = refl; legal = p.1 }, tt);
    }

item_step : (f : Items) (x : ItemTree) → ItemsKeep f → item_faults f x ≡ [] → ItemsKeep (after_item f x)
item_step f (tree.constant attributes k x e) g h = record { names = name_more f.block x.text (entity.Constant k (constant_value (wanted (f.block ∷ []) k e))) g.names tt; tasks = g.tasks }
item_step f (tree.task t) g h = task_step f t g h

items_steps : (f : Items) (xs : List ItemTree) → ItemsKeep f → items_faults f xs ≡ [] → ItemsKeep (after_items f xs)
items_steps f [] g h = g
items_steps f (x ∷ xs) g h =
    let p = no_faults (item_faults f x) (items_faults (after_item f x) xs) h in
    items_steps (after_item f x) xs (item_step f x g p.0) p.1

body_keeps : (all before : List Task) → Begins before all → (block : Block) → Declares (IsFlagged []) block → (t : TaskTree) (b : BodyTree) → body_faults block before t b ≡ []
    → BodyKeeps all (frees_of t.parameters) (body_of block before t b)
body_keeps all before begins block names t (tree.leaf ss) h = leaf_stores block names t ss h
body_keeps all before begins block names t (tree.upper streams invocations) h = upper_keeps block names before all begins t streams invocations h

task_keeps : (all : List Task) (t : Task) → Origin all t → TaskKeeps all t
task_keeps all t o = subst (BodyKeeps all (frees_of t.declared.parameters)) (sym o.made) (body_keeps all o.before o.begins o.block o.names t.declared t.declared.body o.legal)

pub tasks_keep : (items : List ItemTree) → items_faults no_items items ≡ [] → Each (TaskKeeps (tasks_of items)) (tasks_of items)
tasks_keep items h =
    let f = items_steps no_items items (record { names = tt; tasks = tt }) h in
    each_more (Origin (tasks_of items)) (TaskKeeps (tasks_of items)) (task_keeps (tasks_of items)) (tasks_of items) f.tasks
