-- The rules of the items of a file, in order: each sees the names that those before it declare.
use Rattle.std.specs.Prelude.{List, [], ◌∷◌, ◌++◌, length}
use Rattle.tapa_syntax.specs.Trees as tree
use Rattle.tapa_syntax.specs.Trees.{ExpressionTree, BodyTree, TaskTree, ItemTree}
use Rattle.check_scope.specs.declared.fault.Broken.{Broken}
use Rattle.check_scope.specs.declared.entity.Entity.TheVariants as entity
use Rattle.check_scope.specs.Scopes.{Block}
use Rattle.check_expression.specs.Expressions.{wanted, constant_value, constant_faults}
use Rattle.check_scope.specs.Faults.{doubled}
use Rattle.check_leaf.specs.Leaves.{leaf_faults, leaf_of}
use Rattle.check_upper.specs.Tasks.{Body, leaf_body, Task}
use Rattle.check_upper.specs.Uppers.{upper_faults, upper_of}

-- the names that the items so far declare, and the tasks among them
pub record Items : Type 0 where
  pub block : Block
  pub tasks : List Task

abbrev pub with_task : Items → TaskTree → Block
with_task f t = f.block ++ (t.name.text, entity.Task (length f.tasks)) ∷ []

abbrev pub body_of : Block → List Task → TaskTree → BodyTree → Body
body_of block tasks t (tree.leaf ss) = leaf_body (leaf_of block t ss)
body_of block tasks t (tree.upper streams invocations) = upper_of block tasks t streams invocations

abbrev pub body_faults : Block → List Task → TaskTree → BodyTree → List Broken
body_faults block tasks t (tree.leaf ss) = leaf_faults block t ss
body_faults block tasks t (tree.upper streams invocations) = upper_faults block tasks t streams invocations

-- a task's name is declared from its own body on
abbrev pub after_task : Items → TaskTree → Items
after_task f t = record { block = with_task f t; tasks = f.tasks ++ record { declared = t; body = body_of (with_task f t) f.tasks t t.body } ∷ [] }

abbrev pub task_faults : Items → TaskTree → List Broken
task_faults f t = doubled (f.block ∷ []) t.name ++ body_faults (with_task f t) f.tasks t t.body

abbrev pub after_item : Items → ItemTree → Items
after_item f (tree.constant attributes k x e) = record { block = f.block ++ (x.text, entity.Constant k (constant_value (wanted (f.block ∷ []) k e))) ∷ []; tasks = f.tasks }
after_item f (tree.task t) = after_task f t

abbrev pub item_faults : Items → ItemTree → List Broken
item_faults f (tree.constant attributes k x e) = doubled (f.block ∷ []) x ++ constant_faults (f.block ∷ []) e
item_faults f (tree.task t) = task_faults f t

abbrev pub after_items : Items → List ItemTree → Items
after_items f [] = f
after_items f (x ∷ rest) = after_items (after_item f x) rest

abbrev pub items_faults : Items → List ItemTree → List Broken
items_faults f [] = []
items_faults f (x ∷ rest) = item_faults f x ++ items_faults (after_item f x) rest

abbrev pub no_items : Items
no_items = record { block = []; tasks = [] }

-- the tasks of a file
abbrev pub tasks_of : List ItemTree → List Task
tasks_of items = (after_items no_items items).tasks
