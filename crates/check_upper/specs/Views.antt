-- What tasks denote.
use Rattle.std.specs.Prelude.{map}
use Rattle.tapa_syntax.specs.Trees.{task_of}
use Rattle.tapa_syntax.specs.Flat.{flat_leaf}
use Rattle.check_upper.specs.declared.task.Body.{Body}
use Rattle.check_upper.specs.declared.task.Body.TheVariants.{Leaf, Upper}
use Rattle.check_upper.specs.declared.task.Invoked.{Invoked}
use Rattle.check_upper.specs.declared.task.Task.{Task}
use Rattle.check_upper.specs.Tasks as task

abbrev pub invocation_view : Invoked → task.Invocation
invocation_view i = record { place = i.place; detached = i.detached; task = i.task; bindings = i.bindings.items }

abbrev pub body_view : Body → task.Body
body_view (Leaf l) = task.leaf_body (flat_leaf l)
body_view (Upper channels invocations) = task.upper_body channels.items (map invocation_view invocations.items)

abbrev pub task_view : Task → task.Task
task_view t = record { declared = task_of t.declared.now; body = body_view t.body }
