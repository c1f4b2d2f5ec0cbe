use Rattle.std.proofs.Common.{◌≡◌, map, take}
use Rattle.tapa_syntax.specs.declared.program.Instance.{Instance}
use Rattle.task_graph.specs.Uses.{use_of}
use Rattle.run_data.specs.Seen.{seen}
use Rattle.plan_device.specs.Contents.{use_by}
use Rattle.plan_device.proofs.contents.uses_of.Given as goal

abbrev pub invariant-loop-i : goal.invariant-loop-i
invariant-loop-i l = l.uses.items ≡ map (λ (x : Instance). use_by (seen l.tasks) l.leaves x (use_of l.leaves x)) (take l.i l.instances)
