use Rattle.std.proofs.Common.{◌≡◌, map, take}
use Rattle.tapa_syntax.specs.declared.program.Instance.{Instance}
use Rattle.task_graph.proofs.program_graph.labels_of.Given as goal

abbrev pub invariant-loop-instance : goal.invariant-loop-instance
invariant-loop-instance l = l.labels.items ≡ map (λ (i : Instance). i.label) (take l.instance-index l.instances)
