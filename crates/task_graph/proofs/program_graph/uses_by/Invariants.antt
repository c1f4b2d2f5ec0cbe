use Rattle.std.proofs.Common.{◌≡◌, map, take}
use Rattle.std.specs.Prelude.{slice_index_or}
use Rattle.tapa_syntax.specs.declared.program.Instance.{Instance}
use Rattle.task_graph.specs.Uses.{nothing}
use Rattle.task_graph.proofs.program_graph.uses_by.Given as goal

abbrev pub invariant-loop-instance : goal.invariant-loop-instance
invariant-loop-instance l = l.uses.items ≡ map (λ (i : Instance). slice_index_or l.leaf_uses i.body nothing) (take l.instance-index l.instances)
