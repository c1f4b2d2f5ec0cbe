use Rattle.std.proofs.Common.{◌≡◌, map, take}
use Rattle.tapa_syntax.specs.declared.program.Instance.{Instance}
use Rattle.plan_device.proofs.names.labels.Given as goal

abbrev pub invariant-loop-instance : goal.invariant-loop-instance
invariant-loop-instance l = l.labels.items ≡ map (λ (x : Instance). x.label) (take l.instance-index l.instances)
