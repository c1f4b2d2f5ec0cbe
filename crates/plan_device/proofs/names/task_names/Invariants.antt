use Rattle.std.proofs.Common.{◌≡◌, map, take}
use Rattle.tapa_syntax.specs.declared.program.Leaf.{Leaf}
use Rattle.plan_device.proofs.names.task_names.Given as goal

abbrev pub invariant-loop-leaf : goal.invariant-loop-leaf
invariant-loop-leaf l = l.names.items ≡ map (λ (leaf : Leaf). leaf.name) (take l.leaf-index l.leaves)
