use Rattle.std.proofs.Common.{take}
use Rattle.vlog_tree.specs.Grounded.{AllTwo}
use Rattle.vlog_ref_cycle.specs.Next.{IsStored}
use Rattle.vlog_ref_cycle.proofs.blocks.put_cell.Given as goal

abbrev pub invariant-loop-k : goal.invariant-loop-k
invariant-loop-k l = AllTwo (IsStored l.m l.at l.number) (take l.k-index l.memories) l.out.items
