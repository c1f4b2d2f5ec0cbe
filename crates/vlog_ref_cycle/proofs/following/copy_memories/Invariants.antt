use Rattle.std.proofs.Common.{take}
use Rattle.vlog_tree.specs.Grounded.{AllTwo}
use Rattle.vlog_ref_cycle.specs.Next.{IsCopy}
use Rattle.vlog_ref_cycle.proofs.following.copy_memories.Given as goal

abbrev pub invariant-loop-m : goal.invariant-loop-m
invariant-loop-m l = AllTwo IsCopy (take l.m-index l.memories) l.out.items
