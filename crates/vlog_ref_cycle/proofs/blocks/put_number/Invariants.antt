use Rattle.std.proofs.Common.{◌≡◌, ◌++◌, map, drop}
use Rattle.vlog_ref_cycle.specs.Next.{put_net}
use Rattle.vlog_ref_cycle.proofs.blocks.put_number.Given as goal

abbrev pub invariant-loop-r : goal.invariant-loop-r
invariant-loop-r l = l.out.items ++ map (put_net l.x l.number) (drop l.r-index l.nets) ≡ map (put_net l.x l.number) l.nets
