use Rattle.std.proofs.Common.{◌≡◌, ◌++◌, map, drop}
use Rattle.std.specs.List.{flat_map}
use Rattle.vlog_ref_cycle.specs.Sources.{net_read}
use Rattle.vlog_ref_cycle.specs.Next.{item_nets}
use Rattle.vlog_ref_cycle.proofs.blocks.block_reads.Given as goal

abbrev pub invariant-loop-item : goal.invariant-loop-item
invariant-loop-item l = l.out.items ++ map (net_read l.scope) (flat_map item_nets (drop l.item-index l.items)) ≡ map (net_read l.scope) (flat_map item_nets l.items)
