use Rattle.std.proofs.Common.{◌≡◌, ◌++◌, drop}
use Rattle.std.specs.List.{flat_map}
use Rattle.vlog_ref_start.specs.Contents.{filled_net}
use Rattle.vlog_ref_start.proofs.contents.registers.Given as goal

abbrev pub invariant-loop-item : goal.invariant-loop-item
invariant-loop-item l = l.out.items ++ flat_map (filled_net l.fill) (drop l.item-index l.items) ≡ flat_map (filled_net l.fill) l.items
