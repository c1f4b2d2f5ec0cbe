use Rattle.std.proofs.Common.{◌≡◌, ◌++◌, map, drop}
use Rattle.std.specs.List.{flat_map}
use Rattle.vlog_ref_start.specs.Contents.{memory_tree, filled_cells}
use Rattle.vlog_ref_start.proofs.contents.memories.Given as goal

abbrev pub invariant-loop-item : goal.invariant-loop-item
invariant-loop-item l = map memory_tree l.out.items ++ flat_map (filled_cells l.fill) (drop l.item-index l.items) ≡ flat_map (filled_cells l.fill) l.items
