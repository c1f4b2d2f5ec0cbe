use Rattle.std.proofs.Common.{◌≡◌, ◌++◌, map, drop}
use Rattle.std.specs.List.{flat_map}
use Rattle.vlog_ref_start.specs.Instances.{place_tree, line_places}
use Rattle.vlog_ref_start.proofs.instances.add_inner.Given as goal

abbrev pub invariant-loop-item : goal.invariant-loop-item
invariant-loop-item l =
    map place_tree l.out.items ++ flat_map (line_places l.modules l.path) (drop l.item-index l.items) ≡ map place_tree l.fn.out.items ++ flat_map (line_places l.modules l.path) l.items
