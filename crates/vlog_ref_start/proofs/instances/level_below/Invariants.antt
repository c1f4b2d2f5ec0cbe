use Rattle.std.proofs.Common.{◌≡◌, ◌++◌, map, drop}
use Rattle.std.specs.List.{flat_map}
use Rattle.vlog_ref_start.specs.Instances.{place_tree, inner_places}
use Rattle.vlog_ref_start.proofs.instances.level_below.Given as goal

abbrev pub invariant-loop-place : goal.invariant-loop-place
invariant-loop-place l =
    map place_tree l.out.items ++ flat_map (inner_places l.modules) (map place_tree (drop l.place-index l.level)) ≡ flat_map (inner_places l.modules) (map place_tree l.level)
