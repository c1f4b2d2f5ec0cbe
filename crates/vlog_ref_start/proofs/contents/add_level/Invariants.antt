use Rattle.std.proofs.Common.{◌≡◌, ◌++◌, map, drop}
use Rattle.vlog_ref_start.specs.Instances.{place_tree}
use Rattle.vlog_ref_start.specs.Contents.{held_tree, filled_held}
use Rattle.vlog_ref_start.proofs.contents.add_level.Given as goal

abbrev pub invariant-loop-place : goal.invariant-loop-place
invariant-loop-place l =
    map held_tree l.out.items ++ map (filled_held l.fill) (map place_tree (drop l.place-index l.level)) ≡ map held_tree l.fn.out.items ++ map (filled_held l.fill) (map place_tree l.level)
