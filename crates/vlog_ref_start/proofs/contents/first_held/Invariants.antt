use Rattle.std.proofs.Common.{◌≡◌, map}
use Rattle.vlog_ref_start.specs.Instances.{place_tree, places_at, places_below}
use Rattle.vlog_ref_start.specs.Contents.{held_tree, filled_held}
use Rattle.vlog_ref_start.proofs.contents.first_held.Given as goal

abbrev pub invariant-loop-depth : goal.invariant-loop-depth
invariant-loop-depth l = record {
  level : map place_tree l.level.items ≡ places_at l.modules l.top l._depth;
  held : map held_tree l.held.items ≡ map (filled_held l.fill) (places_below l.modules l.top l._depth);
}
