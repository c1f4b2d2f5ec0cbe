use Rattle.std.proofs.Common.{◌≡◌, ◌≤◌, List, ℕ, length, drop, map}
use Rattle.vlog_tree.specs.Table.{declaration_name}
use Rattle.vlog_scope.specs.NameTable.{places_from}
use Rattle.vlog_scope.specs.NamePlaces.{place_by}
use Rattle.vlog_scope.proofs.ordered.ordered_of.Given as goal

abbrev pub invariant-loop-left : goal.invariant-loop-left
invariant-loop-left l = record {
  within : l.left ≤ length l.declarations;
  places : (x : List ℕ) → place_by l.names x ≡ places_from l.left (map declaration_name (drop l.left l.declarations)) x;
}

abbrev pub decreases-loop-left : goal.decreases-loop-left
decreases-loop-left l = l.left
