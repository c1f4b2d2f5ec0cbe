use Rattle.std.proofs.Common.{◌≡◌, ◌+◌, ◌-◌, ◌*◌, length}
use Rattle.slot_plan.specs.Search.{ExploredBelow}
use Rattle.slot_plan.specs.Tables.{items}
use Rattle.slot_plan.proofs.search.Search.+exploring.Given as goal

abbrev pub decreases-explore : goal.decreases-explore
decreases-explore l = 2 * (items l.tables.now - length l.self.now.places.items) + 1

abbrev pub decreases-explore_place : goal.decreases-explore_place
decreases-explore_place l = 2 * (items l.tables.now - length l.self.now.places.items)

abbrev pub invariant-explore-loop-place : goal.invariant-explore-loop-place
invariant-explore-loop-place l = record {
  same_places : l.self.places.items ≡ l.fn.self.places.items;
  same_left : l.self.left.items ≡ l.fn.self.left.items;
  same_length : length l.next.items ≡ length l.rows;
  below : ExploredBelow l.tables l.fn.self.places.items l.place l.fn.self.best l.self.best;
}
