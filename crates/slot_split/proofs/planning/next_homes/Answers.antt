use Rattle.std.proofs.Common.{◌∙◌, ℕ, sym, subst}
use Rattle.std.proofs.lemmas.List.{length-replicate}
use Rattle.std.proofs.lemmas.Result.{IfOk-weaker}
use Rattle.slot_split.specs.Regions.{AreCorners, IsRegions}
use Rattle.slot_split.proofs.Grids.{same_needs}
use Rattle.slot_split.proofs.Levels.{homes_long, level_or_none}
use Rattle.slot_split.proofs.planning.next_homes.Goals as goal
use Rattle.slot_split.proofs.planning.next_homes.Goals.{In_ok-grid}

-- the grid is that of the level's regions
are : (c : In_ok-grid) → IsRegions c.args.graph.now c.args.device.now c.args.row_levels c.args.level c.in_ok-grid.grid
are c = c.in_ok-grid.ensures.regions c.args.row_levels c.args.level (subst (AreCorners c.args.device.now c.args.row_levels c.args.level) (sym c.deref.ensures.value) c.in_ok-corners.ensures)

pub least_at_home-requires-clause-needs : goal.least_at_home-requires-clause-needs
least_at_home-requires-clause-needs c = same_needs c.args.graph.now c.args.device.now c.in_ok-grid.grid c.args.needs.now (are (goal.at.least_at_home-requires-clause-needs c).In_ok-grid).uses c.requires.needs

pub least_at_home-requires-clause-regions : goal.least_at_home-requires-clause-regions
least_at_home-requires-clause-regions c = record {
  homes = homes_long c.args.graph.now c.args.device.now c.args.row_levels c.args.level c.args.homes.items (length-replicate c.args.graph.now.groups 0) c.requires.homes;
  slots = c.in_ok-slots.ensures.long ∙ sym (are (goal.at.least_at_home-requires-clause-regions c).In_ok-grid).long;
}

pub returns : goal.returns
returns c =
    let back = subst (λ (n : ℕ). AreCorners c.args.device.now c.args.row_levels n c.in_ok-slots.slots.items) c.saturating_sub.ensures c.in_ok-slots.ensures in
    IfOk-weaker c.least_at_home.result _ _
    (λ found h. level_or_none c.args.graph.now c.args.device.now c.in_ok-grid.grid c.args.row_levels c.args.level c.args.homes.items c.in_ok-slots.slots.items found c.requires.device.some_cols (are (goal.at.returns c).In_ok-grid) back c.requires.homes h)
    c.least_at_home.ensures
