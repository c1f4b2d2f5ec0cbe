use Rattle.std.proofs.Common.{subst, ◌∙◌}
use Rattle.slot_plan.specs.Search.{IsAnswer}
use Rattle.slot_plan.proofs.Tabled.{AreParts}
use Rattle.slot_plan.proofs.Filling.{tables_low, merged_by}
use Rattle.slot_plan.proofs.Limits.{few_groups}
use Rattle.slot_plan.proofs.Merging.{none_merged, least_merged}
use Rattle.slot_plan.proofs.exact.least_beside.Goals as goal
use Rattle.slot_plan.proofs.exact.least_beside.Goals.{In_ok-tables}

-- the tables are those of the choice beside the pinned groups
parts : (c : In_ok-tables) → AreParts c.args.graph.now c.args.device.now c.args.needs.now c.args.placing c.in_ok-choice.choice c.args.regions.now c.in_ok-tables.tables
parts c = record { needed = c.requires.needs; placed = c.requires.placed; chosen = c.in_ok-choice.ensures; tables = c.in_ok-tables.ensures }

pub least_layout-requires : goal.least_layout-requires
least_layout-requires c = tables_low _ _ _ _ _ _ _ c.requires.device (parts (goal.at.least_layout-requires c).In_ok-tables) (few_groups c.args.graph.now)

pub returns-in-None : goal.returns-in-None
returns-in-None c = none_merged _ _ _ _ _ _ _ (parts (goal.at.returns-in-None c).In_ok-tables) (subst (IsAnswer c.in_ok-tables.tables) c.in-None.is c.in_ok-least_layout.ensures)

pub returns-in-Some : goal.returns-in-Some
returns-in-Some c =
    least_merged _ _ _ _ _ _ _ (parts (goal.at.returns-in-Some c).In_ok-tables) c.in-Some.best c.merge.new.slots.items (subst (IsAnswer c.in_ok-tables.tables) c.in-Some.is c.in_ok-least_layout.ensures)
    (merged_by _ _ _ c.in_ok-choice.choice _ _ c.in_ok-choice.ensures (c.merge.ensures.long ∙ (c.requires.placed.long ∙ c.requires.needs.long)) c.merge.ensures.items c.merge.ensures.others)
