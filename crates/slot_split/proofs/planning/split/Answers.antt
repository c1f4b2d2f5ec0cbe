use Rattle.std.proofs.Common.{sym, subst, arith}
use Rattle.std.proofs.lemmas.Grind.{common_steps}
use Rattle.slot_plan.specs.Plan.{IsPlanOf}
use Rattle.slot_plan.proofs.Limits.{few_groups}
use Rattle.slot_split.proofs.Single.{halving_gives_plans}
use Rattle.slot_split.proofs.planning.split.Goals as goal

pub overflow_cast-free : goal.overflow_cast-free
overflow_cast-free c = let a = few_groups c.args.graph.now in let b = c.requires.pins in grind (arith, common_steps)

pub plan_of-requires-clause-plan : goal.plan_of-requires-clause-plan
plan_of-requires-clause-plan c = halving_gives_plans c.args.graph.now c.args.device.now c.in_ok-slot.slot.items c.requires c.in_ok-slot.ensures.halving

pub returns-clause-plan : goal.returns-clause-plan
returns-clause-plan c =
    subst (IsPlanOf c.args.graph.now c.args.device.now) (sym c.in_ok-plan.ensures.slot)
    (halving_gives_plans c.args.graph.now c.args.device.now c.in_ok-slot.slot.items c.requires c.in_ok-slot.ensures.halving)
