use Rattle.std.proofs.Common.{true, false}
use Rattle.std.proofs.lemmas.Result.{err_from_is_err_and}
use Rattle.slot_plan.proofs.Limits.{can_place}
use Rattle.slot_plan.proofs.Placings.{placed_turn, fit_plan, fit_first}
use Rattle.slot_plan.proofs.Blames.{fit_cause}
use Rattle.slot_plan.proofs.fit.first_fit.Goals as goal

pub nothing_placed-requires : goal.nothing_placed-requires
nothing_placed-requires c = can_place c.args.graph.now c.args.device.now c.args.needs.now c.requires.device c.requires.needs

pub returns-in_err-place_all-clause-cause : goal.returns-in_err-place_all-clause-cause
returns-in_err-place_all-clause-cause c =
    let p = err_from_is_err_and c.from_residual-in_err-place_all.result c.from_residual-in_err-place_all.ensures.1 in
    rw (p.1, p.2) (fit_cause c.args.graph.now c.args.device.now c.args.needs.now false c.place_all.new.self.slots.items c.in_err-place_all.field-0.0 c.requires.needs c.in_err-place_all.ensures.none)

pub place_all-requires-2 : goal.place_all-requires-2
place_all-requires-2 c = record { placed = placed_turn c.args.device.now c.args.needs.now c.place_all.new.self c.in_ok-place_all.ensures.placed }

pub returns-in_err-place_all-2-clause-cause : goal.returns-in_err-place_all-2-clause-cause
returns-in_err-place_all-2-clause-cause c =
    let p = err_from_is_err_and c.from_residual-in_err-place_all-2.result c.from_residual-in_err-place_all-2.ensures.1 in
    rw (p.1, p.2) (fit_cause c.args.graph.now c.args.device.now c.args.needs.now true c.place_all-2.new.self.slots.items c.in_err-place_all-2.field-0.0 c.requires.needs c.in_err-place_all-2.ensures.none)

pub returns-clause-plan : goal.returns-clause-plan
returns-clause-plan c = fit_plan c.args.graph.now c.args.device.now c.args.needs.now c.place_all-2.new.self c.requires.needs c.in_ok-place_all-2.ensures.placed

pub returns-clause-by_mode : goal.returns-clause-by_mode
returns-clause-by_mode c = fit_first c.args.graph.now c.args.device.now c.args.needs.now c.place_all-2.new.self c.requires.needs c.in_ok-place_all-2.ensures.placed
