use Rattle.std.proofs.Common.{ℕ, List, length, Option, false, subst}
use Rattle.std.specs.Prelude.{MatchOption}
use Rattle.slot_plan.specs.declared.fit.Placing.{Placing}
use Rattle.slot_plan.specs.Placing.{ArePlaced, IsStuck}
use Rattle.slot_plan.proofs.Limits.{can_place}
use Rattle.slot_plan.proofs.Merging.{stuck_none}
use Rattle.slot_plan.proofs.exact.least_at_home.Goals as goal

pub pinned_placed-requires : goal.pinned_placed-requires
pinned_placed-requires c = can_place c.args.graph.now c.args.device.now c.args.needs.now c.requires.device c.requires.needs

pub returns-in-None : goal.returns-in-None
returns-in-None c = λ q plan stays.
    let g = c.args.graph.now in
    let d = c.args.device.now in
    let needs = c.args.needs.now in
    let stuck = subst (λ (o : Option Placing). MatchOption o ((b : List ℕ) × (v : ℕ) × IsStuck d needs false b v) (ArePlaced d needs false (length needs)))
    c.in-None.is c.in_ok-pinned_placed.ensures in
    stuck_none g d needs stuck.0 stuck.1 c.requires.needs stuck.2 q plan
