use Rattle.std.proofs.Common.{ℕ, List, subst, None}
use Rattle.slot_plan.specs.Search.{Explored}
use Rattle.slot_plan.proofs.Exploring.{answered}
use Rattle.slot_plan.proofs.search.least_layout.Goals as goal

pub returns : goal.returns
returns c =
    answered c.args.tables.now c.explore.new.self.best
    (subst (λ (x : List ℕ). Explored c.args.tables.now x None c.explore.new.self.best) c.new-places.ensures.items c.in_ok-explore.ensures.explored)
