use Rattle.std.proofs.Common.{◌≡◌, ◌+◌, true, Some, sym, subst, arith}
use Rattle.net_case.specs.declared.lot.Lot.{Lot}
use Rattle.net_case.specs.Batch.{Ran}
use Rattle.net_case.proofs.Ran.{can_resume, fits_made, batch_done, ran_done}
use Rattle.net_case.proofs.batch.Batch.resume.Goals as goal

pub resume_body-pause-requires : goal.resume_body-pause-requires
resume_body-pause-requires g c = can_resume g.B.Body.stands _ _ _ _ _ _ _ _ _ _ _ _ _ c.self.invariant

pub overflow_add-self : goal.overflow_add-self
overflow_add-self g c =
    let made = fits_made g.B.Body.stands _ _ _ _ _ _ _ _ _ _ _ _ _ c.self.invariant (subst (λ (v : Lot). v.ready ≡ true) (sym c.self.view_is) c.requires) c.resume_body-pause.new.body c.resume_body-pause.new.ports c.resume_body-pause.result.0 c.resume_body-pause.result.1 c.resume_body-pause.ensures in
    let b = c.self.invariant in
    let capped = b.capped in
    let few = b.few in
    omega arith

pub invariant_of-self : goal.invariant_of-self
invariant_of-self g c =
    batch_done g.B.Body.stands _ _ _ _ _ _ _ _ _ _ _ _ _ c.self.invariant (subst (λ (v : Lot). v.ready ≡ true) (sym c.self.view_is) c.requires) c.resume_body-pause.new.body c.resume_body-pause.new.ports c.resume_body-pause.result.0 c.resume_body-pause.result.1 c.resume_body-pause.ensures

pub returns : goal.returns
returns g c =
    let I = c.self.inside in
    subst (λ (v : Lot). Ran v (record { program = I.program.value; input = I.input.value; budget = I.budget; instance = I.instance; at = I.at.value.items; from = I.from; fuel = I.fuel; made = I.made + c.resume_body-pause.result.1; pause = Some c.resume_body-pause.result.0; ready = I.ready }) c.resume_body-pause.result.0) c.self.view_is
    (ran_done g.B.Body.stands _ _ _ _ _ _ _ _ _ _ _ _ _ c.self.invariant (subst (λ (v : Lot). v.ready ≡ true) (sym c.self.view_is) c.requires) c.resume_body-pause.new.body c.resume_body-pause.new.ports c.resume_body-pause.result.0 c.resume_body-pause.result.1 c.resume_body-pause.ensures)
