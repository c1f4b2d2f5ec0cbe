use Rattle.std.proofs.lemmas.Result.{IfOk-weaker}
use Rattle.hw_top.proofs.BoundNets.{bound_named, unbound_named}
use Rattle.hw_top.proofs.Found.{found, missing}
use Rattle.hw_top.proofs.bounds.bound_by.Goals as goal

pub returns-in_ok-steps-in-Some : goal.returns-in_ok-steps-in-Some
returns-in_ok-steps-in-Some c =
    let bounds = c.args.x.now.scalars.items in
    let b = c.in-Some.bound.now in
    let at = found bounds c.deref.result.now c.args.p b c.deref.ensures.value c.in-Some.ensures.lookup.3.0 c.in-Some.ensures.lookup.1 in
    IfOk-weaker c.bound_net.result _ _ (λ x e. bound_named c.args.i c.args.p c.in_ok-steps-in-Some.steps b _ x at c.in_ok-steps-in-Some.ensures e) c.bound_net.ensures

pub returns-in-None : goal.returns-in-None
returns-in-None c =
    IfOk-weaker c.bound_net-in-None.result _ _
    (λ x e. unbound_named c.args.i c.args.p _ x (missing c.args.x.now.scalars.items c.deref.result.now c.args.p c.deref.ensures.value c.in-None.ensures.lookup.3) e) c.bound_net-in-None.ensures
