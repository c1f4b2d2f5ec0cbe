use Rattle.std.proofs.lemmas.Result.{IfOk-weaker}
use Rattle.hw_top_lines.specs.Bounds.{parameter_kind}
use Rattle.hw_top.proofs.BoundNets.{bound_grows, unbound_stays}
use Rattle.hw_top.proofs.Found.{found, missing}
use Rattle.hw_top.proofs.bounds.add_parameter.Goals as goal

pub returns-in-Some : goal.returns-in-Some
returns-in-Some c =
    let bounds = c.args.x.now.scalars.items in
    let b = c.in-Some.bound.now in
    let at = found bounds c.deref.result.now c.args.p b c.deref.ensures.value c.in-Some.ensures.lookup.3.0 c.in-Some.ensures.lookup.1 in
    IfOk-weaker c.add_bound.result _ _
    (λ u e. bound_grows c.args.program.now c.args.i c.args.p (parameter_kind c.args.leaf.now c.args.p) c.parameter_kind.result b _ c.args.draft.now c.add_bound.new.draft at c.parameter_kind.ensures e)
    c.add_bound.ensures

pub returns-in-None : goal.returns-in-None
returns-in-None c =
    unbound_stays c.args.program.now c.args.i c.args.p (parameter_kind c.args.leaf.now c.args.p) _ c.args.draft.now (missing c.args.x.now.scalars.items c.deref.result.now c.args.p c.deref.ensures.value c.in-None.ensures.lookup.3)
