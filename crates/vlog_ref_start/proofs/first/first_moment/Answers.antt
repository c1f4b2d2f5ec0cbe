use Rattle.std.proofs.Common.{◌≡◌, List, length, map, refl, ap, subst, ◌∙◌}
use Rattle.vlog_tree.specs.Form.{ModuleTree}
use Rattle.vlog_tree.specs.Environment.{Environment, shape_of}
use Rattle.vlog_values.specs.declared.moment.Moment.{Moment}
use Rattle.vlog_ref_start.specs.Instances.{places_below}
use Rattle.vlog_ref_start.specs.Contents.{held_tree, filled_held}
use Rattle.vlog_ref_start.specs.Outside.{labelled_from, outside_tree, outside_from}
use Rattle.vlog_design.specs.Environments.{environment_of}
use Rattle.vlog_ref_start.specs.Runs.{IsStart}
use Rattle.vlog_ref_start.proofs.Starting.{starts}
use Rattle.vlog_ref_start.proofs.first.first_moment.Goals as goal

pub returns : goal.returns
returns c = λ m at.
    let design = c.args.design.now in
    let root : ModuleTree = c.top.result.now in
    let env : Environment = environment_of c.args.around.now in
    let fill = c.args.fill in
    let now : Moment = record { cycle = 0; held = c.in_ok-held.held; scalars = c.in_ok-scalars.scalars; outside = c.in_ok-outside.outside } in
    let same : root ≡ m = cc (c.top.ensures, at) in
    let shape = c.in_ok-shape.ensures root c.top.ensures in
    let held = subst (λ (ms : List ModuleTree). map held_tree now.held.items ≡ map (filled_held fill) (places_below ms root (length ms))) c.modules.ensures.value c.in_ok-held.ensures in
    let scalars : now.scalars.items ≡ labelled_from 0 (shape_of root).scalars env.scalars =
    c.in_ok-scalars.ensures ∙ ap (λ ls. labelled_from 0 ls c.deref-2.result.now) (c.deref.ensures.value ∙ shape.0) ∙ ap (λ ns. labelled_from 0 (shape_of root).scalars ns) c.deref-2.ensures.value in
    let outside : map outside_tree now.outside.items ≡ outside_from 0 (shape_of root).memories env = c.in_ok-outside.ensures ∙ ap (λ ls. outside_from 0 ls env) (c.deref-3.ensures.value ∙ shape.1) in
    subst (λ (k : ModuleTree). IsStart design.modules k env fill now) same (starts design.modules design.top root c.modules.ensures.design c.top.ensures env fill now refl held scalars outside)
