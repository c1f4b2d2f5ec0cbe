use Rattle.std.proofs.Common.{sym, ap, ◌∙◌}
use Rattle.std.proofs.lemmas.Result.{IfOk-weaker}
use Rattle.hw_build.specs.Elements.{with_all}
use Rattle.hw_top_lines.specs.Texts.{task_part}
use Rattle.hw_top.proofs.Found.{found, missing}
use Rattle.hw_top.proofs.Parts.{part_at, no_leaf_at, no_instance_at}
use Rattle.hw_top.proofs.instances.add_task.Goals as goal

pub returns-in-Some-get : goal.returns-in-Some-get
returns-in-Some-get c =
    let program = c.args.program.now in
    let x = c.in-Some.x.now in
    let leaf = c.in-Some-get.leaf.now in
    let instance = found program.instances.items c.deref.result.now c.args.i x c.deref.ensures.value c.in-Some.ensures.lookup.3.0 c.in-Some.ensures.lookup.1 in
    let body = found program.bodies.items c.deref-in-Some.result.now x.body leaf c.deref-in-Some.ensures.value c.in-Some-get.ensures.lookup.3.0 c.in-Some-get.ensures.lookup.1 in
    IfOk-weaker c.add_part.result _ _ (λ u e. e ∙ sym (ap (with_all c.args.draft.now) (part_at program (task_part program) c.args.i x leaf instance body))) c.add_part.ensures

pub returns-in-None-get : goal.returns-in-None-get
returns-in-None-get c =
    let program = c.args.program.now in
    let x = c.in-Some.x.now in
    let instance = found program.instances.items c.deref.result.now c.args.i x c.deref.ensures.value c.in-Some.ensures.lookup.3.0 c.in-Some.ensures.lookup.1 in
    let body = missing program.bodies.items c.deref-in-Some.result.now x.body c.deref-in-Some.ensures.value c.in-None-get.ensures.lookup.3 in
    sym (ap (with_all c.args.draft.now) (no_leaf_at program (task_part program) c.args.i x instance body))

pub returns-in-None : goal.returns-in-None
returns-in-None c =
    let program = c.args.program.now in
    sym (ap (with_all c.args.draft.now) (no_instance_at program (task_part program) c.args.i (missing program.instances.items c.deref.result.now c.args.i c.deref.ensures.value c.in-None.ensures.lookup.3)))
