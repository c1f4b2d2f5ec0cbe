use Rattle.std.proofs.Common.{arith}
use Rattle.hw_lines.specs.declared.nets.Choice.TheVariants.{Reads}
use Rattle.hw_lines.specs.Effects.{entries}
use Rattle.hw_lines.specs.Texts.{answered}
use Rattle.hw_nets.specs.Shapes.{form}
use Rattle.hw_task.proofs.Stands.{stands_not, stands}
use Rattle.hw_task.proofs.reads.add_port.Goals as goal

pub returns-then-count-eq0 : goal.returns-then-count-eq0
returns-then-count-eq0 c =
    let S = form c.args.shape.now in
    stands_not c.in_ok-found.found.items (entries S (Reads c.args.p c.args.a)) (answered S c.args.p c.args.a) c.args.draft.now (omega arith) c.in_ok-found.ensures

pub returns : goal.returns
returns c =
    let S = form c.args.shape.now in
    stands c.in_ok-found.found.items (entries S (Reads c.args.p c.args.a)) (answered S c.args.p c.args.a) c.args.draft.now c.add_answer.new.draft (λ e. c.if-count-eq0.false (omega (arith, e))) c.in_ok-found.ensures c.in_ok-add_answer.ensures
