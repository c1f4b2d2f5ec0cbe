use Rattle.std.proofs.Common.{sym, subst}
use Rattle.tapa_words.specs.declared.command.PlanAim.{PlanAim}
use Rattle.command_answers.specs.Meaning.{end_of}
use Rattle.command_answers.specs.Outside.{written}
use Rattle.command_plan.specs.Means.{WroteBy}
use Rattle.command_plan.proofs.planning.put_aim.Goals as goal

pub returns-in-Lines : goal.returns-in-Lines
returns-in-Lines g c =
    subst (λ (aim : PlanAim). WroteBy aim c.args.program.now c.args.graph.now c.args.device.now c.args.plan.now (written g.O.Sink c.args.out.now) (written g.O.Sink c.put_plan.new.out) (end_of c.put_plan.result)) (sym c.in-Lines.is) c.put_plan.ensures

pub returns-in-Circuit : goal.returns-in-Circuit
returns-in-Circuit g c =
    subst (λ (aim : PlanAim). WroteBy aim c.args.program.now c.args.graph.now c.args.device.now c.args.plan.now (written g.O.Sink c.args.out.now) (written g.O.Sink c.put_planned_circuit.new.out) (end_of c.put_planned_circuit.result)) (sym c.in-Circuit.is) c.put_planned_circuit.ensures
