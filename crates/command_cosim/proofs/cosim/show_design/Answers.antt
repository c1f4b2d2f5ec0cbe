use Rattle.std.proofs.Common.{sym, subst}
use Rattle.std.specs.Prelude.{IfOk, OnErr}
use Rattle.vlog_design.specs.Environments.{environment_of}
use Rattle.sim_output.specs.Ending.{EndsSo, HasFront, HasPart}
use Rattle.tapa_words.specs.declared.command.CosimAim.{CosimAim}
use Rattle.command_cosim.specs.Designs.{IsToldFor}
use Rattle.command_cosim.proofs.cosim.show_design.Goals as goal

pub returns-in-Report-clause-end : goal.returns-in-Report-clause-end
returns-in-Report-clause-end g c = subst (λ (aim : CosimAim). IfOk c.run_design.result (λ end. EndsSo (IsToldFor aim) c.args.design (environment_of c.args.around.now) c.args.limit (g.O.Sink.contents c.args.out.now) (g.O.Sink.contents c.run_design.new.out) end)) (sym c.in-Report.is) c.run_design.ensures.end

pub returns-in-Report-clause-part : goal.returns-in-Report-clause-part
returns-in-Report-clause-part g c = subst (λ (aim : CosimAim). OnErr c.run_design.result (HasPart (IsToldFor aim) c.args.design (environment_of c.args.around.now) c.args.limit (g.O.Sink.contents c.args.out.now) (g.O.Sink.contents c.run_design.new.out))) (sym c.in-Report.is) c.run_design.ensures.part

pub returns-in-Report-clause-front : goal.returns-in-Report-clause-front
returns-in-Report-clause-front g c = λ e. subst (λ (aim : CosimAim). HasFront (IsToldFor aim) c.args.design (environment_of c.args.around.now) c.args.limit (g.O.Sink.contents c.args.out.now) (g.O.Sink.contents c.run_design.new.out)) (sym c.in-Report.is) (c.run_design.ensures.front e)

pub returns-in-Dump-clause-end : goal.returns-in-Dump-clause-end
returns-in-Dump-clause-end g c = subst (λ (aim : CosimAim). IfOk c.dump_design.result (λ end. EndsSo (IsToldFor aim) c.args.design (environment_of c.args.around.now) c.args.limit (g.O.Sink.contents c.args.out.now) (g.O.Sink.contents c.dump_design.new.out) end)) (sym c.in-Dump.is) c.dump_design.ensures.end

pub returns-in-Dump-clause-part : goal.returns-in-Dump-clause-part
returns-in-Dump-clause-part g c = subst (λ (aim : CosimAim). OnErr c.dump_design.result (HasPart (IsToldFor aim) c.args.design (environment_of c.args.around.now) c.args.limit (g.O.Sink.contents c.args.out.now) (g.O.Sink.contents c.dump_design.new.out))) (sym c.in-Dump.is) c.dump_design.ensures.part

pub returns-in-Dump-clause-front : goal.returns-in-Dump-clause-front
returns-in-Dump-clause-front g c = λ e. subst (λ (aim : CosimAim). HasFront (IsToldFor aim) c.args.design (environment_of c.args.around.now) c.args.limit (g.O.Sink.contents c.args.out.now) (g.O.Sink.contents c.dump_design.new.out)) (sym c.in-Dump.is) (c.dump_design.ensures.front e)
