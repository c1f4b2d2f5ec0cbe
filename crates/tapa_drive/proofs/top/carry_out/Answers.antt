use Rattle.tapa_words.specs.declared.command.Command.TheVariants.{Run, Build, Plan, Cosim, Vcd, Gen}
use Rattle.command_answers.specs.Meaning.{end_of}
use Rattle.command_answers.specs.Outside.{outside, store}
use Rattle.tapa_drive.proofs.Answered.{carried_as}
use Rattle.tapa_drive.proofs.top.carry_out.Goals as goal

pub returns-in-Run : goal.returns-in-Run
returns-in-Run g c = carried_as c.args.command (Run c.in-Run.source c.in-Run.top c.in-Run.data c.in-Run.workers c.in-Run.limit) (outside g.S.Shelf g.O.Sink c.args.shelf.now c.args.out.now) (outside g.S.Shelf g.O.Sink c.run_source.new.shelf c.run_source.new.out) (end_of c.run_source.result) c.in-Run.is c.run_source.ensures

pub returns-in-Build : goal.returns-in-Build
returns-in-Build g c = carried_as c.args.command (Build c.in-Build.source c.in-Build.top) (outside g.S.Shelf g.O.Sink c.args.shelf.now c.args.out.now) (outside g.S.Shelf g.O.Sink c.build_source.new.shelf c.build_source.new.out) (end_of c.build_source.result) c.in-Build.is c.build_source.ensures

pub returns-in-Plan : goal.returns-in-Plan
returns-in-Plan g c = carried_as c.args.command (Plan c.in-Plan.source c.in-Plan.top c.in-Plan.device c.in-Plan.mode c.in-Plan.aim) (outside g.S.Shelf g.O.Sink c.args.shelf.now c.args.out.now) (outside g.S.Shelf g.O.Sink c.plan_source.new.shelf c.plan_source.new.out) (end_of c.plan_source.result) c.in-Plan.is c.plan_source.ensures

pub returns-in-Cosim : goal.returns-in-Cosim
returns-in-Cosim g c = carried_as c.args.command (Cosim c.in-Cosim.text c.in-Cosim.data c.in-Cosim.limit c.in-Cosim.aim) (outside g.S.Shelf g.O.Sink c.args.shelf.now c.args.out.now) (outside g.S.Shelf g.O.Sink c.cosim_text.new.shelf c.cosim_text.new.out) (end_of c.cosim_text.result) c.in-Cosim.is c.cosim_text.ensures

pub returns-in-Vcd : goal.returns-in-Vcd
returns-in-Vcd g c = carried_as c.args.command (Vcd c.in-Vcd.file c.in-Vcd.net) (outside g.S.Shelf g.O.Sink c.args.shelf.now c.args.out.now) (outside g.S.Shelf g.O.Sink c.show_net.new.shelf c.show_net.new.out) (end_of c.show_net.result) c.in-Vcd.is c.show_net.ensures

pub returns-in-Gen : goal.returns-in-Gen
returns-in-Gen g c =
    carried_as c.args.command (Gen c.in-Gen.layers c.in-Gen.workers) (outside g.S.Shelf g.O.Sink c.args.shelf.now c.args.out.now) (outside g.S.Shelf g.O.Sink c.args.shelf.now c.put_network.new.out) (end_of c.put_network.result) c.in-Gen.is
    (c.put_network.ensures (store g.S.Shelf c.args.shelf.now))
