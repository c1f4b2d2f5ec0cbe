use Rattle.std.proofs.Common.{◌⊎◌, [], refl, sym, subst}
use Rattle.command_answers.specs.Ends.{Refused, NoMemory}
use Rattle.command_answers.specs.Meaning.{verilog_end}
use Rattle.command_answers.specs.Outside.{written}
use Rattle.command_answers.specs.Refusal.{Verilog, V1}
use Rattle.command_answers.specs.Told.{IsToldAs}
use Rattle.vlog_tree.specs.declared.fault.VFault.{VFault}
use Rattle.command_answers.proofs.report.report_verilog.Goals as goal

pub returns-in-V1 : goal.returns-in-V1
returns-in-V1 g c =
    let old = written g.E.Sink c.args.err.now in
    let new = written g.E.Sink c.report_made.new.err in
    subst (λ (fault : VFault). IsToldAs c.args.name.now (verilog_end fault) c.report_made.result old new ⊎ IsToldAs [] NoMemory c.report_made.result old new) (sym c.in-V1.is)
    (c.report_made.ensures c.args.name.now (Refused (Verilog (V1 c.in-V1.place))) c.place_line.ensures refl)
