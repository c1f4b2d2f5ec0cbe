use Rattle.std.proofs.Common.{◌⊎◌, [], refl, sym, subst}
use Rattle.command_answers.specs.Ends.{Refused, NoMemory}
use Rattle.command_answers.specs.Meaning.{dump_end}
use Rattle.command_answers.specs.Outside.{written}
use Rattle.command_answers.specs.Refusal.{Dump, NoDump}
use Rattle.command_answers.specs.Told.{IsToldAs}
use Rattle.command_answers.specs.declared.refusal.DumpFault.{DumpFault}
use Rattle.command_answers.proofs.report.report_dump.Goals as goal

pub returns-in-NoDump : goal.returns-in-NoDump
returns-in-NoDump g c =
    let old = written g.E.Sink c.args.err.now in
    let new = written g.E.Sink c.report_made.new.err in
    subst (λ (fault : DumpFault). IsToldAs c.args.name.now (dump_end fault) c.report_made.result old new ⊎ IsToldAs [] NoMemory c.report_made.result old new) (sym c.in-NoDump.is)
    (c.report_made.ensures c.args.name.now (Refused (Dump (NoDump c.in-NoDump.place))) c.place_line.ensures refl)
