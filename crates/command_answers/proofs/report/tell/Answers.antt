use Rattle.std.proofs.Common.{◌⊎◌, [], refl, sym, subst}
use Rattle.command_answers.specs.Ends.{Refused, NoMemory}
use Rattle.command_answers.specs.Meaning.{end_at}
use Rattle.command_answers.specs.Outside.{written}
use Rattle.command_answers.specs.Refusal.{TooLong}
use Rattle.command_answers.specs.Told.{IsToldAs}
use Rattle.command_answers.specs.declared.refusal.Refusal.{Refusal}
use Rattle.command_answers.proofs.report.tell.Goals as goal

pub returns-in-TooLong-clause-told : goal.returns-in-TooLong-clause-told
returns-in-TooLong-clause-told g c =
    let old = written g.E.Sink c.args.err.now in
    let new = written g.E.Sink c.report_made-in-TooLong.new.err in
    subst (λ (refusal : Refusal). IsToldAs c.args.name.now (end_at refusal) c.report_made-in-TooLong.result old new ⊎ IsToldAs [] NoMemory c.report_made-in-TooLong.result old new) (sym c.in-TooLong.is)
    (c.report_made-in-TooLong.ensures c.args.name.now (Refused (TooLong c.in-TooLong.file)) (rw c.most_bytes.ensures.is at c.long_line.ensures) refl)
