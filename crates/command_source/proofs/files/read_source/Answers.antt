use Rattle.std.proofs.Common.{ℕ, List, Ok, Err}
use Rattle.tapa_syntax.specs.declared.program.Program.{Program}
use Rattle.std.proofs.lemmas.Result.{err_from_is_err_and}
use Rattle.command_answers.specs.Files.{Named}
use Rattle.command_answers.specs.Outside.{store}
use Rattle.command_answers.specs.declared.file.File.TheVariants as role
use Rattle.command_answers.proofs.Taking.{took_nothing, took_from}
use Rattle.command_source.specs.Codes.{source_refusal}
use Rattle.command_source.specs.Means.{IsSourceFault}
use Rattle.command_source.specs.Source.{IsProgramOf}
use Rattle.command_source.proofs.OwnNames.{own_names}
use Rattle.command_source.proofs.Refused.{refused_source}
use Rattle.command_source.proofs.files.read_source.Goals as goal

pub returns-in_err-text-clause-took : goal.returns-in_err-text-clause-took
returns-in_err-text-clause-took g c =
    let p = err_from_is_err_and c.from_residual.result c.from_residual.ensures.1 in
    rw (p.1, p.2) (took_nothing (store g.S.Shelf c.args.shelf.now) (store g.S.Shelf c.read_file.new.shelf) role.Source (Named c.args.source.now) (IsSourceFault c.args.top.now) (λ (text : List ℕ) (program : Program). IsProgramOf text c.args.top.now program) c.in_err-text.field-0.0 c.in_err-text.ensures.took)

pub returns-in_err-program-clause-took : goal.returns-in_err-program-clause-took
returns-in_err-program-clause-took g c =
    let p = err_from_is_err_and c.from_residual-in_err-program.result c.from_residual-in_err-program.ensures.1 in
    rw (p.1, p.2) (took_from (store g.S.Shelf c.args.shelf.now) (store g.S.Shelf c.read_file.new.shelf) role.Source (Named c.args.source.now) (IsSourceFault c.args.top.now) (λ (text : List ℕ) (program : Program). IsProgramOf text c.args.top.now program)
    c.in_ok-text.text c.in_ok-text.ensures.took (Err (source_refusal c.in_err-program.field-0.0)) tt
    (refused_source c.in_ok-text.text.items c.args.top.now c.in_err-program.field-0.0 (rw c.deref.ensures.value at c.in_err-program.ensures.refused)))

pub returns-clause-took : goal.returns-clause-took
returns-clause-took g c =
    took_from (store g.S.Shelf c.args.shelf.now) (store g.S.Shelf c.read_file.new.shelf) role.Source (Named c.args.source.now) (IsSourceFault c.args.top.now) (λ (text : List ℕ) (program : Program). IsProgramOf text c.args.top.now program)
    c.in_ok-text.text c.in_ok-text.ensures.took (Ok c.in_ok-program.program) (rw c.deref.ensures.value at c.in_ok-program.ensures.found) tt

pub returns-clause-names : goal.returns-clause-names
returns-clause-names g c = own_names c.deref.result.now c.args.top.now c.in_ok-program.program c.in_ok-program.ensures.found
