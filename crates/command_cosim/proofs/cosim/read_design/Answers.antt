use Rattle.std.proofs.Common.{ℕ, List, Ok, Err}
use Rattle.std.proofs.lemmas.Result.{err_from_is_err_and}
use Rattle.vlog_design.specs.Designs.{DesignTree}
use Rattle.command_answers.specs.Files.{Named}
use Rattle.command_answers.specs.Outside.{store}
use Rattle.command_answers.specs.declared.file.File.TheVariants as role
use Rattle.command_answers.specs.declared.refusal.Refusal.TheVariants as code
use Rattle.command_answers.proofs.Taking.{took_nothing, took_from}
use Rattle.command_cosim.specs.Designs.{IsDesignOf}
use Rattle.command_cosim.specs.Means.{IsTextFault}
use Rattle.command_cosim.proofs.Faults.{faulty_text}
use Rattle.command_cosim.proofs.cosim.read_design.Goals as goal

pub returns-in_err-text-clause-took : goal.returns-in_err-text-clause-took
returns-in_err-text-clause-took g c =
    let p = err_from_is_err_and c.from_residual.result c.from_residual.ensures.1 in
    rw (p.1, p.2) (took_nothing (store g.S.Shelf c.args.shelf.now) (store g.S.Shelf c.read_file.new.shelf) role.Text (Named c.args.file.now) IsTextFault (λ (text : List ℕ) (design : DesignTree). IsDesignOf text design) c.in_err-text.field-0.0 c.in_err-text.ensures.took)

pub returns-in_err-design-clause-took : goal.returns-in_err-design-clause-took
returns-in_err-design-clause-took g c =
    let p = err_from_is_err_and c.from_residual-in_err-design.result c.from_residual-in_err-design.ensures.1 in
    rw (p.1, p.2) (took_from (store g.S.Shelf c.args.shelf.now) (store g.S.Shelf c.read_file.new.shelf) role.Text (Named c.args.file.now) IsTextFault (λ (text : List ℕ) (design : DesignTree). IsDesignOf text design)
    c.in_ok-text.text c.in_ok-text.ensures.took (Err (code.Verilog c.in_err-design.field-0.0)) tt
    (faulty_text c.in_ok-text.text.items c.in_err-design.field-0.0 (rw c.deref.ensures.value at c.in_err-design.ensures.refused)))

pub returns-clause-took : goal.returns-clause-took
returns-clause-took g c =
    took_from (store g.S.Shelf c.args.shelf.now) (store g.S.Shelf c.read_file.new.shelf) role.Text (Named c.args.file.now) IsTextFault (λ (text : List ℕ) (design : DesignTree). IsDesignOf text design)
    c.in_ok-text.text c.in_ok-text.ensures.took (Ok c.in_ok-design.design)
    (record { spelled = rw c.deref.ensures.value at c.in_ok-design.ensures.tree; legal = c.in_ok-design.ensures.design }) tt
