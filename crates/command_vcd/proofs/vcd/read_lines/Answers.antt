use Rattle.std.proofs.Common.{ℕ, List, Vec}
use Rattle.std.specs.declared.alloc.Global.{Global}
use Rattle.std.proofs.lemmas.Result.{err_from_is_err_and}
use Rattle.vcd_text.specs.NetLines.{IsNetShown}
use Rattle.command_answers.specs.Files.{Named}
use Rattle.command_answers.specs.Outside.{store}
use Rattle.command_answers.specs.declared.file.File.TheVariants as role
use Rattle.command_answers.proofs.Taking.{took_nothing, took_from}
use Rattle.command_vcd.specs.Means.{IsDumpFault}
use Rattle.command_vcd.proofs.vcd.read_lines.Goals as goal

pub returns-in_err-text-clause-took : goal.returns-in_err-text-clause-took
returns-in_err-text-clause-took g c =
    let p = err_from_is_err_and c.from_residual.result c.from_residual.ensures.1 in
    rw (p.1, p.2) (took_nothing (store g.S.Shelf c.args.shelf.now) (store g.S.Shelf c.read_file.new.shelf) role.Dump (Named c.args.file.now) (IsDumpFault c.args.net.now) (λ (text : List ℕ) (told : Vec ℕ Global). IsNetShown text c.args.net.now told.items) c.in_err-text.field-0.0 c.in_err-text.ensures.took)

pub returns-clause-took : goal.returns-clause-took
returns-clause-took g c =
    took_from (store g.S.Shelf c.args.shelf.now) (store g.S.Shelf c.read_file.new.shelf) role.Dump (Named c.args.file.now) (IsDumpFault c.args.net.now) (λ (text : List ℕ) (told : Vec ℕ Global). IsNetShown text c.args.net.now told.items)
    c.in_ok-text.text c.in_ok-text.ensures.took c.lines_in.result (rw c.deref.ensures.value at c.lines_in.ensures.shown) (rw c.deref.ensures.value at c.lines_in.ensures.refused)
