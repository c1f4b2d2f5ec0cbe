use Rattle.std.proofs.Common.{refl}
use Rattle.std.proofs.lemmas.Result.{err_from_is_err_and}
use Rattle.command_answers.specs.Ends.{Done, Unwritten}
use Rattle.command_answers.specs.Outside.{store, written}
use Rattle.command_vcd.proofs.Carried.{no_lines, written_out}
use Rattle.command_vcd.proofs.vcd.show_net.Goals as goal

pub returns-in_err-told : goal.returns-in_err-told
returns-in_err-told g c =
    let p = err_from_is_err_and c.from_residual.result c.from_residual.ensures.1 in
    rw (p.1, p.2) (no_lines c.args.file.now c.args.net.now (store g.S.Shelf c.args.shelf.now) (store g.S.Shelf c.read_lines.new.shelf) c.in_err-told.ensures.asks (written g.O.Sink c.args.out.now) c.in_err-told.field-0.0 c.in_err-told.ensures.took)

pub returns-in_err-put_all : goal.returns-in_err-put_all
returns-in_err-put_all g c =
    let p = err_from_is_err_and c.from_residual-in_err-put_all.result c.from_residual-in_err-put_all.ensures.1 in
    rw (p.1, p.2) (written_out c.args.file.now c.args.net.now (store g.S.Shelf c.args.shelf.now) (store g.S.Shelf c.read_lines.new.shelf) c.in_ok-told.ensures.asks (written g.O.Sink c.args.out.now)
    c.in_ok-told.told c.in_ok-told.ensures.took (written g.O.Sink c.put_all.new.sink) Unwritten
    (c.in_err-put_all.ensures.fault, (c.in_ok-told.told.items, refl, rw c.deref.ensures.value at c.in_err-put_all.ensures.part)))

pub returns : goal.returns
returns g c =
    written_out c.args.file.now c.args.net.now (store g.S.Shelf c.args.shelf.now) (store g.S.Shelf c.read_lines.new.shelf) c.in_ok-told.ensures.asks (written g.O.Sink c.args.out.now)
    c.in_ok-told.told c.in_ok-told.ensures.took (written g.O.Sink c.put_all.new.sink) Done (c.in_ok-told.told.items, refl, rw c.deref.ensures.value at c.in_ok-put_all.ensures.whole)
