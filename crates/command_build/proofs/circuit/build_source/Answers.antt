use Rattle.std.proofs.lemmas.Result.{err_from_is_err_and}
use Rattle.command_answers.specs.Meaning.{end_of}
use Rattle.command_answers.specs.Outside.{store, written}
use Rattle.command_build.proofs.Carried.{no_program, built}
use Rattle.command_build.proofs.circuit.build_source.Goals as goal

pub returns-in_err-program : goal.returns-in_err-program
returns-in_err-program g c =
    let p = err_from_is_err_and c.from_residual.result c.from_residual.ensures.1 in
    rw (p.1, p.2) (no_program c.args.source.now c.args.top.now (store g.S.Shelf c.args.shelf.now) (store g.S.Shelf c.read_source.new.shelf) c.in_err-program.ensures.asks (written g.O.Sink c.args.out.now) c.in_err-program.field-0.0 c.in_err-program.ensures.took)

pub returns : goal.returns
returns g c =
    built c.args.source.now c.args.top.now (store g.S.Shelf c.args.shelf.now) (store g.S.Shelf c.read_source.new.shelf) c.in_ok-program.ensures.asks (written g.O.Sink c.args.out.now)
    c.in_ok-program.program c.in_ok-program.ensures.took (written g.O.Sink c.put_circuit.new.out) (end_of c.put_circuit.result) c.put_circuit.ensures
