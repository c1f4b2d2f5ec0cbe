use Rattle.std.proofs.lemmas.Result.{err_from_is_err_and}
use Rattle.command_answers.specs.Ends.{NoMemory}
use Rattle.command_answers.specs.Meaning.{end_of, end_at}
use Rattle.command_answers.specs.Outside.{store, written}
use Rattle.command_plan.proofs.Carried.{no_program, no_device, no_plan, planned}
use Rattle.command_plan.proofs.planning.plan_source.Goals as goal

pub returns-in_err-program : goal.returns-in_err-program
returns-in_err-program g c =
    let p = err_from_is_err_and c.from_residual.result c.from_residual.ensures.1 in
    rw (p.1, p.2) (no_program c.args.source.now c.args.top.now c.args.file.now c.args.mode c.args.aim (store g.S.Shelf c.args.shelf.now) (store g.S.Shelf c.read_source.new.shelf) c.in_err-program.ensures.asks (written g.O.Sink c.args.out.now)
    (end_at c.in_err-program.field-0.0) c.in_err-program.ensures.took)

pub returns-in_err-graph : goal.returns-in_err-graph
returns-in_err-graph g c =
    let p = err_from_is_err_and c.from_residual-in_err-graph.result c.from_residual-in_err-graph.ensures.1 in
    rw (p.1, p.2) (no_program c.args.source.now c.args.top.now c.args.file.now c.args.mode c.args.aim (store g.S.Shelf c.args.shelf.now) (store g.S.Shelf c.read_source.new.shelf) c.in_ok-program.ensures.asks (written g.O.Sink c.args.out.now) NoMemory tt)

pub returns-in_err-device : goal.returns-in_err-device
returns-in_err-device g c =
    let p = err_from_is_err_and c.from_residual-in_err-device.result c.from_residual-in_err-device.ensures.1 in
    rw (p.1, p.2) (no_device c.args.source.now c.args.top.now c.args.file.now c.args.mode c.args.aim (store g.S.Shelf c.args.shelf.now) (store g.S.Shelf c.read_source.new.shelf) c.in_ok-program.ensures.asks (written g.O.Sink c.args.out.now)
    c.in_ok-program.program c.in_ok-program.ensures.took c.in_ok-graph.graph c.in_ok-graph.ensures (store g.S.Shelf c.read_device_file.new.shelf) c.in_err-device.ensures.asks (end_at c.in_err-device.field-0.0) c.in_err-device.ensures.took)

pub returns-in_err-found : goal.returns-in_err-found
returns-in_err-found g c =
    let p = err_from_is_err_and c.from_residual-in_err-found.result c.from_residual-in_err-found.ensures.1 in
    rw (p.1, p.2) (no_plan c.args.source.now c.args.top.now c.args.file.now c.args.mode c.args.aim (store g.S.Shelf c.args.shelf.now) (store g.S.Shelf c.read_source.new.shelf) c.in_ok-program.ensures.asks (written g.O.Sink c.args.out.now)
    c.in_ok-program.program c.in_ok-program.ensures.took c.in_ok-graph.graph c.in_ok-graph.ensures (store g.S.Shelf c.read_device_file.new.shelf) c.in_ok-device.ensures.asks c.in_ok-device.device c.in_ok-device.ensures.took
    (end_at c.in_err-found.field-0.0) c.in_err-found.ensures.refused)

pub returns : goal.returns
returns g c =
    planned c.args.source.now c.args.top.now c.args.file.now c.args.mode c.args.aim (store g.S.Shelf c.args.shelf.now) (store g.S.Shelf c.read_source.new.shelf) c.in_ok-program.ensures.asks (written g.O.Sink c.args.out.now)
    c.in_ok-program.program c.in_ok-program.ensures.took c.in_ok-graph.graph c.in_ok-graph.ensures (store g.S.Shelf c.read_device_file.new.shelf) c.in_ok-device.ensures.asks c.in_ok-device.device c.in_ok-device.ensures.took
    c.in_ok-found.found c.in_ok-found.ensures.found (written g.O.Sink c.put_aim.new.out) (end_of c.put_aim.result) c.put_aim.ensures
