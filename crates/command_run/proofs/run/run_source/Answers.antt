use Rattle.std.proofs.Common.{Err, ap, subst}
use Rattle.std.specs.Prelude.{option_map}
use Rattle.std.proofs.lemmas.Result.{err_from_is_err_and}
use Rattle.net_core.specs.Bounded.{values_of}
use Rattle.run_program.specs.Ending.{EndsSo}
use Rattle.run_program.specs.declared.run.RunEnd.{RunEnd}
use Rattle.command_answers.specs.Outside.{store, written}
use Rattle.command_run.proofs.Carried.{no_program, no_values, not_run, done, stopped, past}
use Rattle.command_run.proofs.run.run_source.Goals as goal

pub returns-in_err-program : goal.returns-in_err-program
returns-in_err-program g c =
    let p = err_from_is_err_and c.from_residual.result c.from_residual.ensures.1 in
    rw (p.1, p.2) (no_program c.args.source.now c.args.top.now (option_map (λ file. file.now) c.args.named) c.args.limit (store g.S.Shelf c.args.shelf.now) (store g.S.Shelf c.read_source.new.shelf) c.in_err-program.ensures.asks (written g.O.Sink c.args.out.now)
    c.in_err-program.field-0.0 c.in_err-program.ensures.took)

pub returns-in_err-input : goal.returns-in_err-input
returns-in_err-input g c =
    let p = err_from_is_err_and c.from_residual-in_err-input.result c.from_residual-in_err-input.ensures.1 in
    rw (p.1, p.2) (no_values c.args.source.now c.args.top.now (option_map (λ file. file.now) c.args.named) c.args.limit (store g.S.Shelf c.args.shelf.now) (store g.S.Shelf c.read_source.new.shelf) c.in_ok-program.ensures.asks (written g.O.Sink c.args.out.now)
    c.in_ok-program.program c.in_ok-program.ensures.took (store g.S.Shelf c.read_values.new.shelf) c.in_err-input.ensures.asks c.in_err-input.field-0.0 c.in_err-input.ensures.took)

pub returns-in_err-run_program : goal.returns-in_err-run_program
returns-in_err-run_program g c =
    let p = err_from_is_err_and c.from_residual-in_err-run_program.result c.from_residual-in_err-run_program.ensures.1 in
    rw (p.1, p.2) (not_run c.args.source.now c.args.top.now (option_map (λ file. file.now) c.args.named) c.args.limit (store g.S.Shelf c.args.shelf.now) (store g.S.Shelf c.read_source.new.shelf) c.in_ok-program.ensures.asks (written g.O.Sink c.args.out.now)
    c.in_ok-program.program c.in_ok-program.ensures.took (store g.S.Shelf c.read_values.new.shelf) c.in_ok-input.ensures.asks c.in_ok-input.input c.in_ok-input.ensures.took (written g.O.Sink c.run_program.new.out)
    c.in_err-run_program.field-0.0 c.in_err-run_program.ensures.part (λ e. c.in_err-run_program.ensures.front (ap Err e)) (λ e. c.in_err-run_program.ensures.fault (ap Err e)))

pub returns-in-Done : goal.returns-in-Done
returns-in-Done g c =
    done c.args.source.now c.args.top.now (option_map (λ file. file.now) c.args.named) c.args.limit (store g.S.Shelf c.args.shelf.now) (store g.S.Shelf c.read_source.new.shelf) c.in_ok-program.ensures.asks (written g.O.Sink c.args.out.now)
    c.in_ok-program.program c.in_ok-program.ensures.took (store g.S.Shelf c.read_values.new.shelf) c.in_ok-input.ensures.asks c.in_ok-input.input c.in_ok-input.ensures.took (written g.O.Sink c.run_program.new.out)
    (subst (λ (end : RunEnd). EndsSo c.in_ok-program.program (values_of c.in_ok-input.input) c.args.limit (g.O.Sink.contents c.args.out.now) (g.O.Sink.contents c.run_program.new.out) end) c.in-Done.is c.in_ok-run_program.ensures.end)

pub returns-in-Stopped : goal.returns-in-Stopped
returns-in-Stopped g c =
    stopped c.args.source.now c.args.top.now (option_map (λ file. file.now) c.args.named) c.args.limit (store g.S.Shelf c.args.shelf.now) (store g.S.Shelf c.read_source.new.shelf) c.in_ok-program.ensures.asks (written g.O.Sink c.args.out.now)
    c.in_ok-program.program c.in_ok-program.ensures.took (store g.S.Shelf c.read_values.new.shelf) c.in_ok-input.ensures.asks c.in_ok-input.input c.in_ok-input.ensures.took (written g.O.Sink c.run_program.new.out)
    c.in-Stopped.lines
    (subst (λ (end : RunEnd). EndsSo c.in_ok-program.program (values_of c.in_ok-input.input) c.args.limit (g.O.Sink.contents c.args.out.now) (g.O.Sink.contents c.run_program.new.out) end) c.in-Stopped.is c.in_ok-run_program.ensures.end)

pub returns-in-Limit : goal.returns-in-Limit
returns-in-Limit g c =
    past c.args.source.now c.args.top.now (option_map (λ file. file.now) c.args.named) c.args.limit (store g.S.Shelf c.args.shelf.now) (store g.S.Shelf c.read_source.new.shelf) c.in_ok-program.ensures.asks (written g.O.Sink c.args.out.now)
    c.in_ok-program.program c.in_ok-program.ensures.took (store g.S.Shelf c.read_values.new.shelf) c.in_ok-input.ensures.asks c.in_ok-input.input c.in_ok-input.ensures.took (written g.O.Sink c.run_program.new.out)
    (subst (λ (end : RunEnd). EndsSo c.in_ok-program.program (values_of c.in_ok-input.input) c.args.limit (g.O.Sink.contents c.args.out.now) (g.O.Sink.contents c.run_program.new.out) end) c.in-Limit.is c.in_ok-run_program.ensures.end)
