use Rattle.std.proofs.Common.{Err, ap, subst}
use Rattle.std.specs.Prelude.{option_map}
use Rattle.std.proofs.lemmas.Result.{err_from_is_err_and}
use Rattle.vlog_design.specs.Environments.{environment_of}
use Rattle.sim_output.specs.Ending.{EndsSo}
use Rattle.sim_output.specs.declared.run.DesignEnd.{DesignEnd}
use Rattle.command_answers.specs.Meaning.{end_at}
use Rattle.command_answers.specs.Outside.{store, written}
use Rattle.command_cosim.specs.Designs.{IsToldFor}
use Rattle.command_cosim.proofs.Carried.{no_design, no_data, done, running, unwritten}
use Rattle.command_cosim.proofs.cosim.cosim_text.Goals as goal

pub returns-in_err-design : goal.returns-in_err-design
returns-in_err-design g c =
    let p = err_from_is_err_and c.from_residual.result c.from_residual.ensures.1 in
    rw (p.1, p.2) (no_design c.args.text.now (option_map (λ file. file.now) c.args.named) c.args.limit c.args.aim (store g.S.Shelf c.args.shelf.now) (store g.S.Shelf c.read_design.new.shelf) c.in_err-design.ensures.asks (written g.O.Sink c.args.out.now)
    (end_at c.in_err-design.field-0.0) c.in_err-design.ensures.took)

pub returns-in_err-around : goal.returns-in_err-around
returns-in_err-around g c =
    let p = err_from_is_err_and c.from_residual-in_err-around.result c.from_residual-in_err-around.ensures.1 in
    rw (p.1, p.2) (no_data c.args.text.now (option_map (λ file. file.now) c.args.named) c.args.limit c.args.aim (store g.S.Shelf c.args.shelf.now) (store g.S.Shelf c.read_design.new.shelf) c.in_ok-design.ensures.asks (written g.O.Sink c.args.out.now)
    c.in_ok-design.design c.in_ok-design.ensures.took (store g.S.Shelf c.read_surroundings.new.shelf) c.in_err-around.ensures.asks (end_at c.in_err-around.field-0.0) c.in_err-around.ensures.took)

pub returns-in_err-show_design : goal.returns-in_err-show_design
returns-in_err-show_design g c =
    let p = err_from_is_err_and c.from_residual-in_err-show_design.result c.from_residual-in_err-show_design.ensures.1 in
    rw (p.1, p.2) (unwritten c.args.text.now (option_map (λ file. file.now) c.args.named) c.args.limit c.args.aim (store g.S.Shelf c.args.shelf.now) (store g.S.Shelf c.read_design.new.shelf) c.in_ok-design.ensures.asks (written g.O.Sink c.args.out.now)
    c.in_ok-design.design c.in_ok-design.ensures.took (store g.S.Shelf c.read_surroundings.new.shelf) c.in_ok-around.ensures.asks c.in_ok-around.around c.in_ok-around.ensures.took (written g.O.Sink c.show_design.new.out)
    c.in_err-show_design.field-0.0 (λ e. c.in_err-show_design.ensures.fault (ap Err e)) (λ e. c.in_err-show_design.ensures.front (ap Err e)) c.in_err-show_design.ensures.part)

pub returns-in-Done : goal.returns-in-Done
returns-in-Done g c =
    done c.args.text.now (option_map (λ file. file.now) c.args.named) c.args.limit c.args.aim (store g.S.Shelf c.args.shelf.now) (store g.S.Shelf c.read_design.new.shelf) c.in_ok-design.ensures.asks (written g.O.Sink c.args.out.now)
    c.in_ok-design.design c.in_ok-design.ensures.took (store g.S.Shelf c.read_surroundings.new.shelf) c.in_ok-around.ensures.asks c.in_ok-around.around c.in_ok-around.ensures.took (written g.O.Sink c.show_design.new.out)
    (subst (λ (e : DesignEnd). EndsSo (IsToldFor c.args.aim) c.in_ok-design.design (environment_of c.in_ok-around.around) c.args.limit (g.O.Sink.contents c.args.out.now) (g.O.Sink.contents c.show_design.new.out) e) c.in-Done.is c.in_ok-show_design.ensures.end)

pub returns : goal.returns
returns g c =
    running c.args.text.now (option_map (λ file. file.now) c.args.named) c.args.limit c.args.aim (store g.S.Shelf c.args.shelf.now) (store g.S.Shelf c.read_design.new.shelf) c.in_ok-design.ensures.asks (written g.O.Sink c.args.out.now)
    c.in_ok-design.design c.in_ok-design.ensures.took (store g.S.Shelf c.read_surroundings.new.shelf) c.in_ok-around.ensures.asks c.in_ok-around.around c.in_ok-around.ensures.took (written g.O.Sink c.show_design.new.out)
    (subst (λ (e : DesignEnd). EndsSo (IsToldFor c.args.aim) c.in_ok-design.design (environment_of c.in_ok-around.around) c.args.limit (g.O.Sink.contents c.args.out.now) (g.O.Sink.contents c.show_design.new.out) e) c.in-Running.is c.in_ok-show_design.ensures.end)
