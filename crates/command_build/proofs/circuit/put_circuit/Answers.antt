use Rattle.std.proofs.Common.{Err, ap, refl, inl}
use Rattle.std.proofs.lemmas.Result.{err_from_is_err_and}
use Rattle.vlog_tree.specs.Spelling.{spelling}
use Rattle.command_answers.specs.Outside.{written}
use Rattle.command_answers.proofs.Texts.{part_printed}
use Rattle.command_build.specs.Built.{IsCircuitText}
use Rattle.command_build.proofs.circuit.put_circuit.Goals as goal

pub returns-in_err-design : goal.returns-in_err-design
returns-in_err-design g c =
    let p = err_from_is_err_and c.from_residual.result c.from_residual.ensures.1 in
    rw (p.1, p.2) (inl refl)

pub returns-in_err-print : goal.returns-in_err-print
returns-in_err-print g c =
    let p = err_from_is_err_and c.from_residual-in_err-print.result c.from_residual-in_err-print.ensures.1 in
    rw (p.1, p.2) (part_printed (IsCircuitText c.args.program.now c.args.added.now) (written g.O.Sink c.args.out.now) (written g.O.Sink c.print.new.out) (spelling c.in_ok-design.design.modules)
    (record { design = c.in_ok-design.design; circuit = c.in_ok-design.ensures; told = refl }) c.in_err-print.ensures.part c.in_err-print.field-0.0 (λ e. c.in_err-print.ensures.fault (ap Err e)))

pub returns : goal.returns
returns g c = (spelling c.in_ok-design.design.modules, record { design = c.in_ok-design.design; circuit = c.in_ok-design.ensures; told = refl }, c.in_ok-print.ensures.whole)
