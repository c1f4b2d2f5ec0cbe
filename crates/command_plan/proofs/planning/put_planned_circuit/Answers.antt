use Rattle.std.proofs.Common.{ℕ, List, refl, sym, subst, inl}
use Rattle.std.proofs.lemmas.Result.{err_from_is_err_and}
use Rattle.plan_report.specs.Added.{AreAdded}
use Rattle.hw_top_lines.specs.Designs.{AreShort}
use Rattle.command_answers.specs.Meaning.{end_of}
use Rattle.command_answers.specs.Outside.{written}
use Rattle.command_answers.proofs.Texts.{wrote_also}
use Rattle.command_build.specs.Built.{IsCircuitText}
use Rattle.command_plan.specs.Planned.{IsCircuitBy}
use Rattle.command_plan.proofs.planning.put_planned_circuit.Goals as goal

pub returns-in_err-added : goal.returns-in_err-added
returns-in_err-added g c =
    let p = err_from_is_err_and c.from_residual.result c.from_residual.ensures.1 in
    rw (p.1, p.2) (inl refl)

pub put_circuit-requires-clause-added : goal.put_circuit-requires-clause-added
put_circuit-requires-clause-added g c = subst AreShort (sym c.deref.ensures.value) c.in_ok-added.ensures.low

pub returns : goal.returns
returns g c =
    let are = subst (λ (l : List ℕ). AreAdded c.args.graph.now c.args.device.now c.args.plan.now.slot.items c.args.balanced l) (sym c.deref.ensures.value) c.in_ok-added.ensures.added in
    wrote_also (IsCircuitText c.args.program.now c.deref.result.now) (IsCircuitBy c.args.program.now c.args.graph.now c.args.device.now c.args.plan.now c.args.balanced)
    (λ told is. record { added = c.deref.result.now; are = are; is = is }) (written g.O.Sink c.args.out.now) (written g.O.Sink c.put_circuit.new.out) (end_of c.put_circuit.result) c.put_circuit.ensures
