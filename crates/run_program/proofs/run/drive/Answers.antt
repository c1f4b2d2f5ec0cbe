use Rattle.std.proofs.Common.{Result, IfOk, inl, inr, refl, subst}
use denote.Param.Send.{sendable}
use Rattle.tapa_base.specs.declared.fault.OutOfMemory.{OutOfMemory}
use Rattle.net_core.specs.declared.outcome.Outcome.{Outcome}
use Rattle.net_core.specs.Settle.{EndsAs}
use Rattle.run_program.proofs.Sending.{coro_send}
use Rattle.run_data.specs.Lines.{lines_in}
use Rattle.run_program.proofs.Running.{done_report, stopped_report, limit_past}
use Rattle.tapa_base.proofs.Got.{on_err}
use Rattle.run_program.proofs.run.drive.Goals as goal

pub run_by-net-requires-send-B : goal.run_by-net-requires-send-B
run_by-net-requires-send-B g c κs within = search (coro_send, sendable) depth 20

pub returns-in_err-show-in-Done-clause-part : goal.returns-in_err-show-in-Done-clause-part
returns-in_err-show-in-Done-clause-part g c =
    let done = done_report c.args.program.now c.args.input.now c.args.net c.run_by-net.result.net c.args.limit c.in_ok-ticks.field-0 c.requires.fresh c.run_by-net.ensures.program c.run_by-net.ensures.input c.in-Done.ticks c.run_by-net.ensures.reachable (subst (λ (r : Result Outcome OutOfMemory). IfOk r (EndsAs c.run_by-net.result.net c.args.limit)) c.in_ok-ticks.was c.run_by-net.ensures.outcome) c.in-Done.is in
    on_err c.from_residual-in_err-show-in-Done.result (inr (_, inl done, c.in_err-show-in-Done.ensures.part))

pub returns-in_err-show-in-Done-clause-front : goal.returns-in_err-show-in-Done-clause-front
returns-in_err-show-in-Done-clause-front g c =
    let done = done_report c.args.program.now c.args.input.now c.args.net c.run_by-net.result.net c.args.limit c.in_ok-ticks.field-0 c.requires.fresh c.run_by-net.ensures.program c.run_by-net.ensures.input c.in-Done.ticks c.run_by-net.ensures.reachable (subst (λ (r : Result Outcome OutOfMemory). IfOk r (EndsAs c.run_by-net.result.net c.args.limit)) c.in_ok-ticks.was c.run_by-net.ensures.outcome) c.in-Done.is in
    λ e. (_, inl done, c.in_err-show-in-Done.ensures.part)

pub returns-in-Done-clause-end : goal.returns-in-Done-clause-end
returns-in-Done-clause-end g c =
    let done = done_report c.args.program.now c.args.input.now c.args.net c.run_by-net.result.net c.args.limit c.in_ok-ticks.field-0 c.requires.fresh c.run_by-net.ensures.program c.run_by-net.ensures.input c.in-Done.ticks c.run_by-net.ensures.reachable (subst (λ (r : Result Outcome OutOfMemory). IfOk r (EndsAs c.run_by-net.result.net c.args.limit)) c.in_ok-ticks.was c.run_by-net.ensures.outcome) c.in-Done.is in
    (_, done, c.in_ok-show-in-Done.ensures.whole)

pub returns-in_err-show-in-Stopped-clause-part : goal.returns-in_err-show-in-Stopped-clause-part
returns-in_err-show-in-Stopped-clause-part g c =
    let stopped = stopped_report c.args.program.now c.args.input.now c.args.net c.run_by-net.result.net c.args.limit c.in_ok-ticks.field-0 c.requires.fresh c.run_by-net.ensures.program c.run_by-net.ensures.input c.in-Stopped.ticks (subst (λ (r : Result Outcome OutOfMemory). IfOk r (EndsAs c.run_by-net.result.net c.args.limit)) c.in_ok-ticks.was c.run_by-net.ensures.outcome) c.in-Stopped.is (lines_in c.in_ok-lines-in-Stopped.lines.items) c.in_ok-lines-in-Stopped.ensures in
    on_err c.from_residual-in_err-show-in-Stopped.result (inr (_, inr (_, stopped), c.in_err-show-in-Stopped.ensures.part))

pub returns-in_err-show-in-Stopped-clause-front : goal.returns-in_err-show-in-Stopped-clause-front
returns-in_err-show-in-Stopped-clause-front g c =
    let stopped = stopped_report c.args.program.now c.args.input.now c.args.net c.run_by-net.result.net c.args.limit c.in_ok-ticks.field-0 c.requires.fresh c.run_by-net.ensures.program c.run_by-net.ensures.input c.in-Stopped.ticks (subst (λ (r : Result Outcome OutOfMemory). IfOk r (EndsAs c.run_by-net.result.net c.args.limit)) c.in_ok-ticks.was c.run_by-net.ensures.outcome) c.in-Stopped.is (lines_in c.in_ok-lines-in-Stopped.lines.items) c.in_ok-lines-in-Stopped.ensures in
    λ e. (_, inr (_, stopped), c.in_err-show-in-Stopped.ensures.part)

pub returns-in-Stopped-clause-end : goal.returns-in-Stopped-clause-end
returns-in-Stopped-clause-end g c =
    let stopped = stopped_report c.args.program.now c.args.input.now c.args.net c.run_by-net.result.net c.args.limit c.in_ok-ticks.field-0 c.requires.fresh c.run_by-net.ensures.program c.run_by-net.ensures.input c.in-Stopped.ticks (subst (λ (r : Result Outcome OutOfMemory). IfOk r (EndsAs c.run_by-net.result.net c.args.limit)) c.in_ok-ticks.was c.run_by-net.ensures.outcome) c.in-Stopped.is (lines_in c.in_ok-lines-in-Stopped.lines.items) c.in_ok-lines-in-Stopped.ensures in
    (_, stopped, c.in_ok-show-in-Stopped.ensures.whole)

pub returns-clause-end : goal.returns-clause-end
returns-clause-end g c =
    (limit_past c.args.program.now c.args.input.now c.args.net c.run_by-net.result.net c.args.limit c.in_ok-ticks.field-0 c.requires.fresh c.run_by-net.ensures.program c.run_by-net.ensures.input (subst (λ (r : Result Outcome OutOfMemory). IfOk r (EndsAs c.run_by-net.result.net c.args.limit)) c.in_ok-ticks.was c.run_by-net.ensures.outcome) c.in-Limit.is, refl)
