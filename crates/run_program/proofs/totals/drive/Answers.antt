use Rattle.std.proofs.Common.{Result, IfOk, ℕ, ◌∙◌, subst}
use denote.Param.Send.{sendable}
use Rattle.tapa_base.specs.declared.fault.OutOfMemory.{OutOfMemory}
use Rattle.net_core.specs.declared.outcome.Outcome.{Outcome}
use Rattle.net_core.specs.Settle.{EndsAs}
use Rattle.run_program.proofs.Sending.{coro_send}
use Rattle.kahn_model.specs.Outcome.{shown}
use Rattle.net_core.specs.State.{network, count}
use Rattle.run_data.specs.Lines.{lines_in}
use Rattle.run_program.specs.Totals.{AreCarried}
use Rattle.run_program.proofs.Running.{stopped_report, limit_past}
use Rattle.run_program.proofs.Totalling.{totals_done}
use Rattle.run_program.proofs.totals.drive.Goals as goal

pub run_by-net-requires-send-B : goal.run_by-net-requires-send-B
run_by-net-requires-send-B g c κs within = search (coro_send, sendable) depth 20

pub returns-in-Done : goal.returns-in-Done
returns-in-Done g c =
    totals_done c.args.program.now c.args.net.input c.args.net c.run_by-net.result.net c.args.limit c.in_ok-ticks.field-0 c.requires.fresh c.run_by-net.ensures.program c.run_by-net.ensures.input c.in-Done.ticks c.run_by-net.ensures.reachable (subst (λ (r : Result Outcome OutOfMemory). IfOk r (EndsAs c.run_by-net.result.net c.args.limit)) c.in_ok-ticks.was c.run_by-net.ensures.outcome) c.in-Done.is
    c.in_ok-totals-in-Done.totals (subst (λ (n : ℕ). AreCarried (shown (network c.run_by-net.result.net) (count c.run_by-net.result.net)) n c.in-Done.ticks c.in_ok-totals-in-Done.totals) (c.len.ensures ∙ c.args.program.now.streams.ok.0) c.in_ok-totals-in-Done.ensures)

pub returns-in-Stopped : goal.returns-in-Stopped
returns-in-Stopped g c = (
  _,
  stopped_report c.args.program.now c.args.net.input c.args.net c.run_by-net.result.net c.args.limit c.in_ok-ticks.field-0 c.requires.fresh c.run_by-net.ensures.program c.run_by-net.ensures.input c.in-Stopped._ticks (subst (λ (r : Result Outcome OutOfMemory). IfOk r (EndsAs c.run_by-net.result.net c.args.limit)) c.in_ok-ticks.was c.run_by-net.ensures.outcome) c.in-Stopped.is (lines_in c.in_ok-lines-in-Stopped.lines.items) c.in_ok-lines-in-Stopped.ensures,
)

pub returns : goal.returns
returns g c =
    limit_past c.args.program.now c.args.net.input c.args.net c.run_by-net.result.net c.args.limit c.in_ok-ticks.field-0 c.requires.fresh c.run_by-net.ensures.program c.run_by-net.ensures.input (subst (λ (r : Result Outcome OutOfMemory). IfOk r (EndsAs c.run_by-net.result.net c.args.limit)) c.in_ok-ticks.was c.run_by-net.ensures.outcome) c.in-Limit.is
