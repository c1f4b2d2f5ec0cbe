use Rattle.std.proofs.Common.{◌+◌, sym, subst, ℕ, arith}
use Rattle.std.specs.Prelude.{slice_get}
use Rattle.vcd_text.specs.Along.{StopsBefore}
use Rattle.vcd_text.specs.Lines.{IsLineTo}
use Rattle.vcd_text.proofs.Lines.{no_net_yet, one_net_more, all_nets}
use Rattle.vcd_text.proofs.line.next_line.Goals as goal

pub loop-net-init : goal.loop-net-init
loop-net-init c = no_net_yet c.args.nets.now (slice_get c.args.values.now) c.args.next c.args.from c.args.text.now c.in-Err.left c.in-Err.ensures.stop

pub loop-net-preserved : goal.loop-net-preserved
loop-net-preserved c =
    subst (λ (m : ℕ). StopsBefore (IsLineTo c.args.nets.now (slice_get c.args.values.now) c.args.next c.args.from (c.loop-net.net + 1)) c.args.text.now m) (sym c.min-least.ensures)
    (one_net_more c.args.nets.now (slice_get c.args.values.now) c.args.next c.args.from c.loop-net.net c.args.text.now c.loop-net.least c.in-Err-change_of.left c.loop-net.auto.net c.loop-net.invariant c.in-Err-change_of.ensures.stop)

pub returns-clause-stop : goal.returns-clause-stop
returns-clause-stop c = all_nets c.args.nets.now (slice_get c.args.values.now) c.args.next c.args.from c.loop-net.net c.args.text.now c.loop-net.least (omega (arith, c.loop-net-test.false)) c.loop-net.invariant
