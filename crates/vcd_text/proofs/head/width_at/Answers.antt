use Rattle.std.proofs.Common.{◌+◌, ℕ, sym, subst, arith}
use Rattle.vcd_text.specs.Along.{StopsBefore}
use Rattle.vcd_text.specs.Head.{IsWidthBelow}
use Rattle.vcd_text.proofs.Heads.{width_more}
use Rattle.vcd_text.proofs.head.width_at.Goals as goal

pub loop-width-preserved : goal.loop-width-preserved
loop-width-preserved c = subst (λ (m : ℕ). StopsBefore (IsWidthBelow (c.loop-width.width + 1)) c.args.text.now m) (sym c.min-least.ensures)
    (width_more c.args.text.now c.loop-width.width c.loop-width.least c.in-Err-one_width.left (omega (arith, c.loop-width.auto.width)) c.loop-width.invariant c.in-Err-one_width.ensures.stop)
