use Rattle.std.proofs.Common.{ℕ, length, sym, subst}
use Rattle.vcd_text.specs.Along.{StopsBefore}
use Rattle.vcd_text.specs.Head.{IsHeadLineTo}
use Rattle.vcd_text.proofs.Heads.{IsVar, head_either}
use Rattle.vcd_text.proofs.head.head_line.Goals as goal

pub returns-in-Err-var_at-clause-stop : goal.returns-in-Err-var_at-clause-stop
returns-in-Err-var_at-clause-stop c =
    subst (λ (m : ℕ). StopsBefore (IsHeadLineTo c.args.nets.now (length c.args.nets.now)) c.args.text.now m) (sym c.min.ensures)
    (head_either c.args.nets.now (length c.args.nets.now) c.args.text.now c.in-Err.left c.in-Err-var_at.left c.in-Err.ensures.stop (subst (λ (k : ℕ). StopsBefore (IsVar c.args.nets.now k) c.args.text.now c.in-Err-var_at.left) c.len.ensures c.in-Err-var_at.ensures.stop))
