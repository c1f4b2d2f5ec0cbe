use Rattle.std.proofs.Common.{◌≡◌, ◌∙◌, ◌-◌, ◌<◌, suc, length, ap, sym, arith}
use Rattle.std.specs.Prelude.{nat_lt}
use Rattle.vlog_scope.proofs.Shortness.{stays, stepped, no_step}
use Rattle.vlog_scope.proofs.chains.is_longer.Goals as goal
use Rattle.vlog_scope.proofs.chains.is_longer.Goals.{then-loop-left-test+else-at-nexts, else-loop-left-test}

pub loop-left-preserved : goal.loop-left-preserved
loop-left-preserved c =
    let left = c.loop-left.left in
    let some : 0 < left = c.loop-left-test.true in
    let one : left ≡ suc (left - 1) = omega arith in
    stepped c.args.nexts.now left (left - 1) c.loop-left.at one c.if-at-nexts.true ∙ c.loop-left.invariant

pub returns : goal.returns
returns c =
    let nexts = c.args.nexts.now in
    elim c.loop-left-test.branch [
      | then-loop-left-test+else-at-nexts w ↦ ap (λ p. nat_lt p (length nexts)) (sym (stays nexts c.loop-left.left c.loop-left.at w.if-at-nexts.false) ∙ c.loop-left.invariant)
      | else-loop-left-test w ↦ ap (λ p. nat_lt p (length nexts)) (sym (no_step nexts c.loop-left.left c.loop-left.at (omega (arith, w.loop-left-test.false))) ∙ c.loop-left.invariant)
    ]
