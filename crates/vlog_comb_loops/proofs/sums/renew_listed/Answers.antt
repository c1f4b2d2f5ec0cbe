use Rattle.std.proofs.Common.{◌≤◌, ℕ, List, length, inl, inr, subst, arith}
use Rattle.vlog_comb_loops.proofs.sums.renew_listed.Goals as goal

pub loop-place-preserved : goal.loop-place-preserved
loop-place-preserved c =
    let step = c.in_ok-renew_noted.ensures in
    let v = c.loop-place.invariant in
    let a = step.more in
    let b = v.more in
    record {
      sound = step.sound;
      less = λ some. elim step.less [
        | inl same ↦ (let l = v.less (subst (λ (z : List ℕ). 1 ≤ length z) same some) in omega (arith, l, a))
        | inr l ↦ omega (arith, l, b)
      ];
      more = omega (arith, a, b);
    }
