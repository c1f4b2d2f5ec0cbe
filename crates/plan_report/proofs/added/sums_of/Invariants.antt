use Rattle.std.proofs.Common.{◌≡◌, ℕ, ◌+◌, ◌<◌, ◌≤◌, length, get_or}
use Rattle.plan_report.proofs.added.sums_of.Given as goal

abbrev pub invariant-loop-e : goal.invariant-loop-e
invariant-loop-e l = record {
  long : length l.sums.items ≡ l.e;
  value : (d : ℕ) → d < l.e → get_or l.sums.items d 0 ≡ get_or l.border d 0 + get_or l.balance d 0;
  low : (d : ℕ) → get_or l.sums.items d 0 ≤ 500000;
}
