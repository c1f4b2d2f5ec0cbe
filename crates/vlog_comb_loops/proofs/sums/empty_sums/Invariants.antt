use Rattle.std.proofs.Common.{◌≡◌, ℕ, [], length, get_or}
use Rattle.vlog_comb_loops.proofs.sums.empty_sums.Given as goal

abbrev pub invariant-loop : goal.invariant-loop
invariant-loop l = record {
  len : length l.sums.items ≡ l.counter;
  empty : (at : ℕ) → get_or l.sums.items at [] ≡ [];
}
