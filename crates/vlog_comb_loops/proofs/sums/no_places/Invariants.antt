use Rattle.std.proofs.Common.{◌≡◌, ℕ, None, length, get_or}
use Rattle.vlog_comb_loops.proofs.sums.no_places.Given as goal

abbrev pub invariant-loop : goal.invariant-loop
invariant-loop l = record {
  len : length l.places.items ≡ l.counter;
  none : (k : ℕ) → get_or l.places.items k None ≡ None;
}
