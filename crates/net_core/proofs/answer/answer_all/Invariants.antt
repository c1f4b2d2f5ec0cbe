use Rattle.std.proofs.Common.{◌≡◌, ℕ, ◌<◌}
use Rattle.net_core.specs.State.{given, count, IsAnswered}
use Rattle.net_core.proofs.answer.answer_all.Given as goal

abbrev pub invariant-loop-i : goal.invariant-loop-i
invariant-loop-i g l = record {
  given : given l.net ≡ given l.fn.net;
  same : (j : ℕ) → count l.net j ≡ count l.fn.net j;
  answered : (j : ℕ) → j < l.i → IsAnswered l.net j;
}
