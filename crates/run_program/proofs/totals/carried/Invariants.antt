use Rattle.std.proofs.Common.{◌≡◌, ◌%◌, ◌^◌}
use Rattle.kahn_model.specs.Outcome.{shown}
use Rattle.net_core.specs.State.{network, count}
use Rattle.run_program.specs.Totals.{tokens_below, sum_below}
use Rattle.run_program.proofs.totals.carried.Given as goal

abbrev pub invariant-loop-s : goal.invariant-loop-s
invariant-loop-s g l = record {
  tokens_are : l.tokens ≡ tokens_below l.s (shown (network l.net) (count l.net));
  sum_is : l.sum ≡ sum_below l.s (shown (network l.net) (count l.net)) % 2 ^ 64;
}
