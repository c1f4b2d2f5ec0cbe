use Rattle.std.proofs.Common.{◌≡◌, ◌≤◌, ◌^◌}
use Rattle.slot_plan.proofs.limit.is_too_many.Given as goal

abbrev pub invariant-loop : goal.invariant-loop
invariant-loop l = record {
  power : l.plans ≡ l.slots ^ l.counter;
  few : l.plans ≤ 4194304;
}
