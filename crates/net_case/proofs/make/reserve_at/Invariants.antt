use Rattle.std.proofs.Common.{ℕ, ◌*◌, ◌<◌, ◌≤◌}
use Rattle.net_core.specs.Ports.{space_at}
use Rattle.net_core.specs.Bindings.{stream_at, depth_of, Reads}
use Rattle.net_case.specs.Make.{HaveSameTokens}
use Rattle.net_case.proofs.make.reserve_at.Given as goal

abbrev pub invariant-loop-p : goal.invariant-loop-p
invariant-loop-p l = record {
  kept : HaveSameTokens l.fn.ports l.ports;
  spaces : (q : ℕ) → q < l.p → Reads l.program l.i q → 2 * depth_of l.program (stream_at l.program l.i q) ≤ space_at l.ports q;
}
