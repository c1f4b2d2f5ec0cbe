use Rattle.std.proofs.Common.{◌≡◌, ◌++◌, drop}
use Rattle.vlog_design.specs.Environments.{lists_of}
use Rattle.cycle_sim.proofs.begin.copied.Given as goal

abbrev pub invariant-loop-bits : goal.invariant-loop-bits
invariant-loop-bits l = lists_of l.out.items ++ lists_of (drop l.bits-index l.ready) ≡ lists_of l.ready
