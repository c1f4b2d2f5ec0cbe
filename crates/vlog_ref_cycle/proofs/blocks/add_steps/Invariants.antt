use Rattle.std.proofs.Common.{◌≡◌, ◌++◌, map, drop}
use Rattle.std.specs.List.{flat_map}
use Rattle.vlog_ref_cycle.specs.Sources.{net_read}
use Rattle.vlog_ref_cycle.specs.Next.{step_nets}
use Rattle.vlog_ref_cycle.proofs.blocks.add_steps.Given as goal

abbrev pub invariant-loop-step : goal.invariant-loop-step
invariant-loop-step l = l.out.items ++ map (net_read l.scope) (flat_map step_nets (drop l.step-index l.steps)) ≡ l.fn.out.items ++ map (net_read l.scope) (flat_map step_nets l.steps)
