use Rattle.std.proofs.Common.{◌≡◌, drop}
use Rattle.vlog_values.specs.Numbers.{first_net}
use Rattle.vlog_ref_cycle.proofs.inputs.scalar_at.Given as goal

abbrev pub invariant-loop-v : goal.invariant-loop-v
invariant-loop-v l = first_net l.scalars l.label ≡ first_net (drop l.v-index l.scalars) l.label
