use Rattle.std.proofs.Common.{ap}
use Rattle.std.specs.Prelude.{bit_and, ◌-◌}
use Rattle.vlog_scope.specs.Chains.{chain_of}
use Rattle.vlog_scope.proofs.chains.chain_at.Goals as goal

pub returns-clause-value : goal.returns-clause-value
unfolding chain_of
returns-clause-value c = ap (λ h. bit_and h (c.args.count - 1)) c.hash_of.ensures
