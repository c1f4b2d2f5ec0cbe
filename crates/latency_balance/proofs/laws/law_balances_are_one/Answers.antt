use Rattle.latency_balance.proofs.Earliest.{balances_are_one}
use Rattle.latency_balance.proofs.laws.law_balances_are_one.Goals as goal

pub returns : goal.returns
returns c = balances_are_one
