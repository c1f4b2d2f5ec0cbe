use Rattle.hw_top_laws.proofs.modules.Lower.{lower_apart, top_apart, channels_found, tasks_found}
use Rattle.hw_top_laws.proofs.laws.modules.law_modules_are_apart.Goals as goal

pub returns : goal.returns
returns c = record { apart = lower_apart; top = top_apart; channels = channels_found; tasks = tasks_found }
