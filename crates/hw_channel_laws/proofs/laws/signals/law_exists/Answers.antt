use Rattle.hw_channel_laws.proofs.signals.Exists.{exists}
use Rattle.hw_channel_laws.proofs.laws.signals.law_exists.Goals as goal

pub returns : goal.returns
returns c = exists
