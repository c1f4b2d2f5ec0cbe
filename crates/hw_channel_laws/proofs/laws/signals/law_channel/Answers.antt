use Rattle.hw_channel_laws.proofs.signals.Laws.{channel}
use Rattle.hw_channel_laws.proofs.laws.signals.law_channel.Goals as goal

pub returns : goal.returns
returns c = channel
