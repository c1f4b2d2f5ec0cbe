use Rattle.hw_channel_laws.proofs.signals.Laws.{plain}
use Rattle.hw_channel_laws.proofs.laws.signals.law_plain.Goals as goal

pub returns : goal.returns
returns c = plain
