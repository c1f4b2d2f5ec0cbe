use Rattle.hw_channel_laws.proofs.signals.Lines.{next_is}
use Rattle.hw_channel_laws.proofs.laws.signals.law_next_place.Goals as goal

pub returns : goal.returns
returns c = next_is
