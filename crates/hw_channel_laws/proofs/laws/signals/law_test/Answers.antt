use Rattle.hw_channel_laws.proofs.signals.Pointers.{bit_is}
use Rattle.hw_channel_laws.proofs.laws.signals.law_test.Goals as goal

pub returns : goal.returns
returns c = bit_is
