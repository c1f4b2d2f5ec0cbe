use Rattle.hw_channel_laws.proofs.signals.Lines.{bits}
use Rattle.hw_channel_laws.proofs.laws.signals.law_bits.Goals as goal

pub returns : goal.returns
returns c = bits
