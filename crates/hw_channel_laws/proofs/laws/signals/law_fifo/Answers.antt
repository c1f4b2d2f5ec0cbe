use Rattle.hw_channel_laws.proofs.signals.Queues.{keeps_order}
use Rattle.hw_channel_laws.proofs.laws.signals.law_fifo.Goals as goal

pub returns : goal.returns
returns c = keeps_order
