use Rattle.hw_channel_laws.proofs.signals.Lines.{stores}
use Rattle.hw_channel_laws.proofs.laws.signals.law_store.Goals as goal

pub returns : goal.returns
returns c = stores
