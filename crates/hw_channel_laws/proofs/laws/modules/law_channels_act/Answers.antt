use Rattle.hw_channel_laws.proofs.modules.Whole.{acts}
use Rattle.hw_channel_laws.proofs.laws.modules.law_channels_act.Goals as goal

pub returns : goal.returns
returns c = acts
