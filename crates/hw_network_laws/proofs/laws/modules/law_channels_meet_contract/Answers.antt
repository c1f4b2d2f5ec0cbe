use Rattle.hw_network_laws.proofs.modules.Channels.{meets}
use Rattle.hw_network_laws.proofs.laws.modules.law_channels_meet_contract.Goals as goal

pub returns : goal.returns
returns c = λ bits depth late s ch S a only m. meets bits s ch S a only depth late m
