use Rattle.hw_channel_laws.proofs.signals.Relays.{delays}
use Rattle.hw_channel_laws.proofs.laws.signals.law_relay.Goals as goal

pub returns : goal.returns
returns c = delays
