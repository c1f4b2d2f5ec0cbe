use Rattle.hw_channel_laws.proofs.signals.Laws.{room}
use Rattle.hw_channel_laws.proofs.laws.signals.law_room.Goals as goal

pub returns : goal.returns
returns c = room
