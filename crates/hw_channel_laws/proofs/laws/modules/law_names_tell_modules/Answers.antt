use Rattle.hw_channel_laws.proofs.modules.Parts.{names_tell}
use Rattle.hw_channel_laws.proofs.laws.modules.law_names_tell_modules.Goals as goal

pub returns : goal.returns
returns c = names_tell
