use Rattle.hw_channel_laws.proofs.modules.Fits.{clear}
use Rattle.hw_channel_laws.proofs.laws.modules.law_modules_are_clear.Goals as goal

pub returns : goal.returns
returns c = clear
