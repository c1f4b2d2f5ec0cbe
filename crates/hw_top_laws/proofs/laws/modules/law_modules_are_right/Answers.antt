use Rattle.hw_top_laws.proofs.modules.Lower.{lower_form, lower_right, lower_sound, lower_ports}
use Rattle.hw_top_laws.proofs.laws.modules.law_modules_are_right.Goals as goal

pub returns : goal.returns
returns c = record { form = lower_form; right = lower_right; sound = lower_sound; ports = lower_ports }
