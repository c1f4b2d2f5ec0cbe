use Rattle.vlog_module_laws.proofs.Larger.{front_within, back_within, sound_of, each_right, stays_right, right_has_instances}
use Rattle.vlog_module_laws.proofs.laws.law_larger.Goals as goal

pub returns : goal.returns
returns c = record { front = front_within; back = back_within; sound = sound_of; each = each_right; stays = stays_right; instances = right_has_instances }
