use Rattle.vlog_read.proofs.OnePlace.{one_refused_place}
use Rattle.vlog_read.proofs.laws.law_v1_at_one_place.Goals as goal

pub returns : goal.returns
returns c = λ text place other r s. one_refused_place text place other r s
