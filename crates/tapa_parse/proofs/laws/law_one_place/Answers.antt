use Rattle.tapa_parse.proofs.Places.{one_refusal}
use Rattle.tapa_parse.proofs.laws.law_one_place.Goals as goal

pub returns : goal.returns
returns c = one_refusal
