use Rattle.kahn_model.proofs.Ending.{three_ways, one_way}
use Rattle.kahn_model.proofs.laws.law_three_ways.Goals as goal

pub returns : goal.returns
returns c = record { some = three_ways; one = one_way }
