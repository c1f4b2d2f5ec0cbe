use Rattle.kahn_model.proofs.Stops.{stops_stay}
use Rattle.kahn_model.proofs.laws.law_stops_stay.Goals as goal

pub returns : goal.returns
returns c = stops_stay
