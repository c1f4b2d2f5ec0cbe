use Rattle.kahn_model.proofs.Shown.{ends_alike, ends_stay}
use Rattle.kahn_model.proofs.laws.law_ends_alike.Goals as goal

pub returns : goal.returns
returns c = record { alike = ends_alike; stay = ends_stay }
