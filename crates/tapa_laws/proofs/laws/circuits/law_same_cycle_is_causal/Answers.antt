use Rattle.tapa_laws.proofs.circuits.Circuits.{same_cycle}
use Rattle.tapa_laws.proofs.laws.circuits.law_same_cycle_is_causal.Goals as goal

pub returns : goal.returns
returns c = record { answers = λ f. same_cycle f; others = λ f. same_cycle f }
