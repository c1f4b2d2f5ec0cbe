use Rattle.flow_cert.proofs.Duality.{weak_duality}
use Rattle.flow_cert.proofs.law_weak_duality.Goals as goal

pub returns : goal.returns
returns c = weak_duality
