use Rattle.flow_cert.proofs.Walked.{even_is_consistent}
use Rattle.flow_cert.proofs.law_even_is_consistent.Goals as goal

pub returns : goal.returns
returns c = even_is_consistent
