use Rattle.vlog_ref_start.proofs.Computed.{reference_is_run}
use Rattle.vlog_ref_start.proofs.laws.law_reference_is_a_run.Goals as goal

pub returns : goal.returns
returns c = reference_is_run
