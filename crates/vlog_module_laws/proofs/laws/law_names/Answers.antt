use Rattle.vlog_module_laws.proofs.Labelled.{early_name}
use Rattle.vlog_module_laws.proofs.laws.law_names.Goals as goal

pub returns : goal.returns
returns c = early_name
