use Rattle.vlog_module_laws.proofs.Labelled.{labels, apart}
use Rattle.vlog_module_laws.proofs.laws.law_labels.Goals as goal

pub returns : goal.returns
returns c = record { labels = labels; apart = apart }
