use Rattle.command_source.proofs.Sources.{labels_tell}
use Rattle.tapa_laws.proofs.laws.sources.law_labels_tell_parts_apart.Goals as goal

pub returns : goal.returns
returns c = labels_tell
