use Rattle.command_source.proofs.Sourced.{means_nothing}
use Rattle.tapa_laws.proofs.sources.OneMeaning.{means_one, means_some}
use Rattle.tapa_laws.proofs.sources.OneRefusal.{one_refusal}
use Rattle.tapa_laws.proofs.laws.sources.law_sources_mean_one_thing.Goals as goal

pub returns : goal.returns
returns c = record { one = means_one; some = means_some; refused = means_nothing; once = one_refusal }
