use Rattle.tapa_laws.proofs.sources.LegalOrRefused.{legal_or_refused, not_legal_and_refused}
use Rattle.tapa_laws.proofs.laws.sources.law_every_source_is_legal_or_refused.Goals as goal

pub returns : goal.returns
returns c = record { some = legal_or_refused; one = not_legal_and_refused }
