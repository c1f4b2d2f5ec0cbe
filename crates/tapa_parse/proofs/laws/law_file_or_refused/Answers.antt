use Rattle.tapa_parse.proofs.Places.{file_or_refused}
use Rattle.tapa_parse.proofs.laws.law_file_or_refused.Goals as goal

pub returns : goal.returns
returns c = file_or_refused
