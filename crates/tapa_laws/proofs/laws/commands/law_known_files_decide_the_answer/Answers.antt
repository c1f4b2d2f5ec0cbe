use Rattle.tapa_laws.proofs.commands.KnownFiles.{known_files_decide}
use Rattle.tapa_laws.proofs.laws.commands.law_known_files_decide_the_answer.Goals as goal

pub returns : goal.returns
returns c = known_files_decide
