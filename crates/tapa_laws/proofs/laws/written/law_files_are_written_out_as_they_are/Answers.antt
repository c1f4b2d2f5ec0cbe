use Rattle.tapa_laws.proofs.written.KeptLines.{files_stay}
use Rattle.tapa_laws.proofs.laws.written.law_files_are_written_out_as_they_are.Goals as goal

pub returns : goal.returns
returns c = files_stay
