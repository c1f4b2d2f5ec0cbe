use Rattle.stream_check.proofs.WellPrograms.{legal_program_well}
use Rattle.stream_check.proofs.laws.law_legal_programs_are_well_formed.Goals as goal

pub returns : goal.returns
returns c = legal_program_well
