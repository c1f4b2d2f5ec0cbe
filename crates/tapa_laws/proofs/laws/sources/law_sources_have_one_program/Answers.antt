use Rattle.tapa_laws.proofs.sources.OneMeaning.{one_program, asked_once, faulty_once}
use Rattle.tapa_laws.proofs.laws.sources.law_sources_have_one_program.Goals as goal

pub returns : goal.returns
returns c = record { program = one_program; input = asked_once; fault = faulty_once }
