use Rattle.hw_build.proofs.Once.{two_once, parts_once}
use Rattle.hw_build.proofs.list_laws.law_names_once.Goals as goal

pub returns : goal.returns
returns c = record { two = two_once; parts = parts_once }
