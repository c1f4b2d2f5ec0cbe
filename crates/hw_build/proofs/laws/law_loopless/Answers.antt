use Rattle.hw_build.proofs.Free.{loopless}
use Rattle.hw_build.proofs.laws.law_loopless.Goals as goal

pub returns : goal.returns
returns c = loopless
