use Rattle.std.proofs.Common.{subst}
use Rattle.net_case.specs.State.{IsValidCase}
use Rattle.net_case.proofs.Finish.{valid_of}
use Rattle.net_case.proofs.case.Case.valid.Goals as goal

pub returns : goal.returns
returns g c = subst IsValidCase c.self.view_is (valid_of c.self.invariant.0)
