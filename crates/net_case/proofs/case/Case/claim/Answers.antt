use Rattle.net_case.proofs.Same.{claims_same}
use Rattle.net_case.proofs.case.Case.claim.Goals as goal

pub returns-in-None : goal.returns-in-None
returns-in-None g c = claims_same c.args.self.now c.find.new.self c.idle-in-None.result c.find.new.self c.in-None.ensures.0 c.idle-in-None.ensures
