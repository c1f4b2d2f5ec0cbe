use Rattle.std.proofs.Common.{arith}
use Rattle.net_case.proofs.batch.Batch.instance.Goals as goal

pub returns-clause-few : goal.returns-clause-few
returns-clause-few g c =
    let b = c.self.invariant in
    let inside = b.inside in
    let few = b.well_formed.few_instances in
    omega arith
