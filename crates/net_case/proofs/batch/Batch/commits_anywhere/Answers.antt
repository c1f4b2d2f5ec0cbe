use Rattle.std.proofs.Common.{subst}
use Rattle.net_case.specs.Batch.{CommitsAnywhere}
use Rattle.net_case.proofs.Commits.{commits_lot}
use Rattle.net_case.proofs.batch.Batch.commits_anywhere.Goals as goal

pub returns : goal.returns
returns g c =
    let I = c.self.inside in
    subst CommitsAnywhere c.self.view_is (commits_lot g.B.Body.stands I.program.value I.input.value I.budget I.at.value.items I.instance I.from I.fuel I.made I.pause I.ready I.process.body I.process.ports I.process.limits.items c.self.invariant)
