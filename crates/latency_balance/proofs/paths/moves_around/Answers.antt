use Rattle.std.proofs.Common.{arith}
use Rattle.latency_balance.proofs.Raises.{groups_few}
use Rattle.latency_balance.proofs.paths.moves_around.Goals as goal

pub returns : goal.returns
returns c =
    let groups = groups_few c.args.graph.now in
    let moves = c.path.invariant.few in
    omega arith
