use Rattle.std.proofs.Common.{◌+◌, ◌<◌, ◌^◌, length, sym, arith}
use Rattle.sim_flat.specs.Edges.{base_at}
use Rattle.sim_flat.proofs.order.add_top_answers.Goals as goal

pub add_answers-requires : goal.add_answers-requires
add_answers-requires c =
    let fits : base_at c.args.flat.now 0 + length c.in-Some.table.now.scope < 2 ^ 64 = c.requires 0 c.in-Some.table.now (sym c.in-Some.ensures) in
    omega arith
