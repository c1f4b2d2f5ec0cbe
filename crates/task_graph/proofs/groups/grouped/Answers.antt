use Rattle.std.proofs.Common.{◌≡◌, length, ap, arith}
use Rattle.task_graph.proofs.Numbering.{none_yet}
use Rattle.task_graph.proofs.groups.grouped.Goals as goal

pub loop-init : goal.loop-init
loop-init c =
    let e : length c.new.result.items ≡ 0 = ap length c.new.ensures.items in
    let n = none_yet c.args.rows.now c.new.result.items e in
    record { groups = record { numbered = n.0; same = n.1 }; low = omega arith; len = e }
