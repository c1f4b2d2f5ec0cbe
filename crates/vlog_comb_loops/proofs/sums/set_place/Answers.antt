use Rattle.std.proofs.Common.{◌≡◌, ◌<◌, Some, length, rules}
use Rattle.vlog_scope.specs.NameTable.{value_in}
use Rattle.vlog_comb_loops.proofs.Placing.{places_set}
use Rattle.vlog_comb_loops.proofs.sums.set_place.Goals as goal

pub returns-then-number-len : goal.returns-then-number-len
returns-then-number-len c =
    let number = value_in c.args.graph.now.numbers in
    let low : c.in-Some.number < length c.args.places.now.items = search rules in
    let num : number c.args.name.now ≡ Some c.in-Some.number = search rules in
    places_set c.args.ports.now number c.args.at c.args.name.now c.args.places.now.items c.in-Some.number low (c.is_input.ensures.0 c.if-is_input.true) num
