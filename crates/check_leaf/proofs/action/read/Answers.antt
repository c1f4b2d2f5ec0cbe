use Rattle.std.proofs.Common.{map, drop, sym}
use Rattle.std.proofs.lemmas.Result.{err_from_is_err_and}
use Rattle.std.specs.List.{flat_map}
use Rattle.tapa_syntax.specs.Trees as tree
use Rattle.check_leaf.specs.Statements as task
use Rattle.check_leaf.proofs.Order.{fails_in, same}
use Rattle.check_leaf.proofs.action.read.Goals as goal

pub returns-in_err-target : goal.returns-in_err-target
returns-in_err-target c =
    let p = err_from_is_err_and c.from_residual.result c.from_residual.ensures.1 in
    let faults = task.place_faults c.args.scope.now in
    let e = c.in_err-target.field-0.0 in
    let h = fails_in tree.place_expression_of faults c.args.places.now c.loop-place.place-index c.place-item.result e _ (tt {0}) c.loop-place-test.true c.place-item.is c.in_err-target.ensures in
    rw (p.1, p.2) (same e (flat_map faults (map tree.place_expression_of (drop c.loop-place.place-index c.args.places.now))) (flat_map faults (map tree.place_expression_of c.args.places.now)) (tt {0}) _ (sym c.loop-place.invariant.faults) h)
