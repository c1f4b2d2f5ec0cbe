use Rattle.std.proofs.Common.{Some, None}
use Rattle.serde_json.specs.View.{view}
use Rattle.plan_device.specs.declared.check.Check.TheVariants.{Number, Name}
use Rattle.plan_device.proofs.Faults.{tells_misshapen, tells_misfit, tells_range, tells_unknown, shapes_by, found_by, ranges_by}
use Rattle.plan_device.proofs.read.check_keys.Goals as goal

pub returns-in-Some-clause-cause : goal.returns-in-Some-clause-cause
returns-in-Some-clause-cause c = λ graph.
    let file = view c.args.file.now in
    let told = rw c.in-Some.is at c.in_ok-key.ensures in
    tells_misshapen c.args.program.now graph file c.in-Some.key.items (shapes_by file (Some c.in-Some.key.items) c.in_ok-known.ensures told)

pub returns-in-Some-2-clause-cause : goal.returns-in-Some-2-clause-cause
returns-in-Some-2-clause-cause c = λ graph.
    let file = view c.args.file.now in
    let shaped = rw c.in_default.is at c.in_ok-key.ensures in
    let told = rw c.in-Some-2.is at c.in_ok-key-2.ensures in
    tells_misfit c.args.program.now graph file c.in-Some-2.key.items (shapes_by file None c.in_ok-known.ensures shaped) (found_by Number file (Some c.in-Some-2.key.items) c.in_ok-known.ensures c.of-format.ensures told)

pub returns-in-Some-3-clause-cause : goal.returns-in-Some-3-clause-cause
returns-in-Some-3-clause-cause c = λ graph.
    let file = view c.args.file.now in
    let shaped = rw c.in_default.is at c.in_ok-key.ensures in
    let fit = rw c.in_default-2.is at c.in_ok-key-2.ensures in
    let told = rw c.in-Some-3.is at c.in_ok-key-3.ensures in
    tells_range c.args.program.now graph file c.in-Some-3.key.items (shapes_by file None c.in_ok-known.ensures shaped) (found_by Number file None c.in_ok-known.ensures c.of-format.ensures fit)
    (ranges_by file (Some c.in-Some-3.key.items) c.in_ok-known.ensures c.of-format.ensures c.grid_of-grid.ensures.value told)

pub returns-in-Some-4-clause-cause : goal.returns-in-Some-4-clause-cause
returns-in-Some-4-clause-cause c = λ graph.
    let file = view c.args.file.now in
    let shaped = rw c.in_default.is at c.in_ok-key.ensures in
    let fit = rw c.in_default-2.is at c.in_ok-key-2.ensures in
    let inside = rw c.in_default-3.is at c.in_ok-key-3.ensures in
    let told = rw c.in-Some-4.is at c.in_ok-name.ensures in
    tells_unknown c.args.program.now graph file c.in-Some-4.name.items (shapes_by file None c.in_ok-known.ensures shaped) (found_by Number file None c.in_ok-known.ensures c.of-format.ensures fit)
    (ranges_by file None c.in_ok-known.ensures c.of-format.ensures c.grid_of-grid.ensures.value inside) (found_by Name file (Some c.in-Some-4.name.items) c.in_ok-known.ensures c.of-format.ensures told)
