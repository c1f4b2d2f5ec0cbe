use Rattle.std.proofs.Common.{Some, None, ◌∙◌, arith}
use Rattle.serde_json.specs.View.{view}
use Rattle.plan_device.specs.Faults.{faulty_at}
use Rattle.plan_device.specs.Known.{names_known}
use Rattle.plan_device.proofs.Faults.{faulty_by}
use Rattle.plan_device.proofs.Lists.{flat_at, flat_over}
use Rattle.plan_device.proofs.find.find.Goals as goal

pub returns-in-Some : goal.returns-in-Some
returns-in-Some c =
    let file = view c.args.file.now in
    let names = names_known c.args.known.now in
    let keys = c.keys-key-items.result.now in
    let told = rw c.in-Some.is at c.in_ok-told.ensures in
    faulty_by c.args.check names file c.args.format keys (Some c.in-Some.told.items) c.keys-key-items.ensures
    (c.loop-key.invariant ∙ flat_at (faulty_at c.args.check names file) keys c.loop-key.key-index _ (omega arith) c.in-Some.told.items told)

pub returns : goal.returns
returns c =
    let file = view c.args.file.now in
    let names = names_known c.args.known.now in
    let keys = c.keys-key-items.result.now in
    faulty_by c.args.check names file c.args.format keys None c.keys-key-items.ensures
    (c.loop-key.invariant ∙ flat_over (faulty_at c.args.check names file) keys c.loop-key.key-index (omega arith))
