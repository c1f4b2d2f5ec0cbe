use Rattle.std.proofs.Common.{◌≡◌, string_bytes, rules}
use Rattle.std.proofs.lemmas.Map.Text.{hash_map_updates_text}
use Rattle.plan_device.proofs.KnownNames.{one_more}
use Rattle.plan_device.proofs.names.table_of.Goals as goal

pub loop-name-preserved : goal.loop-name-preserved
loop-name-preserved c = λ name.
    let entry = c.name-item.result in
    let same : string_bytes c.in_ok-text.text ≡ entry = search rules in
    one_more c.loop-name.table c.insert.new.self (string_bytes c.in_ok-text.text) tt c.args.names.now c.loop-name.name-index entry same c.loop-name-test.true c.name-item.is
    name (hash_map_updates_text (string_bytes c.in_ok-text.text) c.loop-name.table c.insert.new.self _ c.in_ok-insert.ensures.updates name) (c.loop-name.invariant name)
