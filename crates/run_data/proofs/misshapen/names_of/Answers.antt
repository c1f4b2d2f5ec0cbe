use Rattle.std.proofs.Common.{◌≡◌, string_bytes, rules}
use Rattle.std.proofs.lemmas.Map.Text.{hash_map_updates_text}
use Rattle.run_data.proofs.Names.{one_more}
use Rattle.run_data.proofs.misshapen.names_of.Goals as goal

pub loop-port-preserved : goal.loop-port-preserved
loop-port-preserved c = λ name.
    let port = c.port-item.result in
    let same : string_bytes c.in_ok-name.name ≡ port.name = search rules in
    one_more c.loop-port.names c.insert.new.self (string_bytes c.in_ok-name.name) tt c.args.ports.now c.loop-port.port-index port same c.loop-port-test.true c.port-item.is
    name (hash_map_updates_text (string_bytes c.in_ok-name.name) c.loop-port.names c.insert.new.self _ c.in_ok-insert.ensures.updates name) (c.loop-port.invariant name)
