use Rattle.std.proofs.Common.{◌-◌, ℕ, List, get_or, arith, ap}
use Rattle.std.specs.Prelude.{slice_index}
use Rattle.std.proofs.lemmas.List.{with_items_is}
use Rattle.flow_cert.specs.Flow.{weight}
use Rattle.latency_balance.proofs.Ends.{carried_small, carried_light}
use Rattle.latency_balance.proofs.settling.settle_stream.Goals as goal

pub send-requires-clause-small : goal.send-requires-clause-small
send-requires-clause-small c = λ e.
    (let a = carried_small c.args.graph.now c.cycles.flow.items c.cycles.invariant e in
    let b = ap (λ (xs : List ℕ). get_or xs e 0) c.deref_mut.ensures.value in omega arith)

pub cycles-smaller : goal.cycles-smaller
cycles-smaller c =
    let g = c.args.graph.now in
    let a = carried_light g c.args.lat.now c.send.new.flow c.requires.lats c.send.ensures.carried in
    let more = c.send.ensures.more in
    let long = c.send.ensures.carried.long in
    let old = c.cycles.invariant.long in
    let is = with_items_is c.cycles.flow c.send.new.flow (let k = c.cycles.flow.ok.0 in omega arith) in
    let b = ap (λ (xs : List ℕ). weight g (slice_index c.args.lat.now) (slice_index xs)) is in
    let d = ap (λ (xs : List ℕ). weight g (slice_index c.args.lat.now) (slice_index xs)) c.deref_mut.ensures.value in
    omega arith
