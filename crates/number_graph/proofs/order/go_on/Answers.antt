use Rattle.std.proofs.Common.{arith, ◌≡◌, ◌<◌, ◌-◌, [], length, get_or, ap, subst, ◌∙◌}
use Rattle.std.proofs.lemmas.List.{get_or_default}
use Rattle.tapa_base.specs.Lists.{Has}
use Rattle.number_graph.specs.Visits.{IsOpen}
use Rattle.number_graph.proofs.Numbers.{at_has}
use Rattle.number_graph.proofs.Visits.{last_open, node_within}
use Rattle.number_graph.proofs.order.go_on.Goals as goal

pub follow-requires-clause-low : goal.follow-requires-clause-low
follow-requires-clause-low c =
    let row = c.targets-targets.result.now in
    let n = c.index.result.now - 1 in
    c.len-count.ensures.nodes c.args.node (get_or row n 0) (subst (λ l. Has l (get_or row n 0)) c.targets-targets.ensures (at_has row n c.if-next-targets.true))

pub finish-requires-clause-full : goal.finish-requires-clause-full
finish-requires-clause-full c =
    let g = c.args.graph.now in
    let v = c.args.visit.now in
    let p = v.progress.items in
    let r = c.requires in
    let o : IsOpen g p c.args.node = last_open g p v.path.items v.order.items r.last.0 c.args.node r.visit r.last.1 in
    let low : c.args.node < length p = node_within g p v.path.items v.order.items r.last.0 c.args.node r.visit r.last.1 in
    let at : c.index.result.now ≡ get_or p c.args.node 0 = c.index.ensures ∙ get_or_default p c.args.node c.index.result.now 0 low in
    let len : length c.targets-targets.result.now ≡ length (get_or g c.args.node []) = ap length c.targets-targets.ensures in
    omega (arith, o.0, o.1, at, len, c.if-next-targets.false)
