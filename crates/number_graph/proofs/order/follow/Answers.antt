use Rattle.std.proofs.Common.{arith, ◌≡◌, ◌<◌, ◌≤◌, ◌+◌, ◌-◌, [], length, get_or, sym, ap, subst, ◌∙◌}
use Rattle.std.proofs.lemmas.List.{get_or_default}
use Rattle.tapa_base.specs.Lists.{Has}
use Rattle.number_graph.specs.Graphs.{Steps}
use Rattle.number_graph.specs.Visits.{IsOpen}
use Rattle.number_graph.proofs.Numbers.{at_has}
use Rattle.number_graph.proofs.Visits.{closes}
use Rattle.number_graph.proofs.order.follow.Goals as goal

pub returns-then-progress-targets : goal.returns-then-progress-targets
returns-then-progress-targets c =
    let g = c.args.graph.now in
    let v = c.args.visit.now in
    let p = v.progress.items in
    let path = v.path.items in
    let r = c.requires in
    let to = c.args.to in
    let plow : to < length p = omega (arith, r.visit.len, r.low) in
    let at : c.index-progress.result.now ≡ get_or p to 0 = c.index-progress.ensures ∙ get_or_default p to c.index-progress.result.now 0 plow in
    let len : length c.targets.result.now ≡ length (get_or g to []) = ap length c.targets.ensures in
    let some : 0 < get_or p to 0 = omega (arith, at, c.if-progress-eq0.false) in
    let most : get_or p to 0 ≤ length (get_or g to []) + 1 = omega (arith, at, len, c.if-progress-targets.true) in
    let low : c.args.place < length path = omega (arith, r.last) in
    let o : IsOpen g p c.args.node = subst (λ n. IsOpen g p n) r.node (r.visit.opened c.args.place low) in
    let row = get_or g c.args.node [] in
    let n = get_or p c.args.node 0 - 1 in
    let within : n < length row = omega (arith, o.0, r.more) in
    let step : Has row to = subst (λ t. Has row t) (sym r.to) (at_has row n within) in
    (r.low, closes g p path v.order.items r.visit c.args.place to r.last (some, most) (subst (λ t. Steps g t to) (sym r.node) step))
