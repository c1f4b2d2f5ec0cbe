use Rattle.std.proofs.Common.{arith, ◌≡◌, ◌<◌, ◌+◌, length, get_or, refl, ap, ◌∙◌}
use Rattle.std.proofs.lemmas.List.{get_or_default}
use Rattle.number_graph.proofs.Visits.{passed_visit, node_low, left_less, further_set}
use Rattle.number_graph.proofs.order.pass.Goals as goal

pub returns : goal.returns
returns c =
    let g = c.args.graph.now in
    let v = c.args.visit.now in
    let p = v.progress.items in
    let r = c.requires in
    let y = c.index-progress.result.now + 1 in
    let low : c.args.node < length g = node_low g p v.path.items v.order.items r.visit c.args.place c.args.node r.at r.node r.more r.behind (get_or p c.args.node 0 + 1) refl in
    let plow : c.args.node < length p = omega (arith, r.visit.len) in
    let at : c.index-progress.result.now ≡ get_or p c.args.node 0 = c.index-progress.ensures ∙ get_or_default p c.args.node c.index-progress.result.now 0 plow in
    let y_is : y ≡ get_or p c.args.node 0 + 1 = ap (λ n. n + 1) at in
    record {
      visit = passed_visit g p v.path.items v.order.items r.visit c.args.place c.args.node r.at r.node r.more r.behind y y_is;
      further = further_set p c.args.node y (omega (arith, y_is));
      less = left_less g p c.args.node y r.visit.len low y_is (omega (arith, r.more));
    }
