use Rattle.std.proofs.Common.{arith, ◌≡◌, get_or, slice_set, sym, subst}
use Rattle.number_graph.specs.Visits.{IsVisit}
use Rattle.number_graph.proofs.Visits.{begun_visit, left_less, further_set}
use Rattle.number_graph.proofs.order.begin.Goals as goal

pub returns-clause-goes : goal.returns-clause-goes
returns-clause-goes c =
    let g = c.args.graph.now in
    let v = c.args.visit.now in
    let p = v.progress.items in
    let r = c.requires in
    let zero_is : get_or p c.args.node 0 ≡ 0 = r.new in
    record {
      visit = subst (λ l. IsVisit g (slice_set p c.args.node 1) l v.order.items) (sym c.in_ok-push.ensures.items) (begun_visit g p v.path.items v.order.items r.visit c.args.node r.low r.new r.follows);
      further = further_set p c.args.node 1 (omega arith);
      less = left_less g p c.args.node 1 r.visit.len r.low (omega arith) (omega arith);
    }
