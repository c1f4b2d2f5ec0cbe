use Rattle.std.proofs.Common.{rules, arith, ◌≡◌, ◌<◌, ◌+◌, ◌-◌, ◌++◌, ◌∷◌, [], ℕ, List, length, get_or, take, slice_set, sym, ap, subst, ◌∙◌}
use Rattle.std.proofs.lemmas.List.{take_at, length_push}
use Rattle.std.specs.Prelude.{vec_len}
use Rattle.number_graph.specs.Visits.{IsVisit}
use Rattle.number_graph.proofs.Visits.{ended_visit, last_node_low, left_less, further_set}
use Rattle.number_graph.proofs.order.finish.Goals as goal

pub returns : goal.returns
returns c =
    let g = c.args.graph.now in
    let v = c.args.visit.now in
    let p = v.progress.items in
    let r = c.requires in
    let node = c.args.node in
    let rest = r.last.0 in
    let order = v.order.items in
    let y = length c.targets.result.now + 2 in
    let len : length c.targets.result.now ≡ length (get_or g node []) = ap length c.targets.ensures in
    let y_is : y ≡ get_or p node 0 + 1 = omega (arith, len, r.full) in
    let visit : IsVisit g p (rest ++ node ∷ []) order = subst (λ l. IsVisit g p l order) r.last.1 r.visit in
    let low : node < length g = last_node_low g p rest order node visit r.full y y_is in
    let counted : vec_len v.path ≡ length v.path.items = search rules in
    let long : length v.path.items ≡ length rest + 1 = ap length r.last.1 ∙ length_push rest node in
    let one_less : length rest ≡ vec_len v.path - 1 = omega (arith, counted, long) in
    let popped : c.pop.new.self.items ≡ rest = c.pop.ensures.rest ∙ ap (λ (l : List ℕ). take (vec_len v.path - 1) l) r.last.1 ∙ take_at rest (node ∷ []) (vec_len v.path - 1) one_less in
    record {
      visit = subst (λ l. IsVisit g (slice_set p node y) l c.push.new.self.items) (sym popped) (subst (λ l. IsVisit g (slice_set p node y) rest l) (sym c.in_ok-push.ensures.items) (ended_visit g p rest order node visit r.full y y_is));
      further = further_set p node y (omega (arith, y_is));
      less = left_less g p node y r.visit.len low y_is (omega (arith, r.full));
    }
