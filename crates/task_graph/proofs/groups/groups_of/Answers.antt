use Rattle.std.proofs.Common.{◌≡◌, List, Bool, Vec, Global, length, ap, subst, sym, ◌∙◌, arith}
use Rattle.task_graph.specs.Edges.{EndBelow}
use Rattle.task_graph.specs.Reach.{AreTransitive, MarkReached}
use Rattle.task_graph.proofs.Numbering.{are_groups}
use Rattle.task_graph.proofs.Ranks.{has_rank}
use Rattle.task_graph.proofs.groups.groups_of.Goals as goal

pub grouped-requires-clause-transitive : goal.grouped-requires-clause-transitive
grouped-requires-clause-transitive c = subst (λ (l : List (Vec Bool Global)). AreTransitive l) (sym c.deref.ensures.value) c.in_ok-rows.ensures.transitive

pub returns-clause-grouped : goal.returns-clause-grouped
returns-clause-grouped c =
    are_groups c.deref.result.now c.in_ok-groups.groups.numbers.items c.args.edges.now c.in_ok-groups.ensures.len
    (subst (λ (l : List (Vec Bool Global)). MarkReached l c.args.edges.now) (sym c.deref.ensures.value) c.in_ok-rows.ensures.reached)
    c.in_ok-groups.ensures.groups.same

pub returns-clause-ranked : goal.returns-clause-ranked
returns-clause-ranked c =
    let rows = c.deref.result.now in
    let e = c.deref.ensures.value in
    let n : length rows ≡ c.args.count = ap length e ∙ c.in_ok-rows.ensures.len in
    has_rank rows c.in_ok-groups.groups.numbers.items c.in_ok-groups.groups.count c.args.edges.now
    (let f = c.requires.few in omega arith) c.in_ok-groups.ensures.len c.in_ok-groups.ensures.groups.numbered c.in_ok-groups.ensures.groups.same
    (subst (λ (l : List (Vec Bool Global)). AreTransitive l) (sym e) c.in_ok-rows.ensures.transitive)
    (subst (λ (l : List (Vec Bool Global)). MarkReached l c.args.edges.now) (sym e) c.in_ok-rows.ensures.reached)
    (subst (λ k. EndBelow k c.args.edges.now) (sym n) c.requires.ends)
