use Rattle.std.proofs.Common.{◌≡◌, ℕ, List, map, subst, ◌∙◌, arith}
use Rattle.std.specs.Prelude.{◌↔◌}
use Rattle.tapa_base.specs.Lists.{Has}
use Rattle.number_graph.specs.Graphs.{Steps}
use Rattle.task_graph.proofs.Walks.{ends, ends_below, mark_reached, transitive}
use Rattle.task_graph.proofs.reach.reach_rows.Goals as goal

pub of-requires : goal.of-requires
of-requires c = λ j k h.
    let same : c.deref.result.now ≡ map ends c.args.edges.now = c.deref.ensures.value ∙ c.in_ok-ends.ensures in
    ends_below c.args.count c.args.edges.now c.requires j k (subst (λ (l : List (ℕ × ℕ)). Has l (j, k)) same h)

pub returns-clause-reached : goal.returns-clause-reached
returns-clause-reached c =
    let g = c.in_ok-graph.graph in
    let edges = c.args.edges.now in
    let same : c.deref.result.now ≡ map ends edges = c.deref.ensures.value ∙ c.in_ok-ends.ensures in
    mark_reached edges g (λ j k. subst (λ (l : List (ℕ × ℕ)). Steps g j k ↔ Has l (j, k)) same (c.in_ok-graph.ensures.edges j k))
    c.in_ok-rows.rows.items (λ i k l. c.in_ok-rows.ensures.marks i k (let n = c.in_ok-rows.ensures.len in omega arith))

pub returns-clause-transitive : goal.returns-clause-transitive
returns-clause-transitive c =
    let g = c.in_ok-graph.graph in
    let edges = c.args.edges.now in
    let same : c.deref.result.now ≡ map ends edges = c.deref.ensures.value ∙ c.in_ok-ends.ensures in
    transitive c.in_ok-rows.rows.items edges
    (mark_reached edges g (λ j k. subst (λ (l : List (ℕ × ℕ)). Steps g j k ↔ Has l (j, k)) same (c.in_ok-graph.ensures.edges j k))
    c.in_ok-rows.rows.items (λ i k l. c.in_ok-rows.ensures.marks i k (let n = c.in_ok-rows.ensures.len in omega arith)))
