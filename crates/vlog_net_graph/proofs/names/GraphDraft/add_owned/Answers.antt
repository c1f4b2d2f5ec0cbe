use Rattle.std.proofs.Common.{◌++◌, ◌∷◌, [], ℕ, List, sym, subst, length}
use Rattle.tapa_base.specs.Lists.{Has}
use Rattle.vlog_scope.specs.NameTable.{value_in}
use Rattle.vlog_net_graph.specs.Names.{IsNumbered}
use Rattle.vlog_net_graph.proofs.Numbered.{numbered_edge}
use Rattle.vlog_net_graph.proofs.names.GraphDraft.add_owned.Goals as goal

pub returns-clause-graph : goal.returns-clause-graph
returns-clause-graph c = λ edges g.
    let two = c.in_ok-b.ensures.graph edges (c.in_ok-a.ensures.graph edges g) in
    let d = c.number_of-2.new.self in
    let is_a = c.in_ok-b.ensures.extended c.args.from.items c.in_ok-a.a c.in_ok-a.ensures.number in
    subst (λ (l : List (ℕ × ℕ)). IsNumbered (edges ++ (c.args.from.items, c.args.to.items) ∷ []) (value_in d.numbers) (λ i m. Has l (i, m)) (length d.names.items)) (sym c.in_ok-push.ensures.items)
    (numbered_edge edges (value_in d.numbers) d.edges.items (length d.names.items) c.args.from.items c.args.to.items c.in_ok-a.a c.in_ok-b.b two is_a c.in_ok-b.ensures.number)

pub returns-clause-listed : goal.returns-clause-listed
returns-clause-listed c = λ h. c.in_ok-b.ensures.listed (c.in_ok-a.ensures.listed h)
