use Rattle.std.proofs.Common.{◌≡◌, ◌<◌, length, List, ℕ, true, false, refl, subst}
use Rattle.vlog_tree.specs.Loops.{Reaches}
use Rattle.tapa_base.specs.Lists.{Chain}
use Rattle.vlog_scope.specs.NameTable.{value_in}
use Rattle.number_graph.specs.declared.order.Order.{Order}
use Rattle.number_graph.specs.Graphs.{Steps, IsOrder}
use Rattle.number_graph.specs.Orders.{IsAnswer}
use Rattle.number_graph.proofs.Visits.{no_cycle}
use Rattle.vlog_net_graph.specs.Names.{IsNumbered}
use Rattle.vlog_net_graph.proofs.Numbered.{some_loop, returned}
use Rattle.number_graph.proofs.Marking.{differ}
use Rattle.vlog_net_graph.proofs.names.GraphDraft.is_loopless.Goals as goal

pub returns-in-PartsFirst : goal.returns-in-PartsFirst
returns-in-PartsFirst c = λ edges draft.
    let s = c.args.self.now in
    let graph = c.in_ok-graph.graph in
    let g : IsNumbered edges (value_in s.numbers) (Steps graph) (length graph) = c.in_ok-graph.ensures edges draft in
    let order : IsOrder graph c.in-PartsFirst.field-0.items = subst (λ (x : Order). IsAnswer graph x) c.in-PartsFirst.is c.in_ok-order.ensures in
    let none : (x : List ℕ) → Reaches edges x x → ⊥ = λ x r. let b = returned edges (value_in s.numbers) (Steps graph) _ g x r in no_cycle graph c.in-PartsFirst.field-0.items order b.0 b.2 in
    (λ _. none, λ _. refl)

pub returns : goal.returns
returns c = λ edges draft.
    let s = c.args.self.now in
    let graph = c.in_ok-graph.graph in
    let g : IsNumbered edges (value_in s.numbers) (Steps graph) (length graph) = c.in_ok-graph.ensures edges draft in
    let k : (c.in-Cycle.field-0 < length graph) × Chain (Steps graph) c.in-Cycle.field-0 c.in-Cycle.field-0 = subst (λ (x : Order). IsAnswer graph x) c.in-Cycle.is c.in_ok-order.ensures in
    let b = some_loop edges (value_in s.numbers) (Steps graph) _ g c.in-Cycle.field-0 k.1 in
    (λ h. absurd (differ h), λ none. absurd (none b.0 b.1))
