use Rattle.std.proofs.Common.{◌≡◌, ◌<◌, ℕ, length, List, true, false, refl, sym, subst}
use Rattle.std.specs.Prelude.{◌↔◌, IfOk}
use Rattle.vlog_tree.specs.Loops.{Reaches}
use Rattle.tapa_base.specs.Lists.{Chain}
use Rattle.vlog_scope.specs.NameTable.{value_in}
use Rattle.number_graph.specs.declared.order.Order.{Order}
use Rattle.number_graph.specs.Graphs.{Adjacency, Steps, IsOrder}
use Rattle.number_graph.specs.Orders.{IsAnswer}
use Rattle.number_graph.proofs.Visits.{no_cycle}
use Rattle.vlog_net_graph.proofs.Numbered.{some_loop, returned}
use Rattle.vlog_net_graph.proofs.names.NamedGraph.is_loopless.Goals as goal
use Rattle.vlog_net_graph.proofs.names.NamedGraph.is_loopless.Goals.{in-PartsFirst, in-Cycle}
use Rattle.number_graph.proofs.Marking.{differ}

pub returns : goal.returns
returns c = λ edges g.
    let s = c.args.self.now in
    let answer : IsAnswer s.graph c.in_ok-order.order = subst (λ (a : Adjacency). IsAnswer a c.in_ok-order.order) c.graph.ensures c.in_ok-order.ensures in
    elim c.match-order.branch [
      | in-PartsFirst w ↦ (
          let o : IsOrder s.graph w.in-PartsFirst.field-0.items = subst (λ (x : Order). IsAnswer s.graph x) w.in-PartsFirst.is answer in
          let none : (x : List ℕ) → Reaches edges x x → ⊥ = λ x r. let b = returned edges (value_in s.numbers) (Steps s.graph) _ g x r in no_cycle s.graph w.in-PartsFirst.field-0.items o b.0 b.2 in
          subst (λ r. IfOk r (λ b. (b ≡ true) ↔ ((x : List ℕ) → Reaches edges x x → ⊥))) (sym w.result-is) (λ _. none, λ _. refl))
      | in-Cycle w ↦ (
          let k : (w.in-Cycle.field-0 < length s.graph) × Chain (Steps s.graph) w.in-Cycle.field-0 w.in-Cycle.field-0 = subst (λ (x : Order). IsAnswer s.graph x) w.in-Cycle.is answer in
          let b = some_loop edges (value_in s.numbers) (Steps s.graph) _ g w.in-Cycle.field-0 k.1 in
          subst (λ r. IfOk r (λ b. (b ≡ true) ↔ ((x : List ℕ) → Reaches edges x x → ⊥))) (sym w.result-is) (λ h. absurd (differ h), λ none. absurd (none b.0 b.1)))
    ]
