use Rattle.std.proofs.Common.{◌≡◌, ℕ, ◌<◌, ◌^◌, List, length, ap, subst, ◌∙◌, arith}
use Rattle.std.specs.Prelude.{◌↔◌}
use Rattle.vlog_tree.specs.Form.{ModuleTree}
use Rattle.tapa_base.specs.Lists.{Has}
use Rattle.number_graph.specs.declared.order.Order.{Order}
use Rattle.number_graph.specs.Graphs.{Steps}
use Rattle.number_graph.specs.Orders.{IsAnswer}
use Rattle.sim_flat.specs.Edges.{all_edges}
use Rattle.sim_flat.proofs.Standing.{tables_fit}
use Rattle.sim_flat.proofs.Ordered.{edges_low, no_cycle, net_order}
use Rattle.sim_flat.proofs.order.order_of_nets.Goals as goal

pub edges_of-requires : goal.edges_of-requires
edges_of-requires c =
    let f = c.args.flat.now in
    let fits : length f.owners.items < 2 ^ 64 = omega arith in
    tables_fit c.args.design.now.modules c.top.result.now f (c.requires c.top.result.now c.top.ensures) fits

pub of-requires : goal.of-requires
of-requires c = λ j k h.
    let ms = c.args.design.now.modules in
    let f = c.args.flat.now in
    let top = c.top.result.now in
    let edges : c.deref.result.now ≡ all_edges ms f top = c.deref.ensures.value ∙ c.in_ok-edges.ensures ∙ ap (λ (l : List ModuleTree). all_edges l f top) c.modules.ensures.value in
    let r = edges_low ms top f (c.requires top c.top.ensures) j k (subst (λ (l : List (ℕ × ℕ)). Has l (j, k)) edges h) in
    (omega (arith, r.0), omega (arith, r.1))

pub returns-in-PartsFirst : goal.returns-in-PartsFirst
returns-in-PartsFirst c = λ m at.
    let ms = c.args.design.now.modules in
    let f = c.args.flat.now in
    let g = c.in_ok-graph.graph in
    let same : c.top.result.now ≡ m = cc (c.top.ensures, at) in
    let all : c.deref.result.now ≡ all_edges ms f m = c.deref.ensures.value ∙ c.in_ok-edges.ensures ∙ ap (λ (l : List ModuleTree). all_edges l f c.top.result.now) c.modules.ensures.value ∙ ap (λ (t : ModuleTree). all_edges ms f t) same in
    let edges = subst (λ (l : List (ℕ × ℕ)). (j k : ℕ) → Steps g j k ↔ Has l (j, k)) all c.in_ok-graph.ensures.edges in
    let len : length g ≡ length f.owners.items = omega (arith, c.in_ok-graph.ensures.len) in
    net_order ms m f (c.requires m at) g len edges c.in-PartsFirst.order.items (subst (λ (o : Order). IsAnswer g o) c.in-PartsFirst.is c.in_ok-order.ensures)

pub returns : goal.returns
returns c = λ m at.
    let ms = c.args.design.now.modules in
    let f = c.args.flat.now in
    let g = c.in_ok-graph.graph in
    let same : c.top.result.now ≡ m = cc (c.top.ensures, at) in
    let all : c.deref.result.now ≡ all_edges ms f m = c.deref.ensures.value ∙ c.in_ok-edges.ensures ∙ ap (λ (l : List ModuleTree). all_edges l f c.top.result.now) c.modules.ensures.value ∙ ap (λ (t : ModuleTree). all_edges ms f t) same in
    let edges = subst (λ (l : List (ℕ × ℕ)). (j k : ℕ) → Steps g j k ↔ Has l (j, k)) all c.in_ok-graph.ensures.edges in
    let len : length g ≡ length f.owners.items = omega (arith, c.in_ok-graph.ensures.len) in
    let found = subst (λ (o : Order). IsAnswer g o) c.in-Cycle.is c.in_ok-order.ensures in
    absurd (no_cycle ms m f (c.requires m at) g len edges c.in-Cycle.field-0 found.1)
