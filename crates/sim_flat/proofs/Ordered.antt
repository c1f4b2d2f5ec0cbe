-- An order of the graph of nets is one of the nets, and it has no cycle.
use Rattle.std.proofs.Common.{◌≡◌, ℕ, suc, ◌<◌, true, List, length, get_or, refl, sym, subst}
use Rattle.std.specs.Prelude.{◌↔◌}
use Rattle.vlog_tree.specs.Form.{ModuleTree}
use Rattle.vlog_tree.specs.Grounded.{Walk}
use Rattle.tapa_base.specs.Lists.{Has, Chain, one, more}
use Rattle.vlog_tree.specs.Flattened.{FlatNet, parts}
use Rattle.vlog_tree.proofs.Grounds.{no_loop}
use Rattle.number_graph.specs.Graphs.{Adjacency, Steps, IsOrder}
use Rattle.vlog_run_laws.proofs.runs.Settled.{design_settles}
use Rattle.sim_flat.specs.declared.flat.Flat.{Flat}
use Rattle.sim_flat.specs.Flat.{IsFlat, HasNumber}
use Rattle.sim_flat.specs.Order.{IsNetOrder}
use Rattle.sim_flat.specs.Edges.{all_edges}
use Rattle.sim_flat.proofs.Standing.{net_single, number_low}
use Rattle.sim_flat.proofs.Edged.{IsPartEdge, edges_sound, edges_complete}

module _ (ms : List ModuleTree) (top : ModuleTree) (f : Flat) (flat : IsFlat ms top f) where
  -- the numbers of all edges are those of nets
  pub edges_low : (j k : ℕ) → Has (all_edges ms f top) (j, k) → (j < length f.owners.items) × (k < length f.owners.items)
  edges_low j k h = let e : IsPartEdge ms top f j k = edges_sound ms top f flat j k h in (number_low ms top f flat j e.net e.from, number_low ms top f flat k e.part_net e.to)

  module _ (g : Adjacency) (len : length g ≡ length f.owners.items) (edges : (j k : ℕ) → Steps g j k ↔ Has (all_edges ms f top) (j, k)) where
    record IsWalk (j k : ℕ) : Type 0 where
      from : FlatNet
      to : FlatNet
      from_number : HasNumber ms f j from
      to_number : HasNumber ms f k to
      steps : ℕ
      walk : Walk (parts ms top true) (suc steps) from to

    walks : {j k : ℕ} → Chain (Steps g) j k → IsWalk j k
    walks (one {a = j} {b = k} h) =
        let e : IsPartEdge ms top f j k = edges_sound ms top f flat j k ((edges j k).0 h) in
        record { from = e.net; to = e.part_net; from_number = e.from; to_number = e.to; steps = 0; walk = (e.part_net, e.part, refl) }
    walks (more {a = j} {c = k} m h r) =
        let e : IsPartEdge ms top f j m = edges_sound ms top f flat j m ((edges j m).0 h) in
        let w : IsWalk m k = walks r in
        let same : w.from ≡ e.part_net = net_single ms top f flat m w.from e.part_net w.from_number e.to in
        record {
          from = e.net;
          to = w.to;
          from_number = e.from;
          to_number = w.to_number;
          steps = suc w.steps;
          walk = (e.part_net, e.part, subst (λ (n : FlatNet). Walk (parts ms top true) (suc w.steps) n w.to) same w.walk);
        }

    pub no_cycle : (k : ℕ) → Chain (Steps g) k k → ⊥
    no_cycle k c =
        let w : IsWalk k k = walks c in
        let same : w.to ≡ w.from = net_single ms top f flat k w.to w.from w.to_number w.from_number in
        no_loop (parts ms top true) (design_settles ms flat.top_place flat.design top flat.top_at w.from) (w.steps, subst (λ (n : FlatNet). Walk (parts ms top true) (suc w.steps) w.from n) same w.walk)

    pub net_order : (order : List ℕ) → IsOrder g order → IsNetOrder ms top f order
    net_order order o = record {
      low = λ i h. subst (λ n. get_or order i 0 < n) len (o.parts.low i h);
      once = λ i h. o.parts.once i h;
      all = λ number h. o.all number (subst (λ n. number < n) (sym len) h);
      parts_first = λ i number n part h from to is. o.parts.first i number h ((edges (get_or order i 0) number).1 (edges_complete ms top f flat (get_or order i 0) number n part from to is));
    }
