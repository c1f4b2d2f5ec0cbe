use Rattle.std.proofs.Common.{◌<◌, ℕ, List, get_or, take, sym, subst, ◌∙◌}
use Rattle.std.specs.Prelude.{◌↔◌}
use Rattle.std.proofs.lemmas.List.{take_more}
use Rattle.tapa_base.specs.Lists.{Has}
use Rattle.number_graph.specs.Graphs.{targets_of}
use Rattle.number_graph.proofs.Numbers.{pair_at}
use Rattle.number_graph.proofs.Rows.{one_more}
use Rattle.number_graph.proofs.graph.rows_with.Goals as goal

pub push_target-requires : goal.push_target-requires
push_target-requires c =
    let p = get_or c.args.edges.now c.loop-edge.edge-index (0, 0) in
    subst (λ n. p.0 < n) (sym c.loop-edge.invariant.len) ((c.requires p.0 p.1 (pair_at c.args.edges.now c.loop-edge.edge-index c.loop-edge-test.true)).0)

pub loop-edge-preserved : goal.loop-edge-preserved
loop-edge-preserved c =
    let i = c.loop-edge.edge-index in
    let edges = c.args.edges.now in
    let p = get_or edges i (0, 0) in
    let ens = c.in_ok-push_target.ensures in
    record {
      len = ens.len ∙ c.loop-edge.invariant.len;
      edges = λ j k. subst (λ (l : List (ℕ × ℕ)). Has (targets_of c.push_target.new.rows.items j) k ↔ Has l (j, k)) (sym (take_more edges i (0, 0) c.loop-edge-test.true))
          (one_more (take i edges) (targets_of c.loop-edge.rows.items) (targets_of c.push_target.new.rows.items) p.0 p.1 c.loop-edge.invariant.edges ens.at ens.others j k);
    }
