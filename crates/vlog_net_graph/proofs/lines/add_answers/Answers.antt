use Rattle.std.proofs.Common.{List, map, refl}
use Rattle.std.specs.List.{flat_map}
use Rattle.vlog_tree.specs.declared.table.Declaration.{Declaration}
use Rattle.vlog_tree.specs.Loops.{answer_edges}
use Rattle.vlog_net_graph.specs.Merged.{under}
use Rattle.vlog_net_graph.proofs.Growing.{so_far_start, so_far_step, so_far_end}
use Rattle.tapa_base.proofs.Got.{map_append as map-append}
use Rattle.vlog_net_graph.proofs.lines.add_answers.Goals as goal

pub loop-d-init : goal.loop-d-init
loop-d-init c = so_far_start (λ (xs : List Declaration). map (under c.args.front.now) (flat_map (answer_edges c.args.ports.now) xs)) c.args.names.now c.args.g.now

pub loop-d-preserved : goal.loop-d-preserved
loop-d-preserved c =
    so_far_step (λ (xs : List Declaration). map (under c.args.front.now) (flat_map (answer_edges c.args.ports.now) xs)) c.args.names.now c.loop-d.d-index c.d-item.result c.args.g.now c.loop-d.g c.add_answer.new.g (map (under c.args.front.now) (answer_edges c.args.ports.now c.d-item.result)) (λ rest. map-append (under c.args.front.now) (answer_edges c.args.ports.now c.d-item.result) (flat_map (answer_edges c.args.ports.now) rest))
    c.loop-d-test.true c.d-item.is c.loop-d.invariant c.in_ok-add_answer.ensures

pub returns : goal.returns
returns c = so_far_end (λ (xs : List Declaration). map (under c.args.front.now) (flat_map (answer_edges c.args.ports.now) xs)) c.args.names.now c.loop-d.d-index c.args.g.now c.loop-d.g refl c.loop-d-test.false c.loop-d.invariant
