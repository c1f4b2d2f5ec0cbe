use Rattle.std.proofs.Common.{[], ◌∷◌, map, refl}
use Rattle.vlog_comb_loops.specs.Summaries.{port_pair}
use Rattle.vlog_net_graph.proofs.Growing.{so_far_start, so_far_step, so_far_end}
use Rattle.vlog_comb_loops.proofs.through.add_pairs.Goals as goal

pub loop-pair-init : goal.loop-pair-init
loop-pair-init c = so_far_start (map (port_pair c.args.instance.now)) c.args.pairs.now c.args.g.now

pub loop-pair-preserved : goal.loop-pair-preserved
loop-pair-preserved c =
    so_far_step (map (port_pair c.args.instance.now)) c.args.pairs.now c.loop-pair.pair-index c.pair-item.result c.args.g.now c.loop-pair.g c.add_pair.new.g (port_pair c.args.instance.now c.pair-item.result ∷ []) (λ rest. refl)
    c.loop-pair-test.true c.pair-item.is c.loop-pair.invariant c.in_ok-add_pair.ensures

pub returns : goal.returns
returns c = so_far_end (map (port_pair c.args.instance.now)) c.args.pairs.now c.loop-pair.pair-index c.args.g.now c.loop-pair.g refl c.loop-pair-test.false c.loop-pair.invariant
