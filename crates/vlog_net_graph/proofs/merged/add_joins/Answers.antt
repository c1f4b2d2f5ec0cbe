use Rattle.std.proofs.Common.{[], ◌∷◌, map, refl}
use Rattle.vlog_net_graph.specs.Merged.{join}
use Rattle.vlog_net_graph.proofs.Growing.{so_far_start, so_far_step, so_far_end}
use Rattle.vlog_net_graph.proofs.merged.add_joins.Goals as goal

pub loop-d-init : goal.loop-d-init
loop-d-init c = so_far_start (map (join c.args.ports.now c.args.m.now (c.args.k.now, c.args.instance.now))) c.args.names.now c.args.g.now

pub loop-d-preserved : goal.loop-d-preserved
loop-d-preserved c =
    so_far_step (map (join c.args.ports.now c.args.m.now (c.args.k.now, c.args.instance.now))) c.args.names.now c.loop-d.d-index c.d-item.result c.args.g.now c.loop-d.g c.add_join.new.g
    (join c.args.ports.now c.args.m.now (c.args.k.now, c.args.instance.now) c.d-item.result ∷ []) (λ rest. refl) c.loop-d-test.true c.d-item.is c.loop-d.invariant c.in_ok-add_join.ensures

pub returns : goal.returns
returns c =
    so_far_end (map (join c.args.ports.now c.args.m.now (c.args.k.now, c.args.instance.now))) c.args.names.now c.loop-d.d-index c.args.g.now c.loop-d.g refl c.loop-d-test.false c.loop-d.invariant
