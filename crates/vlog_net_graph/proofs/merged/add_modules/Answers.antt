use Rattle.std.proofs.Common.{refl}
use Rattle.std.specs.List.{flat_map}
use Rattle.std.specs.Option.{option_copied}
use Rattle.vlog_net_graph.specs.Merged.{is_named, module_merged}
use Rattle.vlog_net_graph.proofs.Growing.{so_far_start, so_far_step, so_far_end}
use Rattle.vlog_net_graph.proofs.merged.add_modules.Goals as goal

pub loop-m-init : goal.loop-m-init
loop-m-init c = so_far_start (flat_map (module_merged c.args.library.now (is_named (option_copied c.args.root)))) c.args.modules.now c.args.g.now

pub loop-m-preserved : goal.loop-m-preserved
loop-m-preserved c =
    so_far_step (flat_map (module_merged c.args.library.now (is_named (option_copied c.args.root)))) c.args.modules.now c.loop-m.m-index c.m-item.result c.args.g.now c.loop-m.g c.add_module.new.g
    (module_merged c.args.library.now (is_named (option_copied c.args.root)) c.m-item.result) (λ rest. refl) c.loop-m-test.true c.m-item.is c.loop-m.invariant c.in_ok-add_module.ensures

pub returns : goal.returns
returns c =
    so_far_end (flat_map (module_merged c.args.library.now (is_named (option_copied c.args.root)))) c.args.modules.now c.loop-m.m-index c.args.g.now c.loop-m.g refl c.loop-m-test.false c.loop-m.invariant
