use Rattle.std.proofs.Common.{refl}
use Rattle.vlog_tree.specs.Environment.{shape_of, streams_of}
use Rattle.vlog_design.specs.Environments.{environment_of}
use Rattle.cycle_sim.specs.Simulators.{sim_of}
use Rattle.sim_output.specs.Reports.{last_of}
use Rattle.sim_output.proofs.Simulating.{simulated_so}
use Rattle.sim_output.proofs.done.done_cycle.Goals as goal

pub returns : goal.returns
returns c =
    let top = c.valid.ensures.0 in
    let carried = c.in_ok-carried.carried in (
      _,
      simulated_so c.args.design (environment_of c.args.around.now) c.args.limit top c.valid.ensures.1 c.modules-modules.ensures.design (c.requires.fits top c.valid.ensures.1) (sim_of c.in_ok-sim.sim) c.in_ok-sim.ensures (sim_of c.run_cycles.new.sim) carried.done_at carried.tokens.items c.in_ok-carried.ensures.done c.in_ok-carried.ensures.tokens c.in_ok-carried.ensures.later
          (streams_of top) (shape_of top).memories refl refl carried.tokens.items (last_of c.args.limit carried.done_at) refl refl,
    )
