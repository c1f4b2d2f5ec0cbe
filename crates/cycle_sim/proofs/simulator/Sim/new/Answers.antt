use Rattle.std.proofs.Common.{sym, ap, subst}
use Rattle.vlog_design.specs.Designs.{DesignTree, TopOf}
use Rattle.vlog_design.specs.Environments.{environment_of, lists_of}
use Rattle.cycle_sim.specs.Told.{TellsEachRun}
use Rattle.cycle_sim.specs.Wholes.{sim_tree}
use Rattle.cycle_sim.proofs.simulator.Sim.new.Goals as goal

pub returns : goal.returns
returns c =
    let p = c.in_ok-parts.parts in
    let s = c.in_ok-state.state in
    let env = environment_of c.args.around.now in
    let same = c.in_ok-parts.ensures.design in
    record {
      same = same;
      cycle = c.in_ok-state.ensures.cycle;
      ready = c.in_ok-parts.ensures.ready;
      told = λ m at fits.
          subst (λ (d : DesignTree). TellsEachRun d.modules m env c.args.fill (sim_tree p s).told) same
          (c.in_ok-state.ensures.told m env (subst (λ (d : DesignTree). TopOf d m) (sym same) at) fits (sym c.in_ok-parts.ensures.scalars) (ap lists_of (sym c.deref.ensures.value)));
    }
