use Rattle.std.proofs.Common.{inr, sym, subst, ◌∙◌}
use Rattle.vlog_design.specs.Environments.{environment_of}
use Rattle.cycle_sim.specs.Simulators.{sim_of}
use Rattle.sim_output.specs.declared.run.DesignEnd.{DesignEnd}
use Rattle.sim_output.specs.Ending.{EndsSo}
use Rattle.sim_output.specs.Reports.{IsSimulated}
use Rattle.sim_output.proofs.Simulating.{simulated_so, ends}
use Rattle.tapa_base.proofs.Got.{on_err}
use Rattle.sim_output.proofs.run.run_design.Goals as goal

pub returns-in_err-show-clause-part : goal.returns-in_err-show-clause-part
returns-in_err-show-clause-part g c =
    let top = c.valid.ensures.0 in
    let is = simulated_so c.args.design (environment_of c.args.around.now) c.args.limit top c.valid.ensures.1 c.modules-modules.ensures.design (c.requires.fits top c.valid.ensures.1) (sim_of c.in_ok-sim.sim) c.in_ok-sim.ensures (sim_of c.run_cycles.new.sim) c.in_ok-carried.carried.done_at c.in_ok-carried.carried.tokens.items c.in_ok-carried.ensures.done c.in_ok-carried.ensures.tokens c.in_ok-carried.ensures.later
    c.deref.result.now c.deref-3.result.now (c.deref.ensures.value ∙ c.in_ok-streams.ensures top c.valid.ensures.1) (c.deref-3.ensures.value ∙ (c.in_ok-shape.ensures top c.valid.ensures.1).1)
    c.deref-2.result.now c.last_after.result c.deref-2.ensures.value c.last_after.ensures in
    on_err c.from_residual-in_err-show.result (inr (c.in_ok-carried.carried.done_at, _, is, c.in_err-show.ensures.part))

pub returns-in_err-show-clause-front : goal.returns-in_err-show-clause-front
returns-in_err-show-clause-front g c =
    let top = c.valid.ensures.0 in
    let is = simulated_so c.args.design (environment_of c.args.around.now) c.args.limit top c.valid.ensures.1 c.modules-modules.ensures.design (c.requires.fits top c.valid.ensures.1) (sim_of c.in_ok-sim.sim) c.in_ok-sim.ensures (sim_of c.run_cycles.new.sim) c.in_ok-carried.carried.done_at c.in_ok-carried.carried.tokens.items c.in_ok-carried.ensures.done c.in_ok-carried.ensures.tokens c.in_ok-carried.ensures.later
    c.deref.result.now c.deref-3.result.now (c.deref.ensures.value ∙ c.in_ok-streams.ensures top c.valid.ensures.1) (c.deref-3.ensures.value ∙ (c.in_ok-shape.ensures top c.valid.ensures.1).1)
    c.deref-2.result.now c.last_after.result c.deref-2.ensures.value c.last_after.ensures in
    λ e. (c.in_ok-carried.carried.done_at, _, is, c.in_err-show.ensures.part)

pub returns-clause-end : goal.returns-clause-end
returns-clause-end g c =
    let top = c.valid.ensures.0 in
    let env = environment_of c.args.around.now in
    let old = g.O.Sink.contents c.args.out.now in
    let new = g.O.Sink.contents c.show.new.out in
    let done_at = c.in_ok-carried.carried.done_at in
    let is = simulated_so c.args.design env c.args.limit top c.valid.ensures.1 c.modules-modules.ensures.design (c.requires.fits top c.valid.ensures.1) (sim_of c.in_ok-sim.sim) c.in_ok-sim.ensures (sim_of c.run_cycles.new.sim) done_at c.in_ok-carried.carried.tokens.items c.in_ok-carried.ensures.done c.in_ok-carried.ensures.tokens c.in_ok-carried.ensures.later
    c.deref.result.now c.deref-3.result.now (c.deref.ensures.value ∙ c.in_ok-streams.ensures top c.valid.ensures.1) (c.deref-3.ensures.value ∙ (c.in_ok-shape.ensures top c.valid.ensures.1).1)
    c.deref-2.result.now c.last_after.result c.deref-2.ensures.value c.last_after.ensures in
    subst (λ (e : DesignEnd). EndsSo IsSimulated c.args.design env c.args.limit old new e) (sym c.end_after.ensures) (ends IsSimulated c.args.design env c.args.limit old new done_at _ is c.in_ok-show.ensures.whole)
