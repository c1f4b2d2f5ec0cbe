use Rattle.std.proofs.Common.{◌≡◌, inr, sym, subst}
use Rattle.vlog_design.specs.Environments.{environment_of}
use Rattle.cycle_sim.specs.Simulators.{sim_of}
use Rattle.sim_output.specs.declared.run.DesignEnd.{DesignEnd}
use Rattle.sim_output.specs.Ending.{EndsSo}
use Rattle.sim_output.specs.Dumped.{IsDumped}
use Rattle.sim_output.proofs.Designs.{ended_so, has_front}
use Rattle.tapa_base.proofs.Got.{on_err}
use Rattle.sim_output.proofs.dump_run.dump_design.Goals as goal

pub returns-in_err-done_at-clause-part : goal.returns-in_err-done_at-clause-part
returns-in_err-done_at-clause-part g c =
    let top = c.valid.ensures.0 in
    let front = has_front c.args.design (environment_of c.args.around.now) c.args.limit top c.valid.ensures.1 c.modules-modules.ensures.design (c.requires.fits top c.valid.ensures.1) (sim_of c.in_ok-sim.sim) c.in_ok-sim.ensures (g.O.Sink.contents c.args.out.now) (g.O.Sink.contents c.write_vcd.new.out) c.in_err-done_at.ensures.part in
    on_err c.from_residual-in_err-done_at.result (inr front)

pub returns-in_err-done_at-clause-front : goal.returns-in_err-done_at-clause-front
returns-in_err-done_at-clause-front g c =
    let top = c.valid.ensures.0 in
    let front = has_front c.args.design (environment_of c.args.around.now) c.args.limit top c.valid.ensures.1 c.modules-modules.ensures.design (c.requires.fits top c.valid.ensures.1) (sim_of c.in_ok-sim.sim) c.in_ok-sim.ensures (g.O.Sink.contents c.args.out.now) (g.O.Sink.contents c.write_vcd.new.out) c.in_err-done_at.ensures.part in
    λ e. front

pub returns-clause-end : goal.returns-clause-end
returns-clause-end g c =
    let top = c.valid.ensures.0 in
    let env = environment_of c.args.around.now in
    let old = g.O.Sink.contents c.args.out.now in
    let new = g.O.Sink.contents c.write_vcd.new.out in
    subst (λ (e : DesignEnd). EndsSo IsDumped c.args.design env c.args.limit old new e) (sym c.end_after.ensures)
    (ended_so c.args.design env c.args.limit top c.valid.ensures.1 c.modules-modules.ensures.design (c.requires.fits top c.valid.ensures.1) (sim_of c.in_ok-sim.sim) c.in_ok-sim.ensures old new c.in_ok-done_at.done_at c.in_ok-done_at.ensures.done c.in_ok-done_at.ensures.whole)
