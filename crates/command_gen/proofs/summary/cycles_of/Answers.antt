use Rattle.std.proofs.Common.{ℕ, Option, refl, subst, None, Some}
use Rattle.vlog_design.specs.Environments.{environment_of}
use Rattle.vlog_tree.specs.Environment.{Environment}
use Rattle.tapa_words.specs.Words.{default_cycles}
use Rattle.sim_output.specs.Reports.{IsSimulatedSo}
use Rattle.command_gen.proofs.Nothings.{circuit_fits, done_in}
use Rattle.command_gen.proofs.summary.cycles_of.Goals as goal

pub done_cycle-requires : goal.done_cycle-requires
done_cycle-requires c = record { fits = circuit_fits c.args.program.now c.in_ok-design.design (environment_of c.in_ok-around.around) c.in_ok-design.ensures c.in_ok-around.ensures }

pub returns-in-Some-clause-done : goal.returns-in-Some-clause-done
returns-in-Some-clause-done c =
    done_in c.args.program.now c.in_ok-design.design c.in-Some.cycle c.in_ok-design.ensures
    (subst (λ (e : Environment). IsSimulatedSo c.in_ok-design.design e default_cycles (Some c.in-Some.cycle)) c.in_ok-around.ensures
    (subst (λ (at : Option ℕ). IsSimulatedSo c.in_ok-design.design (environment_of c.in_ok-around.around) default_cycles at) c.in-Some.is c.in_ok-cycle.ensures))

pub returns-clause-refused : goal.returns-clause-refused
returns-clause-refused c = (
  refl,
  (
    c.in_ok-design.design,
    c.in_ok-design.ensures,
    subst (λ (e : Environment). IsSimulatedSo c.in_ok-design.design e default_cycles None) c.in_ok-around.ensures
        (subst (λ (at : Option ℕ). IsSimulatedSo c.in_ok-design.design (environment_of c.in_ok-around.around) default_cycles at) c.in-None.is c.in_ok-cycle.ensures),
  ),
)
