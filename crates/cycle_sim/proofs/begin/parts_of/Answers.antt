use Rattle.std.proofs.Common.{subst}
use Rattle.cycle_sim.specs.Wholes.{IsAround}
use Rattle.cycle_sim.proofs.begin.parts_of.Goals as goal

pub returns-clause-parts : goal.returns-clause-parts
returns-clause-parts c =
    let top = c.valid.ensures.0 in
    let at = c.valid.ensures.1 in
    let laid = c.in_ok-machine in
    record {
      top = top;
      at = at;
      machine = laid.ensures.machine top at;
      around = subst (λ l. IsAround c.args.design.modules top c.in_ok-flat.flat laid.machine.pairs.items l laid.around) c.deref-2.ensures.value (laid.ensures.around top at);
    }
