use Rattle.std.proofs.Common.{sym, subst}
use Rattle.sim_tape.specs.Tape.{TapeTree}
use Rattle.cycle_sim.specs.Machines.{IsMachine}
use Rattle.cycle_sim.proofs.begin.finish.Goals as goal

pub returns-clause-machine : goal.returns-clause-machine
returns-clause-machine c = λ ms m flat is.
    let draft = c.args.draft in
    subst (λ (t : TapeTree). IsMachine ms m flat (record { pairs = draft.pairs; memories = draft.memories; widths = draft.cells; program = t; commits = draft.commits; stores = draft.stores })) (sym c.in_ok-program.ensures)
    (record { flat = is.flat; tape = is.tape; placed = is.placed; given = is.given; numbered = is.numbered; tells = is.tells; next = is.next })
