use Rattle.std.proofs.Common.{[], get_or, refl, ap, ◌∙◌}
use Rattle.sim_tape.specs.Operators.{cells_of}
use Rattle.cycle_sim.specs.Steps.{outside_list, stored_all}
use Rattle.cycle_sim.proofs.Standing.{asked_same, stored_same}
use Rattle.cycle_sim.proofs.cells.write_all.Goals as goal

pub returns-then-no_cell_is_written : goal.returns-then-no_cell_is_written
returns-then-no_cell_is_written c =
    let ns = c.args.numbers.now in
    let cells = cells_of c.args.cells.now in
    let stores = c.args.stores.now in
    let unmade = c.no_cell_is_written.ensures.stores c.if-no_cell_is_written.true in
    record {
      asked = λ i o g. stored_same ns i (get_or cells i []) stores unmade ∙ asked_same ns o (stored_all ns i (get_or cells i []) stores) (c.no_cell_is_written.ensures.outside c.if-no_cell_is_written.true i o g);
      behind = λ m h. stored_same ns m (get_or cells m []) stores unmade;
      none = λ e. refl;
      unmade = λ e. unmade;
      unwritten = λ e. c.no_cell_is_written.ensures.outside c.if-no_cell_is_written.true;
    }

pub returns-clause-asked : goal.returns-clause-asked
returns-clause-asked c = λ i o g. c.ask_all.ensures.asked i o g ∙ ap (outside_list c.args.numbers.now o) (c.store_all.ensures i)

pub returns-clause-behind : goal.returns-clause-behind
returns-clause-behind c = λ m h. c.ask_all.ensures.kept m h ∙ c.store_all.ensures m
