use Rattle.std.proofs.Common.{ap, ◌∙◌}
use Rattle.sim_tape.specs.Operators.{cell_in}
use Rattle.sim_tape.specs.Tape.{number_at}
use Rattle.sim_tape.proofs.Growing.{solved_on}
use Rattle.sim_gates.proofs.cells.near_half.Goals as goal

pub returns-clause-says : goal.returns-clause-says
returns-clause-says c = λ cells ns h.
    let before = solved_on _ _ c.in_ok-cell.ensures.extends cells ns h in
    c.in_ok-cell.ensures.says cells ns h ∙ ap (λ k. cell_in cells k (number_at ns c.args.at.low)) (c.in_ok-number.ensures.says cells ns before ∙ c.from.ensures)
