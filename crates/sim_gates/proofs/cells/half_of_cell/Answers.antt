use Rattle.sim_tape.specs.Tape.{number_at}
use Rattle.sim_tape.proofs.Growing.{pair_on, solved_on, zero_says}
use Rattle.sim_gates.proofs.Halves.{far_cell, near_cell}
use Rattle.sim_gates.proofs.cells.half_of_cell.Goals as goal

pub returns-then-is_narrow-clause-says : goal.returns-then-is_narrow-clause-says
returns-then-is_narrow-clause-says c = λ cells ns h small. near_cell cells c.args.memory (number_at ns c.in_ok-cell.cell) ns c.args.at (small c.if-is_narrow.true) (c.in_ok-cell.ensures.says cells ns h)

pub operate-requires-clause-first : goal.operate-requires-clause-first
operate-requires-clause-first c = (pair_on _ _ c.args.at c.in_ok-cell.ensures.extends c.requires.at).1

pub returns-clause-says : goal.returns-clause-says
returns-clause-says c = λ cells ns h small.
    let at_inside = solved_on _ _ c.in_ok-half.ensures.extends cells ns h in
    let at_cell = solved_on _ _ c.in_ok-inside.ensures.extends cells ns at_inside in
    far_cell cells c.args.memory (number_at ns c.args.at.high) (number_at ns c.args.at.low) (number_at ns 0) (number_at ns c.in_ok-inside.inside) (number_at ns c.in_ok-cell.cell) (number_at ns c.in_ok-half.half)
    (zero_says _ c.in_ok-half.ensures.extends.new_tape cells ns h) (h.words c.args.at.low) (c.in_ok-inside.ensures.says cells ns at_inside) (c.in_ok-cell.ensures.says cells ns at_cell) (c.in_ok-half.ensures.says cells ns h)
