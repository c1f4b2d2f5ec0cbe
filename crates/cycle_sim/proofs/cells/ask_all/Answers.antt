use Rattle.std.proofs.Common.{◌<◌, [], get_or, arith, length}
use Rattle.std.proofs.lemmas.Option.{slice_get-get_or, slice_get_within}
use Rattle.sim_tape.specs.Operators.{cells_of}
use Rattle.cycle_sim.proofs.Writing.{asked_more, kept_more}
use Rattle.cycle_sim.proofs.cells.ask_all.Goals as goal

pub loop-i-preserved : goal.loop-i-preserved
loop-i-preserved c =
    let i = c.loop-i.i in
    let outside = c.args.outside.now in
    let ns = c.args.numbers.now in
    let got = slice_get-get_or outside i _ (omega arith) in (
      asked_more ns outside (λ m. get_or (cells_of c.args.cells.now) m []) (λ m. get_or (cells_of c.loop-i.cells) m []) (λ m. get_or (cells_of c.ask.new.cells) m []) i _ got c.ask.ensures c.loop-i.invariant.0 c.loop-i.invariant.1,
      kept_more ns outside (λ m. get_or (cells_of c.args.cells.now) m []) (λ m. get_or (cells_of c.loop-i.cells) m []) (λ m. get_or (cells_of c.ask.new.cells) m []) i _ got c.ask.ensures c.loop-i.invariant.0 c.loop-i.invariant.1,
    )

pub returns-clause-asked : goal.returns-clause-asked
returns-clause-asked c = λ i o g.
    let low : i < length c.args.outside.now = slice_get_within c.args.outside.now i o g in
    c.loop-i.invariant.0 i o (omega arith) g
