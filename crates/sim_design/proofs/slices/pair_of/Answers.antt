use Rattle.std.proofs.Common.{None, get_or}
use Rattle.sim_tape.specs.Tape.{PairBefore}
use Rattle.sim_gates.proofs.AtomSlots.{each_is}
use Rattle.sim_design.proofs.slices.pair_of.Goals as goal

pub returns-in-Some-get-clause-slots : goal.returns-in-Some-get-clause-slots
returns-in-Some-get-clause-slots c = λ n before.
    each_is (λ p. PairBefore n p) c.in-Some-get.pair.now (get_or c.args.pairs.now c.in-Some.k None) (c.in-Some-get.ensures.lookup.3.1 None) (λ p g. before c.in-Some.k p g)
