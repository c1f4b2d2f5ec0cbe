use Rattle.std.proofs.Common.{◌%◌, ◌^◌, subst}
use Rattle.sim_tape.specs.declared.gates.Pair.{Pair}
use Rattle.cycle_sim.specs.Steps.{PairHas}
use Rattle.cycle_sim.proofs.Filling.{same_held}
use Rattle.cycle_sim.proofs.registers.fill_register.Goals as goal

pub put_pair-requires : goal.put_pair-requires
put_pair-requires c = c.requires.room c.args.number c.in-Some.bits c.in-Some.pair c.in-Some.ensures.is

pub returns-in_default-clause-value : goal.returns-in_default-clause-value
returns-in_default-clause-value c = λ bits p h. absurd (let none = c.in_default.ensures.some bits p h in cc)

pub returns-clause-value : goal.returns-clause-value
returns-clause-value c = λ bits p h.
    let same = same_held c.in-Some.pair p c.in-Some.bits bits (c.in-Some.ensures.some bits p h) in
    let has : PairHas c.put_pair.new.numbers c.in-Some.pair (c.args.fill % 2 ^ c.in-Some.bits) = subst (λ v. PairHas c.put_pair.new.numbers c.in-Some.pair v) c.cut.ensures c.put_pair.ensures.value in
    subst (λ (q : Pair). PairHas c.put_pair.new.numbers q (c.args.fill % 2 ^ bits)) same.0 (subst (λ b. PairHas c.put_pair.new.numbers c.in-Some.pair (c.args.fill % 2 ^ b)) same.1 has)

pub returns-clause-kept : goal.returns-clause-kept
returns-clause-kept c = λ k away. c.put_pair.ensures.kept k (away c.in-Some.bits c.in-Some.pair c.in-Some.ensures.is)
