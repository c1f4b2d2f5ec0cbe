use Rattle.std.proofs.Common.{Option, subst, arith}
use Rattle.std.specs.Prelude.{IsSome}
use Rattle.sim_tape.specs.declared.gates.Pair.{Pair}
use Rattle.sim_tape.proofs.Growing.{pair_on, solved_on}
use Rattle.sim_gates.proofs.AtomSlots.{some_is}
use Rattle.sim_gates.proofs.Fronts.{put_told}
use Rattle.sim_gates.proofs.joining.put_atom.Goals as goal

pub returns-in_default-clause-some : goal.returns-in_default-clause-some
returns-in_default-clause-some c = λ fit have room. subst (λ (o : Option Pair). IsSome o) c.in_default.is (c.in_ok-below.ensures.some fit have)

pub returns-then-more-from-clause-some : goal.returns-then-more-from-clause-some
returns-then-more-from-clause-some c = λ fit have room. let e = c.atom_bits-more.ensures in absurd (omega arith)

pub put_below-requires-clause-above : goal.put_below-requires-clause-above
put_below-requires-clause-above c = pair_on _ _ c.args.above.pair c.in_ok-below.ensures.extends c.requires.above

pub put_below-requires-clause-below : goal.put_below-requires-clause-below
put_below-requires-clause-below c = some_is _ _ _ c.in-Some.is c.in_ok-below.ensures.slots

pub returns-clause-says : goal.returns-clause-says
returns-clause-says c = λ fit cells ns s d h shows above.
    let before = solved_on _ _ c.in_ok-pair.ensures.extends cells ns h in
    put_told c.args.nets.now.scope.now s d ns c.args.atom.now c.args.above.bits c.atom_bits-more.result c.args.above.pair c.in-Some.below c.in_ok-pair.pair fit (some_is _ _ _ c.in-Some.is c.in_ok-below.ensures.says cells ns s d before shows)
    c.atom_bits-more.ensures (c.in_ok-pair.ensures.says cells ns h) above
