use Rattle.std.proofs.Common.{Option, subst}
use Rattle.std.specs.Prelude.{IsSome}
use Rattle.sim_tape.specs.declared.gates.Pair.{Pair}
use Rattle.sim_tape.proofs.Growing.{solved_on}
use Rattle.sim_gates.proofs.AtomSlots.{some_is}
use Rattle.sim_gates.proofs.Operands.{sized}
use Rattle.sim_gates.proofs.Operated.{inverse_driven}
use Rattle.sim_gates.proofs.operators.pair_of_inverse.Goals as goal

pub returns-in_default-clause-some : goal.returns-in_default-clause-some
returns-in_default-clause-some c = λ fit have. subst (λ (o : Option Pair). IsSome o) c.in_default.is (c.in_ok-pair.ensures.some (sized c.args.nets.now.scope.now c.args.bits c.args.atom.now fit).0 have.0)

pub invert-requires-clause-pair : goal.invert-requires-clause-pair
invert-requires-clause-pair c = some_is _ _ _ c.in-Some.is c.in_ok-pair.ensures.slots

pub returns-clause-says : goal.returns-clause-says
returns-clause-says c = λ fit cells ns s d h shows mem.
    let before = solved_on _ _ c.in_ok-inverse.ensures.extends cells ns h in
    inverse_driven c.args.nets.now.scope.now s d ns c.args.bits c.args.atom.now c.in-Some.pair c.in_ok-inverse.inverse fit (some_is _ _ _ c.in-Some.is c.in_ok-pair.ensures.says cells ns s d before shows) (c.in_ok-inverse.ensures.says cells ns h)
