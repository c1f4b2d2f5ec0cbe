use Rattle.std.proofs.Common.{Option, subst}
use Rattle.std.specs.Prelude.{IsSome}
use Rattle.sim_tape.specs.declared.gates.Pair.{Pair}
use Rattle.sim_gates.proofs.AtomSlots.{some_is}
use Rattle.sim_gates.proofs.Operands.{sized}
use Rattle.sim_gates.proofs.operators.pair_of_plain.Goals as goal

pub returns-in_default-clause-some : goal.returns-in_default-clause-some
returns-in_default-clause-some c = λ fit have. subst (λ (o : Option Pair). IsSome o) c.in_default.is (c.in_ok-pair.ensures.some (sized c.args.nets.now.scope.now c.args.bits c.args.atom.now fit).0 have.0)

pub returns-clause-slots : goal.returns-clause-slots
returns-clause-slots c = some_is _ _ _ c.in-Some.is c.in_ok-pair.ensures.slots

pub returns-clause-says : goal.returns-clause-says
returns-clause-says c = λ fit cells ns s d h shows mem. (some_is _ _ _ c.in-Some.is c.in_ok-pair.ensures.says cells ns s d h shows).value
