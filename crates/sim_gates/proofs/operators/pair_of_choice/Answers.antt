use Rattle.std.proofs.Common.{◌++◌, Option, subst}
use Rattle.std.specs.Prelude.{IsSome}
use Rattle.sim_tape.specs.declared.gates.Pair.{Pair}
use Rattle.tapa_base.proofs.Lists.{has_left, has_right}
use Rattle.vlog_tree.specs.Loops.{atom_nets}
use Rattle.sim_tape.proofs.Growing.{pair_on, solved_on}
use Rattle.sim_gates.proofs.AtomSlots.{slots_on, some_is}
use Rattle.sim_gates.proofs.Operands.{choice_fits, sized}
use Rattle.sim_gates.proofs.Operated.{choice_driven}
use Rattle.sim_gates.proofs.operators.pair_of_choice.Goals as goal

pub returns-in_default-clause-some : goal.returns-in_default-clause-some
returns-in_default-clause-some c = λ fit have.
    let f = choice_fits c.args.nets.now.scope.now c.args.bits c.args.condition.now c.args.yes.now c.args.no.now fit in
    subst (λ (o : Option Pair). IsSome o) c.in_default.is (c.in_ok-test.ensures.some (sized c.args.nets.now.scope.now 1 c.args.condition.now f.0).0 (λ x k. have.0 x (has_left (atom_nets c.args.condition.now) (atom_nets c.args.yes.now ++ atom_nets c.args.no.now) x k)))

pub pair_of_atom-requires-2-clause-nets : goal.pair_of_atom-requires-2-clause-nets
pair_of_atom-requires-2-clause-nets c = slots_on _ _ c.args.nets.now.pairs.now c.in_ok-test.ensures.extends c.requires.nets

pub returns-in_default-2-clause-some : goal.returns-in_default-2-clause-some
returns-in_default-2-clause-some c = λ fit have.
    let f = choice_fits c.args.nets.now.scope.now c.args.bits c.args.condition.now c.args.yes.now c.args.no.now fit in
    subst (λ (o : Option Pair). IsSome o) c.in_default-2.is (c.in_ok-a.ensures.some f.1 (λ x k. have.0 x (has_right (atom_nets c.args.condition.now) (atom_nets c.args.yes.now ++ atom_nets c.args.no.now) x (has_left (atom_nets c.args.yes.now) (atom_nets c.args.no.now) x k))))

pub pair_of_atom-requires-3-clause-nets : goal.pair_of_atom-requires-3-clause-nets
pair_of_atom-requires-3-clause-nets c = slots_on _ _ c.args.nets.now.pairs.now c.in_ok-a.ensures.extends (slots_on _ _ c.args.nets.now.pairs.now c.in_ok-test.ensures.extends c.requires.nets)

pub returns-in_default-3-clause-some : goal.returns-in_default-3-clause-some
returns-in_default-3-clause-some c = λ fit have.
    let f = choice_fits c.args.nets.now.scope.now c.args.bits c.args.condition.now c.args.yes.now c.args.no.now fit in
    subst (λ (o : Option Pair). IsSome o) c.in_default-3.is (c.in_ok-b.ensures.some f.2 (λ x k. have.0 x (has_right (atom_nets c.args.condition.now) (atom_nets c.args.yes.now ++ atom_nets c.args.no.now) x (has_right (atom_nets c.args.yes.now) (atom_nets c.args.no.now) x k))))

pub choose-requires-clause-test : goal.choose-requires-clause-test
choose-requires-clause-test c = (pair_on _ _ c.in-Some.test c.in_ok-b.ensures.extends (pair_on _ _ c.in-Some.test c.in_ok-a.ensures.extends (some_is _ _ _ c.in-Some.is c.in_ok-test.ensures.slots))).0

pub choose-requires-clause-yes : goal.choose-requires-clause-yes
choose-requires-clause-yes c = pair_on _ _ c.in-Some-2.a c.in_ok-b.ensures.extends (some_is _ _ _ c.in-Some-2.is c.in_ok-a.ensures.slots)

pub choose-requires-clause-no : goal.choose-requires-clause-no
choose-requires-clause-no c = some_is _ _ _ c.in-Some-3.is c.in_ok-b.ensures.slots

pub returns-clause-says : goal.returns-clause-says
returns-clause-says c = λ fit cells ns s d h shows mem.
    let f = choice_fits c.args.nets.now.scope.now c.args.bits c.args.condition.now c.args.yes.now c.args.no.now fit in
    let at_b = solved_on _ _ c.in_ok-chosen.ensures.extends cells ns h in
    let at_a = solved_on _ _ c.in_ok-b.ensures.extends cells ns at_b in
    let at_test = solved_on _ _ c.in_ok-a.ensures.extends cells ns at_a in
    choice_driven c.args.nets.now.scope.now s d ns c.args.condition.now c.args.yes.now c.args.no.now c.in-Some.test c.in-Some-2.a c.in-Some-3.b c.in_ok-chosen.chosen f.0
    (some_is _ _ _ c.in-Some.is c.in_ok-test.ensures.says cells ns s d at_test shows) (some_is _ _ _ c.in-Some-2.is c.in_ok-a.ensures.says cells ns s d at_a shows)
    (some_is _ _ _ c.in-Some-3.is c.in_ok-b.ensures.says cells ns s d at_b shows) (c.in_ok-chosen.ensures.says cells ns h)
