use Rattle.std.proofs.Common.{Option, subst}
use Rattle.std.specs.Prelude.{IsSome}
use Rattle.sim_tape.specs.declared.gates.Pair.{Pair}
use Rattle.tapa_base.proofs.Lists.{has_left, has_right}
use Rattle.vlog_tree.specs.Loops.{atom_nets}
use Rattle.sim_tape.proofs.Growing.{pair_on, solved_on}
use Rattle.sim_gates.proofs.AtomSlots.{slots_on, some_is}
use Rattle.sim_gates.proofs.Operands.{both_fit, narrow_is}
use Rattle.sim_gates.proofs.Operated.{binary_driven}
use Rattle.sim_gates.proofs.operators.pair_of_binary.Goals as goal

pub returns-in_default-clause-some : goal.returns-in_default-clause-some
returns-in_default-clause-some c = λ fit have.
    let f = both_fit c.args.nets.now.scope.now c.args.bits c.args.left.now c.args.right.now c.args.op fit in
    subst (λ (o : Option Pair). IsSome o) c.in_default.is (c.in_ok-a.ensures.some f.0 (λ x k. have.0 x (has_left (atom_nets c.args.left.now) (atom_nets c.args.right.now) x k)))

pub pair_of_atom-requires-2-clause-nets : goal.pair_of_atom-requires-2-clause-nets
pair_of_atom-requires-2-clause-nets c = slots_on _ _ c.args.nets.now.pairs.now c.in_ok-a.ensures.extends c.requires.nets

pub returns-in_default-2-clause-some : goal.returns-in_default-2-clause-some
returns-in_default-2-clause-some c = λ fit have.
    let f = both_fit c.args.nets.now.scope.now c.args.bits c.args.left.now c.args.right.now c.args.op fit in
    subst (λ (o : Option Pair). IsSome o) c.in_default-2.is (c.in_ok-b.ensures.some f.1 (λ x k. have.0 x (has_right (atom_nets c.args.left.now) (atom_nets c.args.right.now) x k)))

pub pair_of_operator-requires-clause-narrow : goal.pair_of_operator-requires-clause-narrow
pair_of_operator-requires-clause-narrow c = λ n. (narrow_is c.args.bits c.atom_bits.result c.atom_bits-2.result c.are_narrow-is_narrow.result c.are_narrow-is_narrow.ensures n).0

pub pair_of_operator-requires-clause-left : goal.pair_of_operator-requires-clause-left
pair_of_operator-requires-clause-left c = pair_on _ _ c.in-Some.a c.in_ok-b.ensures.extends (some_is _ _ _ c.in-Some.is c.in_ok-a.ensures.slots)

pub pair_of_operator-requires-clause-right : goal.pair_of_operator-requires-clause-right
pair_of_operator-requires-clause-right c = some_is _ _ _ c.in-Some-2.is c.in_ok-b.ensures.slots

pub returns-clause-says : goal.returns-clause-says
returns-clause-says c = λ fit cells ns s d h shows mem.
    let at_b = solved_on _ _ c.in_ok-made.ensures.extends cells ns h in
    let at_a = solved_on _ _ c.in_ok-b.ensures.extends cells ns at_b in
    binary_driven c.args.nets.now.scope.now s d ns c.args.bits c.atom_bits.result c.atom_bits-2.result c.args.op c.args.left.now c.args.right.now c.in-Some.a c.in-Some-2.b c.in_ok-made.made c.are_narrow-is_narrow.result fit
    (some_is _ _ _ c.in-Some.is c.in_ok-a.ensures.says cells ns s d at_a shows) (some_is _ _ _ c.in-Some-2.is c.in_ok-b.ensures.says cells ns s d at_b shows)
    c.atom_bits.ensures c.atom_bits-2.ensures c.are_narrow-is_narrow.ensures (c.in_ok-made.ensures.says cells ns h)
