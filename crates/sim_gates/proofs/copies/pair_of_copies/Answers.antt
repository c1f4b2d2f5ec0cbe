use Rattle.std.proofs.Common.{◌≤◌, Option, sym, ap, subst, ◌∙◌, arith}
use Rattle.std.specs.Prelude.{IsSome, ◌&&◌, nat_le}
use Rattle.sim_tape.specs.declared.gates.Pair.{Pair}
use Rattle.sim_tape.proofs.Growing.{pair_on, solved_on}
use Rattle.sim_gates.proofs.AtomSlots.{some_is, atom_range}
use Rattle.sim_gates.proofs.Operands.{copy_fits, narrow_is}
use Rattle.sim_gates.proofs.Copying.{copies_driven, ones_fit}
use Rattle.sim_gates.proofs.copies.pair_of_copies.Goals as goal

pub returns-in_default-clause-some : goal.returns-in_default-clause-some
returns-in_default-clause-some c = λ fit have. subst (λ (o : Option Pair). IsSome o) c.in_default.is (c.in_ok-pair.ensures.some (copy_fits c.args.nets.now.scope.now c.args.bits c.args.count c.args.atom.now fit).0 have.0)

pub returns-then-width-gt128-clause-some : goal.returns-then-width-gt128-clause-some
returns-then-width-gt128-clause-some c = λ fit have.
    let r = atom_range c.args.nets.now.scope.now c.args.atom.now (copy_fits c.args.nets.now.scope.now c.args.bits c.args.count c.args.atom.now fit).0 in
    let most : c.atom_bits-width.result ≤ 128 = subst (λ n. n ≤ 128) (sym c.atom_bits-width.ensures) r.1 in
    absurd (omega arith)

pub returns-in_default-one_in_each-clause-some : goal.returns-in_default-one_in_each-clause-some
returns-in_default-one_in_each-clause-some c = λ fit have. absurd (ones_fit c.args.nets.now.scope.now c.args.bits c.args.count c.args.atom.now fit c.atom_bits-width.result c.requires.bits c.atom_bits-width.ensures c.in_default-one_in_each.ensures)

pub pair_of_operator-requires-clause-narrow : goal.pair_of_operator-requires-clause-narrow
pair_of_operator-requires-clause-narrow c = λ n. (narrow_is c.args.bits c.atom_bits-width.result c.from.result c.are_narrow-is_narrow.result c.are_narrow-is_narrow.ensures n).0

pub pair_of_operator-requires-clause-left : goal.pair_of_operator-requires-clause-left
pair_of_operator-requires-clause-left c = pair_on _ _ c.in-Some.pair c.in_ok-ones.ensures.extends (some_is _ _ _ c.in-Some.is c.in_ok-pair.ensures.slots)

pub returns-clause-says : goal.returns-clause-says
returns-clause-says c = λ fit cells ns s d h shows mem.
    let at_ones = solved_on _ _ c.in_ok-made.ensures.extends cells ns h in
    let at_pair = solved_on _ _ c.in_ok-ones.ensures.extends cells ns at_ones in
    copies_driven c.args.nets.now.scope.now c.args.bits c.args.count c.args.atom.now fit s d ns c.atom_bits-width.result c.in-Some-one_in_each.number c.in-Some.pair c.in_ok-ones.ones
    (some_is _ _ _ c.in-Some.is c.in_ok-pair.ensures.says cells ns s d at_pair shows) c.atom_bits-width.ensures c.in-Some-one_in_each.ensures (c.in_ok-ones.ensures.says cells ns at_ones)
    c.in_ok-made.made c.are_narrow-is_narrow.result
    (c.are_narrow-is_narrow.ensures ∙ ap (λ k. nat_le c.args.bits 64 && nat_le c.atom_bits-width.result 64 && nat_le k 64) c.from.ensures) (c.in_ok-made.ensures.says cells ns h)
