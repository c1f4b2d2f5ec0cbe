use Rattle.std.proofs.Common.{length, sym, arith}
use Rattle.std.proofs.lemmas.Bool.{OnTrue_at, OnTrue_from}
use Rattle.sim_tape.specs.Tape.{PairBefore}
use Rattle.sim_tape.specs.Trees.{tree_of}
use Rattle.sim_tape.proofs.Growing.{solved_on}
use Rattle.sim_gates.specs.Nets.{IsAtom, Told}
use Rattle.sim_gates.proofs.AtomSlots.{some_is, slots_on}
use Rattle.sim_gates.proofs.Putting.{nets_put}
use Rattle.sim_gates.proofs.Readying.{has_place, pair_there}
use Rattle.sim_gates.proofs.writes.put_register.Goals as goal

pub put_at-requires : goal.put_at-requires
put_at-requires c =
    let g = c.in_ok-new.ensures.extends in
    record { tape = g.new_tape; on = (let low = c.requires.on in omega (arith, g.grows.gates)); value = some_is (λ p. PairBefore (length (tree_of c.pair_of_atom.new.tape).gates) p) c.in_ok-new.field-0 c.in-Some-2.new c.in-Some-2.is c.in_ok-new.ensures.slots; next = slots_on _ _ _ g c.requires.next }

pub returns-clause-value : goal.returns-clause-value
returns-clause-value c =
    OnTrue_from c.in_ok-done.done _ (λ done. λ cells ns s k h shows bs now runs before.
    let ds = c.args.nets.now.scope.now in
    let at_new = solved_on _ _ c.in_ok-done.ensures.extends cells ns h in
    let atom = some_is (λ p. Told ds c.args.nets.now.pairs.now (tree_of c.pair_of_atom.new.tape) (λ s k ns. IsAtom ds c.args.value.now s k ns p)) c.in_ok-new.field-0 c.in-Some-2.new c.in-Some-2.is c.in_ok-new.ensures.says cells ns s k at_new shows in
    nets_put ds s k now ns c.args.register.now c.args.value.now bs c.args.on c.in-Some.place _ c.in-Some-2.new c.args.next.now.items _ (sym c.in-Some.ensures) atom.value runs (OnTrue_at done c.in_ok-done.ensures.says cells ns h) before)

pub returns-in_default-clause-some : goal.returns-in_default-clause-some
returns-in_default-clause-some c = λ same ready. absurd (has_place c.args.nets.now.scope.now c.args.nets.now.pairs.now c.args.register.now (sym c.in_default.ensures) ready.0)

pub returns-clause-some : goal.returns-clause-some
returns-clause-some c = λ same ready.
    c.in_ok-done.ensures.some (pair_there c.args.nets.now.scope.now c.args.nets.now.pairs.now c.args.next.now.items c.args.register.now c.in-Some.place _ (sym c.in-Some.ensures) same ready.0)
