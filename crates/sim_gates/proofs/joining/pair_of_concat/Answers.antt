use Rattle.std.proofs.Common.{◌+◌, drop, Option, subst}
use Rattle.std.specs.Prelude.{IsSome}
use Rattle.sim_tape.specs.Trees.{tree_of}
use Rattle.sim_gates.proofs.AtomSlots.{slots_on, some_is}
use Rattle.sim_gates.specs.declared.joining.Front.{Front}
use Rattle.sim_gates.proofs.Fronts.{front_done, front_fits, front_nets, front_next, front_opened, front_start}
use Rattle.sim_gates.proofs.joining.pair_of_concat.Goals as goal

pub loop-atom-init : goal.loop-atom-init
loop-atom-init c = front_start c.args.nets.now.scope.now c.args.nets.now.pairs.now (tree_of c.args.tape.now) c.requires.tape c.args.atoms.now

pub put_atom-requires-clause-nets : goal.put_atom-requires-clause-nets
put_atom-requires-clause-nets c = slots_on _ _ c.args.nets.now.pairs.now c.loop-atom.invariant.extends c.requires.nets

pub returns-in-None-clause-some : goal.returns-in-None-clause-some
returns-in-None-clause-some c = λ fit have.
    let rest = drop (c.loop-atom.atom-index + 1) c.args.atoms.now in
    let h = front_opened c.args.nets.now.scope.now c.args.nets.now.pairs.now (tree_of c.args.tape.now) (tree_of c.loop-atom.tape) c.loop-atom.above c.args.atoms.now c.loop-atom.atom-index c.atom-item.result c.loop-atom-test.true c.atom-item.is c.loop-atom.invariant in
    let f = front_fits c.args.nets.now.scope.now c.args.nets.now.pairs.now (tree_of c.args.tape.now) (tree_of c.loop-atom.tape) c.loop-atom.above c.args.atoms.now c.atom-item.result rest h c.args.bits c.requires.bits fit in
    subst (λ (o : Option Front). IsSome o) c.in-None.is
    (c.in_ok-more.ensures.some f.0 (front_nets c.args.nets.now.scope.now c.args.nets.now.pairs.now (tree_of c.args.tape.now) (tree_of c.loop-atom.tape) c.loop-atom.above c.args.atoms.now c.atom-item.result rest h have.0) f.1)

pub loop-atom-preserved : goal.loop-atom-preserved
loop-atom-preserved c =
    let rest = drop (c.loop-atom.atom-index + 1) c.args.atoms.now in
    let h = front_opened c.args.nets.now.scope.now c.args.nets.now.pairs.now (tree_of c.args.tape.now) (tree_of c.loop-atom.tape) c.loop-atom.above c.args.atoms.now c.loop-atom.atom-index c.atom-item.result c.loop-atom-test.true c.atom-item.is c.loop-atom.invariant in
    front_next c.args.nets.now.scope.now c.args.nets.now.pairs.now (tree_of c.args.tape.now) (tree_of c.loop-atom.tape) c.loop-atom.above c.args.atoms.now c.atom-item.result rest h (tree_of c.put_atom.new.tape) c.in-Some.more
    c.in_ok-more.ensures.extends (some_is _ _ _ c.in-Some.is c.in_ok-more.ensures.slots) (some_is _ _ _ c.in-Some.is c.in_ok-more.ensures.bits) (some_is _ _ _ c.in-Some.is c.in_ok-more.ensures.most)
    (λ fit. some_is _ _ _ c.in-Some.is (c.in_ok-more.ensures.says fit))

pub returns-clause-says : goal.returns-clause-says
returns-clause-says c = λ fit. front_done c.args.nets.now.scope.now c.args.nets.now.pairs.now (tree_of c.args.tape.now) (tree_of c.loop-atom.tape) c.loop-atom.above c.args.atoms.now c.args.nets.now.memories.now c.loop-atom.atom-index c.args.bits c.loop-atom-test.false fit c.loop-atom.invariant
