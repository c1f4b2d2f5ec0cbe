use Rattle.std.proofs.Common.{inl, refl, sym, ap, subst, ◌∙◌, length}
use Rattle.std.specs.Prelude.{IfOk, IfSome, is_some}
use Rattle.vlog_tree.specs.declared.tree.Atom.{Atom}
use Rattle.vlog_tree.specs.Loops.{atom_nets}
use Rattle.sim_tape.specs.Tape.{PairBefore}
use Rattle.sim_tape.specs.Trees.{tree_of}
use Rattle.sim_gates.specs.Nets.{HavePairs, IsAtom, Told}
use Rattle.sim_gates.proofs.AtomSlots.{each_is, found_before, literal_atom, net_atom}
use Rattle.sim_gates.proofs.atoms.pair_of_atom.Goals as goal

pub returns-in-Net-clause-slots : goal.returns-in-Net-clause-slots
returns-in-Net-clause-slots c =
    let n = length (tree_of c.args.tape.now).gates in
    each_is (PairBefore n) c.pair.result _ c.pair.ensures (λ p e. found_before c.args.nets.now.scope.now c.args.nets.now.pairs.now n c.requires.nets c.in-Net.x p e)

pub returns-in-Net-clause-says : goal.returns-in-Net-clause-says
returns-in-Net-clause-says c =
    let ds = c.args.nets.now.scope.now in
    let pairs = c.args.nets.now.pairs.now in
    each_is (λ p. Told ds pairs (tree_of c.args.tape.now) (λ s d ns. IsAtom ds c.args.atom.now s d ns p)) c.pair.result _ c.pair.ensures
    (λ p e cells ns s d h shows. subst (λ (a : Atom). IsAtom ds a s d ns p) (sym c.in-Net.is) (net_atom ds s d ns pairs c.in-Net.x p shows e))

pub returns-in-Net-clause-some : goal.returns-in-Net-clause-some
returns-in-Net-clause-some c = λ fits have.
    let all = subst (λ (a : Atom). HavePairs c.args.nets.now.scope.now c.args.nets.now.pairs.now (atom_nets a)) c.in-Net.is have in
    ap is_some c.pair.ensures ∙ all c.in-Net.x (inl refl)

pub returns-in-Part-clause-says : goal.returns-in-Part-clause-says
returns-in-Part-clause-says c =
    let ds = c.args.nets.now.scope.now in
    subst (λ (a : Atom). IfOk c.pair_of_part.result (λ o. IfSome o (λ p. Told ds c.args.nets.now.pairs.now (tree_of c.pair_of_part.new.tape) (λ s d ns. IsAtom ds a s d ns p)))) (sym c.in-Part.is) c.pair_of_part.ensures.says

pub returns-in_ok-pair-in-Literal-clause-says : goal.returns-in_ok-pair-in-Literal-clause-says
returns-in_ok-pair-in-Literal-clause-says c = λ cells ns s d h shows.
    subst (λ (a : Atom). IsAtom c.args.nets.now.scope.now a s d ns c.in_ok-pair-in-Literal.pair) (sym c.in-Literal.is)
    (literal_atom c.args.nets.now.scope.now s d ns _ c.in-Literal.n c.in_ok-pair-in-Literal.pair (c.in_ok-pair-in-Literal.ensures.says cells ns h))
