use Rattle.std.proofs.Common.{drop}
use Rattle.sim_tape.specs.Trees.{tree_of}
use Rattle.sim_gates.proofs.Fronts.{Fronts}
use Rattle.sim_gates.proofs.joining.pair_of_concat.Given as goal

abbrev pub invariant-loop-atom : goal.invariant-loop-atom
invariant-loop-atom l = Fronts l.nets.scope.now l.nets.pairs.now (tree_of l.initial.tape) (tree_of l.tape) l.above (drop l.atom-index l.atoms) l.atoms
