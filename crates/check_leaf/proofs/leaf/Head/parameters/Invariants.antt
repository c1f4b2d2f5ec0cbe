use Rattle.std.proofs.Common.{◌≡◌, drop}
use Rattle.check_leaf.specs.Heads.{head_of}
use Rattle.check_leaf.specs.Leaves as leaf
use Rattle.check_leaf.proofs.leaf.Head.parameters.Given as goal

abbrev pub invariant-loop-parameter : goal.invariant-loop-parameter
invariant-loop-parameter l = record {
  faults : leaf.parameters_faults (head_of l.initial.self) l.parameters ≡ leaf.parameters_faults (head_of l.self) (drop l.parameter-index l.parameters);
  after : leaf.after_parameters (head_of l.initial.self) l.parameters ≡ leaf.after_parameters (head_of l.self) (drop l.parameter-index l.parameters);
}
