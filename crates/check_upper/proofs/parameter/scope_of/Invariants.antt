use Rattle.std.proofs.Common.{◌≡◌, ◌<◌, drop, length}
use Rattle.check_upper.specs.Signatures.{signature_of}
use Rattle.check_upper.specs.Uppers as upper
use Rattle.check_upper.proofs.parameter.scope_of.Given as goal

abbrev pub invariant-loop-parameter : goal.invariant-loop-parameter
invariant-loop-parameter l = record {
  some : 1 < length l.signature.scope;
  faults : upper.parameters_faults (upper.task_begins l.file) l.parameters ≡ upper.parameters_faults (signature_of l.signature) (drop l.parameter-index l.parameters);
  after : upper.after_parameters (upper.task_begins l.file) l.parameters ≡ upper.after_parameters (signature_of l.signature) (drop l.parameter-index l.parameters);
}
