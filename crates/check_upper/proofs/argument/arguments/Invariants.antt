use Rattle.std.proofs.Common.{◌≡◌, ◌++◌, map, drop}
use Rattle.tapa_syntax.specs.Trees as tree
use Rattle.check_upper.specs.Uppers as upper
use Rattle.check_upper.proofs.argument.arguments.Given as goal

abbrev pub invariant-loop-position : goal.invariant-loop-position
invariant-loop-position l = record {
  faults : upper.arguments_faults l.scope l.parameters (map tree.argument_of l.arguments) ≡ upper.arguments_faults l.scope (drop l.position l.parameters) (map tree.argument_of (drop l.position l.arguments));
  bindings : upper.bindings_of l.scope l.parameters (map tree.argument_of l.arguments) ≡ l.bindings.items ++ upper.bindings_of l.scope (drop l.position l.parameters) (map tree.argument_of (drop l.position l.arguments));
}
