use Rattle.std.proofs.Common.{◌≡◌, ◌++◌, map, drop}
use Rattle.tapa_syntax.specs.Flat.{flat_statement}
use Rattle.tapa_syntax.specs.Trees as tree
use Rattle.check_leaf.specs.Statements as task
use Rattle.check_leaf.proofs.declaration.declarators.Given as goal

abbrev pub invariant-loop-name : goal.invariant-loop-name
invariant-loop-name l = record {
  faults : task.declarators_faults l.free l.kind l.initial.frame (map tree.declarator_of l.names) ≡ task.declarators_faults l.free l.kind l.frame (map tree.declarator_of (drop l.name-index l.names));
  after : task.after_declarators l.free l.kind l.initial.frame (map tree.declarator_of l.names) ≡ task.after_declarators l.free l.kind l.frame (map tree.declarator_of (drop l.name-index l.names));
  code : map flat_statement l.initial.code.items ++ task.declarators_code l.free l.kind l.initial.frame (map tree.declarator_of l.names) ≡ map flat_statement l.code.items ++ task.declarators_code l.free l.kind l.frame (map tree.declarator_of (drop l.name-index l.names));
}
