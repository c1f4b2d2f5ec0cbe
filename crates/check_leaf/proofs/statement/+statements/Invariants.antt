use Rattle.std.proofs.Common.{◌≡◌, ◌++◌, map, drop}
use Rattle.tapa_syntax.specs.Flat.{flat_statement}
use Rattle.tapa_syntax.specs.Trees as tree
use Rattle.check_leaf.specs.Statements as task
use Rattle.check_leaf.proofs.statement.+statements.Given as goal

abbrev pub invariant-statements-loop-stated : goal.invariant-statements-loop-stated
invariant-statements-loop-stated l = record {
  faults : task.statements_faults l.in_loop l.initial.frame (tree.statements (map tree.statement l.inner)) ≡ task.statements_faults l.in_loop l.frame (tree.statements (map tree.statement (drop l.stated-index l.inner)));
  after : task.after_all l.initial.frame (tree.statements (map tree.statement l.inner)) ≡ task.after_all l.frame (tree.statements (map tree.statement (drop l.stated-index l.inner)));
  code : map flat_statement l.initial.code.items ++ task.codes_of l.initial.frame (tree.statements (map tree.statement l.inner)) ≡ map flat_statement l.code.items ++ task.codes_of l.frame (tree.statements (map tree.statement (drop l.stated-index l.inner)));
}
