use Rattle.std.proofs.Common.{◌≡◌, ◌++◌, map, drop, false}
use Rattle.std.specs.List.{flat_map}
use Rattle.tapa_syntax.specs.Flat as flat
use Rattle.tapa_syntax.specs.Flat.{flat_statement}
use Rattle.tapa_syntax.specs.Trees as tree
use Rattle.check_expression.specs.Expressions.{faults_of, wanted}
use Rattle.check_leaf.proofs.action.written.Given as goal

abbrev pub invariant-loop-value : goal.invariant-loop-value
invariant-loop-value l = record {
  faults : flat_map (faults_of l.scope false) (map tree.expression l.values) ≡ flat_map (faults_of l.scope false) (map tree.expression (drop l.value-index l.values));
  code : map flat_statement l.initial.code.items ++ map (λ e. flat.write l.stream (wanted l.scope l.kind e)) (map tree.expression l.values) ≡ map flat_statement l.code.items ++ map (λ e. flat.write l.stream (wanted l.scope l.kind e)) (map tree.expression (drop l.value-index l.values));
}
