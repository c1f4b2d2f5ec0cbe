use Rattle.std.proofs.Common.{◌≡◌, ◌++◌, map, drop}
use Rattle.std.specs.List.{flat_map}
use Rattle.tapa_syntax.specs.Flat.{flat_statement}
use Rattle.tapa_syntax.specs.Trees as tree
use Rattle.check_leaf.specs.Statements as task
use Rattle.check_leaf.proofs.action.read.Given as goal

abbrev pub invariant-loop-place : goal.invariant-loop-place
invariant-loop-place l = record {
  faults : flat_map (task.place_faults l.scope) (map tree.place_expression_of l.places) ≡ flat_map (task.place_faults l.scope) (map tree.place_expression_of (drop l.place-index l.places));
  code : map flat_statement l.initial.code.items ++ map (λ p. task.read_target l.stream (task.target_of l.scope p)) (map tree.place_expression_of l.places) ≡ map flat_statement l.code.items ++ map (λ p. task.read_target l.stream (task.target_of l.scope p)) (map tree.place_expression_of (drop l.place-index l.places));
}
