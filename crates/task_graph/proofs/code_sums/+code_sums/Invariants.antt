use Rattle.std.proofs.Common.{◌≡◌, ◌≤◌, ◌^◌, ◌+◌, ◌-◌, map, drop}
use Rattle.tapa_syntax.specs.Flat.{flat_statement, in_row}
use Rattle.tapa_syntax.specs.LeafKinds.{kinds_of}
use Rattle.tapa_syntax.specs.TickPlaces.{capped}
use Rattle.task_graph.specs.Counted.{rates_of}
use Rattle.task_graph.specs.Estimate.{in_statements}
use Rattle.task_graph.proofs.code_sums.+code_sums.Given as goal

abbrev pub invariant-in_code-loop-statement : goal.invariant-in_code-loop-statement
invariant-in_code-loop-statement l =
    (capped (in_statements (rates_of l.counted) (kinds_of l.leaf) (in_row (map flat_statement l.code)))
    ≡ capped (l.sum + in_statements (rates_of l.counted) (kinds_of l.leaf) (in_row (map flat_statement (drop l.statement-index l.code)))))
    × (l.sum ≤ 2 ^ 64 - 1)
