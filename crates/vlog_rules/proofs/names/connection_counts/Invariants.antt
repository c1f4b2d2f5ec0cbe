use Rattle.std.proofs.Common.{◌≡◌, ℕ, List, min, take}
use Rattle.std.specs.Prelude.{bytes_eq, count_by}
use Rattle.vlog_tree.specs.declared.tree.Connection.{Connection}
use Rattle.vlog_scope.specs.NameTable.{count_in}
use Rattle.vlog_rules.proofs.names.connection_counts.Given as goal

abbrev pub invariant-loop-l : goal.invariant-loop-l
invariant-loop-l l = (x : List ℕ) → count_in l.counts x ≡ min (count_by (λ (k : Connection). bytes_eq k.port x) (take l.l-index l.connections)) 2
