use Rattle.std.proofs.Common.{◌≡◌, ◌+◌, ℕ, List, take, min}
use Rattle.std.specs.List.{list_any}
use Rattle.vlog_scope.specs.NameTable.{CountsTo, count_in}
use Rattle.vlog_tree.specs.V4.{step_assigns}
use Rattle.vlog_tree.specs.Table.{one_if}
use Rattle.vlog_rules.proofs.drivers.count_block.Given as goal

abbrev pub invariant-loop-s : goal.invariant-loop-s
invariant-loop-s l = record {
  own : (x : List ℕ) → count_in l.own x ≡ one_if (list_any (step_assigns x) (take l.s-index l.steps));
  blocks : (f : List ℕ → ℕ) → CountsTo l.fn.blocks f → (x : List ℕ) → count_in l.blocks x ≡ min (f x + one_if (list_any (step_assigns x) (take l.s-index l.steps))) 2;
}
