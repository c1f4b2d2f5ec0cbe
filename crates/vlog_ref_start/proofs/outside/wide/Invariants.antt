use Rattle.std.proofs.Common.{◌≡◌, ◌++◌, drop}
use Rattle.vlog_ref_start.proofs.outside.wide.Given as goal

abbrev pub invariant-loop-n : goal.invariant-loop-n
invariant-loop-n l = l.out.items ++ (drop l.n-index l.numbers) ≡ l.numbers
