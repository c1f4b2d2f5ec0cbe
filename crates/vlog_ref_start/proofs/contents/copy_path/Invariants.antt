use Rattle.std.proofs.Common.{◌≡◌, ◌++◌, drop}
use Rattle.vlog_ref_start.proofs.contents.copy_path.Given as goal

abbrev pub invariant-loop-x : goal.invariant-loop-x
invariant-loop-x l = l.out.items ++ (drop l.x-index l.path) ≡ l.path
