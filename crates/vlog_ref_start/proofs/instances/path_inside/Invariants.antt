use Rattle.std.proofs.Common.{◌≡◌, ◌∷◌, ◌++◌, drop}
use Rattle.vlog_ref_start.proofs.instances.path_inside.Given as goal

abbrev pub invariant-loop-x : goal.invariant-loop-x
invariant-loop-x l = l.out.items ++ (drop l.x-index l.path) ≡ l.name ∷ l.path
