use Rattle.std.proofs.Common.{◌≡◌, ◌++◌}
use Rattle.sim_design.specs.Commits.{commits_below}
use Rattle.sim_design.proofs.next.add_commits.Given as goal

abbrev pub invariant-loop-place : goal.invariant-loop-place
invariant-loop-place l = l.commits.items ≡ l.fn.commits.items ++ commits_below l.table.scope l.pairs l.next l.place
