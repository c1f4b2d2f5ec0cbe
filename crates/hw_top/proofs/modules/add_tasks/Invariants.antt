use Rattle.std.proofs.Common.{◌≡◌, ℕ, ◌<◌, ◌++◌}
use Rattle.hw_build.specs.Scope.{each}
use Rattle.hw_top_lines.specs.Designs.{used_module}
use Rattle.hw_top.specs.Kept.{IsKept}
use Rattle.hw_top.proofs.modules.add_tasks.Given as goal

abbrev pub invariant-loop-b : goal.invariant-loop-b
invariant-loop-b l = record {
  modules : l.modules.items ≡ l.initial.modules.items ++ each (used_module l.program l.machines) l.b;
  promises : (b : ℕ) → b < l.b → IsKept l.program l.machines b;
}
