-- A job as its body sees it.
use Rattle.std.specs.Prelude.{ℕ, List}
use Rattle.tapa_syntax.specs.declared.program.End.{End}
use Rattle.kahn_model.specs.Behavior.{Behavior}

-- the streams of a leaf, the first cells of its memories, and what it does at their positions, by the number of tests
-- that each run of a loop may make
pub record Job : Type 0 where
  pub ends : List End
  pub cells : List (List ℕ)
  pub behavior : ℕ → Behavior
