-- What the cases of a board have in common.
use Rattle.std.specs.Prelude.{ℕ, Bool, List, false, slice_index_or}
use Rattle.net_core.specs.Bounded.{count_of}
use Rattle.net_case.specs.declared.case_state.CaseState.{CaseState}
use Rattle.net_case.specs.Over.{IsOver}
use Rattle.net_case.specs.State.{network, IsValidCase}
use Rattle.coro_threads.specs.Out.{IsSameRun}

abbrev pub is_out : List Bool → ℕ → Bool
is_out out i = slice_index_or out i false

-- the case has the program, input and budget of the case o, and its count is reachable within the budget
pub record IsOf (o c : CaseState) : Type 0 where
  pub same : IsSameRun o c
  pub valid : IsValidCase c

-- nothing is left to do at this count: a claim of a case like o that is at it, and of which no instance is out, answers Over
abbrev pub IsEndAt : CaseState → List ℕ → Type 0
IsEndAt o counts = IsOver (network o) o.budget (count_of counts)
