-- How many ticks a board's instances have made.
use Rattle.std.specs.Prelude.{ℕ, ◌+◌, ◌-◌, ◌^◌, ◌≤◌, List, sum, min}
use Rattle.net_case.specs.declared.case_state.CaseState.{CaseState}

-- the sum of the counts, or the greatest number of 64 bits if the sum is larger
abbrev pub capped_sum : List ℕ → ℕ
capped_sum counts = min (sum counts) (2 ^ 64 - 1)

-- from the case o to the counts `seen` all instances together made at least 4,096 ticks
abbrev pub HasSeenMany : CaseState → List ℕ → Type 0
HasSeenMany o seen = sum o.counts + 4096 ≤ sum seen
