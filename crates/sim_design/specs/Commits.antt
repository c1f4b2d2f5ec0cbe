-- What registers take over, pair by pair.
use Rattle.std.specs.Prelude.{ℕ, Bool, false, List, [], ◌∷◌, Option, Some, None, ◌++◌, zero, suc, get_or, slice_get, ◌==◌, if◌then◌else◌}
use Rattle.vlog_tree.specs.declared.table.Declaration.{Declaration}
use Rattle.vlog_tree.specs.Table.{net_kind_is_register}
use Rattle.sim_tape.specs.declared.gates.Pair.{Pair}
use Rattle.sim_design.specs.declared.drafts.Commit.{Commit}

-- the commits that bring the numbers of one pair into another; slot 0 takes over none
abbrev pub commits_of : Pair → Pair → List Commit
commits_of p q = record { slot = p.low; next = q.low } ∷ (if p.high == 0 then [] else record { slot = p.high; next = q.high } ∷ [])

-- those of a register that may have no pair
abbrev pub commits_at : Option Pair → Option Pair → List Commit
commits_at None q = []
commits_at (Some p) None = []
commits_at (Some p) (Some q) = commits_of p q

abbrev pub has_register : Option Declaration → Bool
has_register None = false
has_register (Some d) = net_kind_is_register d.net_kind

-- only a register takes over numbers
abbrev pub commits_for : Option Declaration → Option Pair → Option Pair → List Commit
commits_for o p q = if has_register o then commits_at p q else []

-- those of the first names of an instance, by the pairs of its names in this cycle and in the next
abbrev pub commits_below : List Declaration → List (Option Pair) → List (Option Pair) → ℕ → List Commit
commits_below ds pairs next zero = []
commits_below ds pairs next (suc n) = commits_below ds pairs next n ++ commits_for (slice_get ds n) (get_or pairs n None) (get_or next n None)
