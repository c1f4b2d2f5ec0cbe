-- What is written of a cycle, by what a simulator shows of it and by the values of the cycle before.
use Rattle.std.specs.Prelude.{◌≡◌, ℕ, ◌<◌, ◌^◌, Bool, ◌||◌, not, ◌==◌, if◌then◌else◌, List, [], Some, length, slice_get, get_or}
use Rattle.tapa_base.specs.Gaps.{Bytes}
use Rattle.vlog_tree.specs.Form.{ModuleTree}
use Rattle.cycle_sim.specs.Sims.{SimTree}
use Rattle.vcd_text.specs.Nets.{Net}
use Rattle.vcd_text.specs.Dump.{lines_from, change_line}
use Rattle.sim_output.specs.Dumped.{nets_of, name_at}

-- the value that is shown of the net at an index of a top module
abbrev pub told_at : SimTree → ModuleTree → ℕ → ℕ
told_at s m k = s.told.number [] (name_at (nets_of m) k)

-- each net has a value of its bits
abbrev pub Fit : ModuleTree → (ℕ → ℕ) → Type 0
Fit m q = (k : ℕ) (net : Net) → slice_get (nets_of m) k ≡ Some net → q k < 2 ^ net.bits

-- the lines of all nets, or of those whose values are others than before
abbrev pub turn_line : Bool → List ℕ → (ℕ → ℕ) → ℕ → Net → Bytes
turn_line all before q k net = if all || not (q k == get_or before k 0) then change_line k net.bits (q k) else []

abbrev pub turn_lines : Bool → List ℕ → (ℕ → ℕ) → List Net → Bytes
turn_lines all before q nets = lines_from (turn_line all before q) 0 nets

-- the values of all nets are kept
abbrev pub IsKept : ModuleTree → (ℕ → ℕ) → List ℕ → Type 0
IsKept m q values = (k : ℕ) → k < length (nets_of m) → get_or values k 0 ≡ q k
