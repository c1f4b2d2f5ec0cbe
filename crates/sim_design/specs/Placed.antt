-- Pairs of nets as they are placed.
use Rattle.std.specs.Prelude.{◌≡◌, ℕ, false, List, Option, Some, None, IsSome, length, get_or}
use Rattle.vlog_tree.specs.Form.{ModuleTree}
use Rattle.vlog_tree.specs.Flattened.{FlatNet}
use Rattle.vlog_tree.specs.Table.{is_clk}
use Rattle.sim_tape.specs.declared.gates.Pair.{Pair}
use Rattle.sim_tape.specs.Tape.{TapeTree}
use Rattle.sim_flat.specs.declared.flat.Flat.{Flat}
use Rattle.sim_flat.specs.Flat.{HasNumber}
use Rattle.sim_design.specs.States.{IsFree, AreRead, TellsNumbers}

-- only nets that have their numbers from no other net have pairs
abbrev pub AreFree : List ModuleTree → ModuleTree → Flat → List (Option Pair) → Type 0
AreFree ms top f pairs = (number : ℕ) (n : FlatNet) (p : Pair) → HasNumber ms f number n → get_or pairs number None ≡ Some p → IsFree ms top n

-- all nets that have their numbers from no other net, but the clocks, have pairs
abbrev pub AllFree : List ModuleTree → ModuleTree → Flat → List (Option Pair) → Type 0
AllFree ms top f pairs = (number : ℕ) (n : FlatNet) → HasNumber ms f number n → IsFree ms top n → is_clk n.1 ≡ false → IsSome (get_or pairs number None)

-- pairs that are there stay
abbrev pub AreKept : List (Option Pair) → List (Option Pair) → Type 0
AreKept old new = (number : ℕ) (p : Pair) → get_or old number None ≡ Some p → get_or new number None ≡ Some p

-- pairs that a tape determines, and more ones that a later tape determines
pub record ArePlacedMore (ms : List ModuleTree) (top : ModuleTree) (f : Flat) (memories old : List (Option Pair)) (s : TapeTree) (new : List (Option Pair)) (t : TapeTree) : Type 0 where
  pub count : length new ≡ length old
  pub read : length old ≡ length f.owners.items → AreRead ms top f old → AreRead ms top f new
  pub tells : length old ≡ length f.owners.items → AreRead ms top f old → TellsNumbers ms top f old memories s → TellsNumbers ms top f new memories t
