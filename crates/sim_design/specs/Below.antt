-- What the blocks of the first instances leave.
use Rattle.std.specs.Prelude.{◌≡◌, ◌≢◌, ◌⊎◌, ℕ, ◌<◌, List, [], ◌∷◌, Option, Some, None, get_or}
use Rattle.vlog_tree.specs.declared.tree.Item.TheVariants.{Reg, Memory}
use Rattle.vlog_tree.specs.Form.{ModuleTree}
use Rattle.tapa_base.specs.Lists.{Has}
use Rattle.vlog_tree.specs.Flattened.{FlatNet}
use Rattle.vlog_tree.specs.Cycle.{Cycle, Sizes, Path, module_at, run_items}
use Rattle.sim_tape.specs.declared.gates.Pair.{Pair}
use Rattle.sim_tape.specs.Operators.{Cells}
use Rattle.sim_tape.specs.Tape.{TapeTree, pair_value}
use Rattle.sim_tape.specs.Solved.{IsSolved}
use Rattle.sim_gates.specs.declared.writes.Store.{Store}
use Rattle.sim_gates.specs.Next.{cell_after}
use Rattle.sim_flat.specs.declared.flat.Flat.{Flat}
use Rattle.sim_flat.specs.Flat.{IsFlat, HasNumber}
use Rattle.sim_design.specs.Valuations.{IsLawful, IsValuation}
use Rattle.sim_design.specs.States.{ShowsPlaced}
use Rattle.sim_design.specs.Given.{ArePlaced, AreGiven}
use Rattle.sim_design.specs.declared.drafts.Commit.{Commit}
use Rattle.sim_design.specs.declared.drafts.Width.{Width}
use Rattle.sim_design.specs.Drafts.{AreMemories, IsCommitted}

-- the nets of a flattened design have pairs, and its memories have numbers
pub record HasPlaces (ms : List ModuleTree) (top : ModuleTree) (f : Flat) (pairs memories : List (Option Pair)) (widths : List Width) (t : TapeTree) : Type 0 where
  pub flat : IsFlat ms top f
  pub placed : ArePlaced ms top f pairs
  pub given : AreGiven ms top f pairs t
  pub numbered : AreMemories ms top f memories widths

-- a pair has what a register has in the next cycle, wherever a tape is solved and shows all nets of a cycle
abbrev pub IsNextOf : List ModuleTree → ModuleTree → Flat → List (Option Pair) → TapeTree → FlatNet → ModuleTree → Pair → Type 0
IsNextOf ms top f pairs t n m q =
    (cells : Cells) (ns : List ℕ) (c : Path → Cycle) (s : Sizes) → IsSolved t cells ns → IsValuation ms top c → ShowsPlaced ms f pairs c ns → IsLawful m s (c n.0)
    → (run_items s (c n.0) m.items (c n.0)).net n.1 ≡ pair_value ns q

-- stores leave what the cells of a memory, `count` in number, have in the next cycle
abbrev pub AreCellsOf : List ModuleTree → ModuleTree → Flat → List (Option Pair) → TapeTree → FlatNet → ModuleTree → ℕ → Pair → List Store → Type 0
AreCellsOf ms top f pairs t n m count q stores =
    (cells : Cells) (ns : List ℕ) (c : Path → Cycle) (s : Sizes) → IsSolved t cells ns → IsValuation ms top c → ShowsPlaced ms f pairs c ns → IsLawful m s (c n.0)
    → (a : ℕ) → (run_items s (c n.0) m.items (c n.0)).cell n.1 a ≡ cell_after ns count q a stores ((c n.0).cell n.1 a)

-- a slot is one of the pair of the register with this number, which is in one of the first instances
pub record IsRegisterSlot (ms : List ModuleTree) (top : ModuleTree) (f : Flat) (pairs : List (Option Pair)) (k number slot : ℕ) : Type 0 where
  pub net : FlatNet
  pub has_number : HasNumber ms f number net
  pub early : has_number.instance < k
  pub tree : ModuleTree
  pub at : module_at ms top net.0 ≡ Some tree
  pub width : ℕ
  pub line : Has tree.items (Reg width net.1)
  pub pair : Pair
  pub placed : get_or pairs number None ≡ Some pair
  pub is : (slot ≡ pair.low) ⊎ ((slot ≡ pair.high) × (pair.high ≢ 0))

-- a store is into a memory of one of the first instances
pub record IsStoreBelow (ms : List ModuleTree) (f : Flat) (memories : List (Option Pair)) (k : ℕ) (u : Store) : Type 0 where
  pub number : ℕ
  pub net : FlatNet
  pub has_number : HasNumber ms f number net
  pub early : has_number.instance < k
  pub numbered : get_or memories number None ≡ Some u.memory

-- no two commits have one slot
abbrev pub AreOnce : List Commit → Type 0
AreOnce [] = Unit {0}
AreOnce (a ∷ commits) = ((b : Commit) → Has commits b → a.slot ≢ b.slot) × AreOnce commits

-- what registers and memories of the first instances have in the next cycle
pub record AreNextBelow (ms : List ModuleTree) (top : ModuleTree) (f : Flat) (pairs memories : List (Option Pair)) (t : TapeTree) (commits : List Commit) (stores : List Store) (k : ℕ) : Type 0 where
  pub registers : (number : ℕ) (n : FlatNet) (m : ModuleTree) (w : ℕ) (p : Pair) (h : HasNumber ms f number n) → h.instance < k → module_at ms top n.0 ≡ Some m
      → Has m.items (Reg w n.1) → get_or pairs number None ≡ Some p
      → (q : Pair) × IsCommitted commits p q × IsNextOf ms top f pairs t n m q
  pub cells : (number : ℕ) (n : FlatNet) (m : ModuleTree) (w count : ℕ) (q : Pair) (h : HasNumber ms f number n) → h.instance < k → module_at ms top n.0 ≡ Some m
      → Has m.items (Memory w n.1 count) → get_or memories number None ≡ Some q
      → AreCellsOf ms top f pairs t n m count q stores
  pub slots : (a : Commit) → Has commits a → (number : ℕ) × IsRegisterSlot ms top f pairs k number a.slot
  pub once : AreOnce commits
  pub known : (u : Store) → Has stores u → IsStoreBelow ms f memories k u
