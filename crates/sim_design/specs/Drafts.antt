-- A design on a tape.
use Rattle.std.specs.Prelude.{◌≡◌, ◌⊎◌, ℕ, ◌+◌, ◌*◌, List, Option, Some, None, length, get_or, slice_get}
use Rattle.vlog_tree.specs.declared.tree.Item.TheVariants.{Reg, Memory}
use Rattle.vlog_tree.specs.declared.table.NetKind.TheVariants.{MemoryArray}
use Rattle.vlog_tree.specs.Form.{ModuleTree}
use Rattle.tapa_base.specs.Lists.{Has}
use Rattle.vlog_tree.specs.Flattened.{FlatNet}
use Rattle.vlog_tree.specs.Table.{declared, net_kind_of}
use Rattle.vlog_tree.specs.Cycle.{Cycle, Sizes, Path, module_at, run_items}
use Rattle.vlog_tree.specs.Environment.{shape_of}
use Rattle.sim_tape.specs.declared.gates.Pair.{Pair}
use Rattle.sim_tape.specs.Operators.{Cells}
use Rattle.sim_tape.specs.Tape.{TapeTree, IsTape, pair_value}
use Rattle.sim_tape.specs.Solved.{IsSolved}
use Rattle.sim_tape.specs.Trees.{tree_of}
use Rattle.sim_gates.specs.declared.writes.Store.{Store}
use Rattle.sim_gates.specs.Next.{cell_after}
use Rattle.sim_flat.specs.declared.flat.Flat.{Flat}
use Rattle.sim_flat.specs.Flat.{IsFlat, HasNumber}
use Rattle.sim_design.specs.declared.drafts.Commit.{Commit}
use Rattle.sim_design.specs.declared.drafts.Width.{Width}
use Rattle.sim_design.specs.declared.drafts.TapeDraft.{TapeDraft}
use Rattle.sim_design.specs.Valuations.{IsLawful, IsValuation}
use Rattle.sim_design.specs.States.{ShowsPlaced, TellsNumbers}
use Rattle.sim_design.specs.Given.{ArePlaced, AreGiven}

-- The memories inside have two numbers each, one after the other, after those of the memories outside.
pub record AreMemories (ms : List ModuleTree) (top : ModuleTree) (f : Flat) (memories : List (Option Pair)) (widths : List Width) : Type 0 where
  pub count : length memories ≡ length f.owners.items
  pub all : (number : ℕ) (n : FlatNet) (m : ModuleTree) (w k : ℕ) → HasNumber ms f number n → module_at ms top n.0 ≡ Some m → Has m.items (Memory w n.1 k)
      → (i : ℕ) × (slice_get widths i ≡ Some (record { pair = record { low = length (shape_of top).memories + 2 * i; high = length (shape_of top).memories + 2 * i + 1 }; bits = w; cells = k }))
      × (get_or memories number None ≡ Some (record { low = length (shape_of top).memories + 2 * i; high = length (shape_of top).memories + 2 * i + 1 }))
  pub only : (number : ℕ) (n : FlatNet) (m : ModuleTree) (q : Pair) → HasNumber ms f number n → module_at ms top n.0 ≡ Some m → get_or memories number None ≡ Some q
      → net_kind_of (declared m) n.1 ≡ MemoryArray
  pub own : (number other : ℕ) (p q : Pair) → get_or memories number None ≡ Some p → get_or memories other None ≡ Some q → p.low ≡ q.low → number ≡ other

-- commits bring the numbers of one pair into another
abbrev pub IsCommitted : List Commit → Pair → Pair → Type 0
IsCommitted commits p q = Has commits (record { slot = p.low; next = q.low }) × ((p.high ≡ 0) ⊎ Has commits (record { slot = p.high; next = q.high }))

-- a slot is one of a register's
pub record IsSlotOf (ms : List ModuleTree) (top : ModuleTree) (f : Flat) (pairs : List (Option Pair)) (slot : ℕ) : Type 0 where
  pub number : ℕ
  pub net : FlatNet
  pub has_number : HasNumber ms f number net
  pub tree : ModuleTree
  pub at : module_at ms top net.0 ≡ Some tree
  pub width : ℕ
  pub line : Has tree.items (Reg width net.1)
  pub pair : Pair
  pub placed : get_or pairs number None ≡ Some pair
  pub is : (slot ≡ pair.low) ⊎ (slot ≡ pair.high)

-- Where a tape is solved and shows all nets of a cycle, each register has in the next cycle what it takes over, and each cell
-- what is stored.
pub record AreNext (ms : List ModuleTree) (top : ModuleTree) (f : Flat) (pairs memories : List (Option Pair)) (t : TapeTree) (commits : List Commit) (stores : List Store) : Type 0 where
  pub registers : (number : ℕ) (n : FlatNet) (m : ModuleTree) (w : ℕ) (p : Pair) → HasNumber ms f number n → module_at ms top n.0 ≡ Some m → Has m.items (Reg w n.1)
      → get_or pairs number None ≡ Some p
      → (q : Pair) × IsCommitted commits p q
      × ((cells : Cells) (ns : List ℕ) (c : Path → Cycle) (s : Sizes) → IsSolved t cells ns → IsValuation ms top c → ShowsPlaced ms f pairs c ns
      → IsLawful m s (c n.0) → (run_items s (c n.0) m.items (c n.0)).net n.1 ≡ pair_value ns q)
  pub cells : (number : ℕ) (n : FlatNet) (m : ModuleTree) (w k : ℕ) (q : Pair) → HasNumber ms f number n → module_at ms top n.0 ≡ Some m
      → Has m.items (Memory w n.1 k) → get_or memories number None ≡ Some q
      → (cells : Cells) (ns : List ℕ) (c : Path → Cycle) (s : Sizes) → IsSolved t cells ns → IsValuation ms top c → ShowsPlaced ms f pairs c ns → IsLawful m s (c n.0)
      → (a : ℕ) → (run_items s (c n.0) m.items (c n.0)).cell n.1 a ≡ cell_after ns k q a stores ((c n.0).cell n.1 a)
  -- only registers take over numbers, each slot at most once
  pub slots : (a : Commit) → Has commits a → IsSlotOf ms top f pairs a.slot
  pub once : (i j : ℕ) (a b : Commit) → slice_get commits i ≡ Some a → slice_get commits j ≡ Some b → a.slot ≡ b.slot → i ≡ j
  -- stores are into memories inside
  pub known : (u : Store) → Has stores u → (number : ℕ) × (get_or memories number None ≡ Some u.memory)

-- a design on a tape
pub record IsDraft (ms : List ModuleTree) (top : ModuleTree) (f : Flat) (d : TapeDraft) : Type 0 where
  pub flat : IsFlat ms top f
  pub tape : IsTape (tree_of d.tape)
  pub placed : ArePlaced ms top f d.pairs.items
  pub given : AreGiven ms top f d.pairs.items (tree_of d.tape)
  pub numbered : AreMemories ms top f d.memories.items d.cells.items
  pub tells : TellsNumbers ms top f d.pairs.items d.memories.items (tree_of d.tape)
  pub next : AreNext ms top f d.pairs.items d.memories.items (tree_of d.tape) d.commits.items d.stores.items
