-- What registers and memories have in the next cycle, by the numbers of slots in this one.
use Rattle.std.specs.Prelude.{◌≡◌, ℕ, Bool, ◌&&◌, List, [], ◌∷◌, Option, Some, None, get_or, is_some, nat_lt, ◌==◌, if◌then◌else◌}
use Rattle.vlog_tree.specs.declared.tree.Step.{Step}
use Rattle.vlog_tree.specs.declared.tree.Item.{Item}
use Rattle.vlog_tree.specs.declared.table.Declaration.{Declaration}
use Rattle.vlog_tree.specs.Table.{Name}
use Rattle.tapa_base.specs.Lists.{Has}
use Rattle.vlog_tree.specs.Cycle.{Cycle, Sizes, run_steps, run_items}
use Rattle.sim_tape.specs.declared.gates.Pair.{Pair}
use Rattle.sim_tape.specs.Tape.{number_at, pair_value}
use Rattle.sim_gates.specs.Nets.{pair_in}
use Rattle.sim_gates.specs.declared.parts.Part.{Part}
use Rattle.sim_gates.specs.declared.writes.Store.{Store}
use Rattle.sim_gates.specs.Parts.{parts_run, WalkShows}

-- whether a store writes this cell of the memory with these two numbers, which has `count` cells
abbrev pub hits : List ℕ → ℕ → Pair → ℕ → Store → Bool
hits ns count q a t = (number_at ns t.on == 1) && ((t.memory.low == q.low) && (a == pair_value ns t.at) && nat_lt (pair_value ns t.at) count)

-- a cell of a memory after stores, one after another
abbrev pub cell_after : List ℕ → ℕ → Pair → ℕ → List Store → ℕ → ℕ
cell_after ns count q a [] n = n
cell_after ns count q a (t ∷ stores) n = cell_after ns count q a stores (if hits ns count q a t then pair_value ns t.value else n)

-- the nets of a cycle are in these pairs
abbrev pub NetsNext : List Declaration → List (Option Pair) → Cycle → List ℕ → Type 0
NetsNext ds next now ns = (x : Name) (p : Pair) → pair_in ds next x ≡ Some p → now.net x ≡ pair_value ns p

-- the cells of a cycle are those of a first one after stores
abbrev pub CellsNext : List Declaration → List (Option Pair) → List Store → Sizes → Cycle → Cycle → List ℕ → Type 0
CellsNext ds memories stores s first now ns =
    (m : Name) (q : Pair) → pair_in ds memories m ≡ Some q → (a : ℕ) → now.cell m a ≡ cell_after ns (s.cells m) q a stores (first.cell m a)

-- a cycle is what pairs and stores make of a first one
pub record ShowsNext (ds : List Declaration) (memories next : List (Option Pair)) (stores : List Store) (s : Sizes) (first now : Cycle) (ns : List ℕ) : Type 0 where
  pub nets : NetsNext ds next now ns
  pub cells : CellsNext ds memories stores s first now ns

-- two memories have no number in common
abbrev pub AreApart : List Declaration → List (Option Pair) → Type 0
AreApart ds memories = (m k : Name) (p q : Pair) → pair_in ds memories m ≡ Some p → pair_in ds memories k ≡ Some q → p.low ≡ q.low → m ≡ k

-- stores are into memories that have numbers
abbrev pub AreKnown : List Declaration → List (Option Pair) → List Store → Type 0
AreKnown ds memories stores = (t : Store) → Has stores t → (m : Name) × (pair_in ds memories m ≡ Some t.memory)

-- pairs are at the same indices
abbrev pub SamePlaces : List (Option Pair) → List (Option Pair) → Type 0
SamePlaces old new = (i : ℕ) → is_some (get_or new i None) ≡ is_some (get_or old i None)

-- the pair at one index has the number of another where a slot is 1, and nothing else changes
abbrev pub IsPut : List ℕ → ℕ → Pair → ℕ → List (Option Pair) → List (Option Pair) → Type 0
IsPut ns on value place old new =
    (i : ℕ) (p : Pair) → get_or new i None ≡ Some p
    → (q : Pair) × (get_or old i None ≡ Some q) × (pair_value ns p ≡ (if (i == place) && (number_at ns on == 1) then pair_value ns value else pair_value ns q))

-- the steps that are left run on what those before them left
pub record StepsLeft (ds : List Declaration) (memories next : List (Option Pair)) (stores : List Store) (on : ℕ) (parts : List Part) (steps rest : List Step)
    (s : Sizes) (c first now : Cycle) (ns : List ℕ) : Type 0 where
  pub after : Cycle
  pub walk : WalkShows ns on parts
  pub shows : ShowsNext ds memories next stores s first after ns
  pub same : run_steps s c [] steps now ≡ run_steps s c (parts_run ns parts) rest after

-- the lines that are left run on what those before them left
pub record ItemsLeft (ds : List Declaration) (memories next : List (Option Pair)) (stores : List Store) (items rest : List Item) (s : Sizes) (c : Cycle) (ns : List ℕ) : Type 0 where
  pub after : Cycle
  pub shows : ShowsNext ds memories next stores s c after ns
  pub same : run_items s c items c ≡ run_items s c rest after
