-- Which slots of a tape nets have, and when slots and cells show the numbers of a cycle.
use Rattle.std.specs.Prelude.{◌≡◌, ℕ, ◌*◌, ◌+◌, ◌<◌, ◌^◌, Bool, List, Option, Some, None, IsSome, IsTrue, get_or, map}
use Rattle.vlog_tree.specs.declared.table.Declaration.{Declaration}
use Rattle.vlog_tree.specs.Table.{Name, declaration_name, bits_of, cells_of}
use Rattle.vlog_tree.specs.declared.tree.Atom.{Atom}
use Rattle.vlog_tree.specs.Cycle.{Cycle, Sizes, and_then, atom_value, atom_width, read_cell}
use Rattle.vlog_tree.specs.V3.{atom_bits, atom_fits}
use Rattle.tapa_base.specs.Lists.{Has}
use Rattle.vlog_scope.specs.NameTable.{places_from}
use Rattle.sim_tape.specs.declared.gates.Pair.{Pair}
use Rattle.sim_tape.specs.Operators.{Cells, cell_in}
use Rattle.sim_tape.specs.Tape.{TapeTree, pair_value, PairBefore}
use Rattle.sim_tape.specs.Solved.{IsSolved}

-- the pair at the first index of a name
abbrev pub pair_in : List Declaration → List (Option Pair) → Name → Option Pair
pair_in ds pairs x = and_then (places_from 0 (map declaration_name ds) x) (λ (p : ℕ × Bool). get_or pairs p.0 None)

-- all of these names have pairs
abbrev pub HavePairs : List Declaration → List (Option Pair) → List Name → Type 0
HavePairs ds pairs xs = (x : Name) → Has xs x → IsSome (pair_in ds pairs x)

-- the slots of all nets are below n
abbrev pub SlotsBefore : List (Option Pair) → ℕ → Type 0
SlotsBefore pairs n = (i : ℕ) (p : Pair) → get_or pairs i None ≡ Some p → PairBefore n p

-- The nets that have slots have in them what they have in a cycle, they fit their widths, and the sizes are those that are
-- declared.
pub record ShowsNets (ds : List Declaration) (pairs : List (Option Pair)) (s : Sizes) (c : Cycle) (ns : List ℕ) : Type 0 where
  pub value : (x : Name) (p : Pair) → pair_in ds pairs x ≡ Some p → c.net x ≡ pair_value ns p
  pub fits : (x : Name) (p : Pair) → pair_in ds pairs x ≡ Some p → c.net x < 2 ^ bits_of ds x
  pub width : (x : Name) (p : Pair) → pair_in ds pairs x ≡ Some p → s.width x ≡ bits_of ds x

-- The memories that have the numbers of two lists of cells have in them the low and the high halves of what they have in a
-- cycle, 0 past the end; it fits their widths, and they have the number of cells that is declared.
pub record ShowsMemories (ds : List Declaration) (memories : List (Option Pair)) (s : Sizes) (c : Cycle) (cells : Cells) : Type 0 where
  pub value : (m : Name) (q : Pair) → pair_in ds memories m ≡ Some q → (a : ℕ) → read_cell s c m a ≡ cell_in cells q.high a * 2 ^ 64 + cell_in cells q.low a
  pub fits : (m : Name) (q : Pair) → pair_in ds memories m ≡ Some q → (a : ℕ) → read_cell s c m a < 2 ^ bits_of ds m
  pub count : (m : Name) (q : Pair) → pair_in ds memories m ≡ Some q → s.cells m ≡ cells_of ds m

-- what holds of a cycle wherever a tape is solved and shows the nets of the cycle
abbrev pub Told : List Declaration → List (Option Pair) → TapeTree → (Sizes → Cycle → List ℕ → Type 0) → Type 0
Told ds pairs t P = (cells : Cells) (ns : List ℕ) (s : Sizes) (c : Cycle) → IsSolved t cells ns → ShowsNets ds pairs s c ns → P s c ns

-- a pair has an atom's number, which fits the atom's bits where the rule on widths takes it
pub record IsAtom (ds : List Declaration) (a : Atom) (s : Sizes) (c : Cycle) (ns : List ℕ) (p : Pair) : Type 0 where
  pub value : atom_value c a ≡ pair_value ns p
  pub below : IsTrue (atom_fits ds a) → pair_value ns p < 2 ^ atom_bits ds a
  pub width : atom_width s a ≡ atom_bits ds a
