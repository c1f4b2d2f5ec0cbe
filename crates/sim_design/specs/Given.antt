-- Slots that are given from outside, and which nets have pairs.
use Rattle.std.specs.Prelude.{◌≡◌, ◌≢◌, ◌⊎◌, ℕ, ◌<◌, ◌≤◌, false, List, Option, Some, None, IsSome, IsTrue, length, get_or}
use Rattle.vlog_tree.specs.Form.{ModuleTree}
use Rattle.vlog_tree.specs.Flattened.{FlatNet}
use Rattle.vlog_tree.specs.Table.{Name, is_clk, declared, net_kind_of, net_kind_is_read, bits_of}
use Rattle.vlog_tree.specs.Cycle.{module_at}
use Rattle.sim_tape.specs.declared.gates.Pair.{Pair}
use Rattle.sim_tape.specs.declared.gates.Rule.TheVariants.{Given}
use Rattle.sim_tape.specs.Tape.{TapeTree, gate_at}
use Rattle.sim_flat.specs.declared.flat.Flat.{Flat}
use Rattle.sim_flat.specs.Flat.{HasNumber}
use Rattle.sim_flat.specs.declared.tables.Source.{Source}
use Rattle.sim_flat.specs.declared.tables.Source.TheVariants as source
use Rattle.vlog_tree.specs.Labels.{rdata_of}
use Rattle.sim_design.specs.States.{IsFree}

-- just the nets that can be read, but the clocks, have pairs of slots
pub record ArePlaced (ms : List ModuleTree) (top : ModuleTree) (f : Flat) (pairs : List (Option Pair)) : Type 0 where
  pub count : length pairs ≡ length f.owners.items
  pub all : (number : ℕ) (n : FlatNet) (m : ModuleTree) → HasNumber ms f number n → module_at ms top n.0 ≡ Some m
      → IsTrue (net_kind_is_read (net_kind_of (declared m) n.1)) → is_clk n.1 ≡ false → IsSome (get_or pairs number None)
  pub only : (number : ℕ) (n : FlatNet) (m : ModuleTree) (p : Pair) → HasNumber ms f number n → module_at ms top n.0 ≡ Some m → get_or pairs number None ≡ Some p
      → IsTrue (net_kind_is_read (net_kind_of (declared m) n.1)) × (is_clk n.1 ≡ false)

-- a slot that is given from outside
abbrev pub IsGivenSlot : TapeTree → ℕ → Type 0
IsGivenSlot t s = (0 < s) × (s < length t.gates) × ((gate_at t.gates s).rule ≡ Given)

-- the slots of a pair are given from outside, the high one where there are more than 64 bits, and else it is slot 0
abbrev pub IsGivenPair : TapeTree → ℕ → Pair → Type 0
IsGivenPair t bits p = IsGivenSlot t p.low × (((bits ≤ 64) × (p.high ≡ 0)) ⊎ ((64 < bits) × IsGivenSlot t p.high × (p.low ≢ p.high)))

-- two pairs have no slot in common but slot 0
abbrev pub HaveOwnSlots : Pair → Pair → Type 0
HaveOwnSlots p q = (p.low ≢ q.low) × (p.low ≢ q.high) × (p.high ≢ q.low) × ((p.high ≡ 0) ⊎ (p.high ≢ q.high))

-- the slots of a pair, but slot 0, are at least m
abbrev pub IsBehind : ℕ → Pair → Type 0
IsBehind m p = (m ≤ p.low) × ((p.high ≡ 0) ⊎ (m ≤ p.high))

-- no two pairs have a slot in common, and none has slot 0 for its low half
pub record HaveOwn (pairs : List (Option Pair)) : Type 0 where
  pub some : (i : ℕ) (p : Pair) → get_or pairs i None ≡ Some p → 0 < p.low
  pub own : (i j : ℕ) (p q : Pair) → i ≢ j → get_or pairs i None ≡ Some p → get_or pairs j None ≡ Some q → HaveOwnSlots p q

-- registers and inputs of the top have slots of their own, which are given from outside
pub record AreGiven (ms : List ModuleTree) (top : ModuleTree) (f : Flat) (pairs : List (Option Pair)) (t : TapeTree) : Type 0 where
  pub given : (number : ℕ) (n : FlatNet) (m : ModuleTree) (p : Pair) → HasNumber ms f number n → module_at ms top n.0 ≡ Some m → IsFree ms top n
      → get_or pairs number None ≡ Some p → IsGivenPair t (bits_of (declared m) n.1) p
  pub own : (number other : ℕ) (n k : FlatNet) (p q : Pair) → HasNumber ms f number n → HasNumber ms f other k → IsFree ms top n → IsFree ms top k → number ≢ other
      → get_or pairs number None ≡ Some p → get_or pairs other None ≡ Some q → HaveOwnSlots p q

-- the name of an instance has its number from no other
abbrev pub IsFreeSource : ℕ → Name → Source → Type 0
IsFreeSource k x source.Register = Unit {0}
IsFreeSource k x source.Input = (k ≡ 0) × (rdata_of x ≡ None)
IsFreeSource k x source.Nothing = ⊥
IsFreeSource k x (source.Line l) = ⊥
IsFreeSource k x (source.Child c p) = ⊥

-- a net that has its number from no other, and is no clock, has slots that are given from outside
pub record IsGivenNet (ms : List ModuleTree) (top : ModuleTree) (n : FlatNet) (t : TapeTree) (p : Pair) : Type 0 where
  pub tree : ModuleTree
  pub at : module_at ms top n.0 ≡ Some tree
  pub free : IsFree ms top n
  pub clock : is_clk n.1 ≡ false
  pub given : IsGivenPair t (bits_of (declared tree) n.1) p

-- only such nets have slots
abbrev pub AreGivenNets : List ModuleTree → ModuleTree → Flat → List (Option Pair) → TapeTree → Type 0
AreGivenNets ms top f pairs t = (number : ℕ) (n : FlatNet) (p : Pair) → HasNumber ms f number n → get_or pairs number None ≡ Some p → IsGivenNet ms top n t p
