-- What a step writes into slots and cells.
use Rattle.std.specs.Prelude.{◌≡◌, ◌≢◌, ◌⊎◌, ℕ, ◌<◌, ◌==◌, Bool, ◌&&◌, List, [], ◌∷◌, Some, slice_get, slice_index_or, if◌then◌else◌}
use Rattle.vlog_tree.specs.Environment.{ready_at, set_cell}
use Rattle.sim_tape.specs.declared.gates.Pair.{Pair}
use Rattle.sim_tape.specs.Tape.{number_at}
use Rattle.sim_gates.specs.declared.writes.Store.{Store}
use Rattle.sim_design.specs.declared.drafts.Commit.{Commit}
use Rattle.cycle_sim.specs.declared.inputs.Supply.{Supply}
use Rattle.cycle_sim.specs.declared.inputs.Supply.TheVariants.{Reset, Scalar, Ready}
use Rattle.cycle_sim.specs.declared.inputs.Input.{Input}
use Rattle.cycle_sim.specs.declared.cells.Outside.{Outside}

-- a slot is none of a pair's
abbrev pub IsAway : ℕ → Pair → Type 0
IsAway k p = (k ≢ p.low) × ((p.high ≡ 0) ⊎ (k ≢ p.high))

-- a pair has a number of at most 64 bits
abbrev pub PairHas : List ℕ → Pair → ℕ → Type 0
PairHas ns p v = (number_at ns p.low ≡ v) × ((p.high ≡ 0) ⊎ (number_at ns p.high ≡ 0))

-- the slots of a pair are below n, and two
abbrev pub HasRoom : ℕ → Pair → Type 0
HasRoom n p = (p.low < n) × (p.high < n) × ((p.high ≡ 0) ⊎ (p.low ≢ p.high))

-- inputs have slots below n, each its own
pub record HaveSlots (n : ℕ) (inputs : List Input) : Type 0 where
  pub room : (i : ℕ) (a : Input) → slice_get inputs i ≡ Some a → HasRoom n a.pair
  pub own : (i j : ℕ) (a b : Input) → i < j → slice_get inputs i ≡ Some a → slice_get inputs j ≡ Some b → IsAway a.pair.low b.pair × ((a.pair.high ≡ 0) ⊎ IsAway a.pair.high b.pair)

-- what an input is given in a cycle, by when the memories around are ready
abbrev pub supplied : List (List Bool) → ℕ → Supply → ℕ
supplied ready cycle Reset = if cycle == 0 then 1 else 0
supplied ready cycle (Scalar v) = v
supplied ready cycle (Ready place) = ready_at (slice_index_or ready place []) cycle

-- no slot takes over twice
abbrev pub AreOnce : List Commit → Type 0
AreOnce commits = (i j : ℕ) (a b : Commit) → slice_get commits i ≡ Some a → slice_get commits j ≡ Some b → a.slot ≡ b.slot → i ≡ j

-- a list of cells after one is written in the list of a number
abbrev pub put_list : ℕ → ℕ → ℕ → ℕ → List ℕ → List ℕ
put_list memory at n m cells = if m == memory then set_cell cells at n else cells

-- a store is made: its condition is 1, and its address has at most 64 bits
abbrev pub is_made : List ℕ → Store → Bool
is_made ns t = (number_at ns t.on == 1) && (number_at ns t.at.high == 0)

-- the list of cells of a number after a store, and after all stores
abbrev pub stored_list : List ℕ → Store → ℕ → List ℕ → List ℕ
stored_list ns t m cells =
    if is_made ns t
    then put_list t.memory.high (number_at ns t.at.low) (number_at ns t.value.high) m (put_list t.memory.low (number_at ns t.at.low) (number_at ns t.value.low) m cells)
    else cells

abbrev pub stored_all : List ℕ → ℕ → List ℕ → List Store → List ℕ
stored_all ns m cells [] = cells
stored_all ns m cells (t ∷ stores) = stored_all ns m (stored_list ns t m cells) stores

-- a pair has the number 1
abbrev pub is_one : List ℕ → Pair → Bool
is_one ns p = (number_at ns p.high == 0) && (number_at ns p.low == 1)

-- a memory around the design is written
abbrev pub is_written : List ℕ → Outside → Bool
is_written ns o = is_one ns o.ack && (is_one ns o.we && (number_at ns o.addr.high == 0))

-- the cells of a memory around the design after its write in a cycle
abbrev pub outside_list : List ℕ → Outside → List ℕ → List ℕ
outside_list ns o cells =
    if is_written ns o then set_cell cells (number_at ns o.addr.low) (number_at ns o.wdata) else cells
