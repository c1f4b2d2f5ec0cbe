-- What contracts say of a net, and what resuming one of its instances does.
use Rattle.std.specs.Prelude.{◌≡◌, ℕ, ◌+◌, ◌<◌, ◌≤◌, ◌⊎◌, ◌==◌, if◌then◌else◌, length, true, false, Some, None, slice_get, slice_set}
use Rattle.tapa_syntax.specs.declared.program.Program.{Program}
use Rattle.kahn_model.specs.Network.{Network, IsNetwork}
use Rattle.kahn_model.specs.Counts.{written, taken, total, IsAllowed, IsReachable}
use Rattle.kahn_model.specs.Outcome.{joined_ticks, IsCapped}
use Rattle.net_core.specs.declared.body.Pause.{Pause}
use Rattle.net_core.specs.declared.body.Pause.TheVariants.{Fuel}
use Rattle.net_core.specs.declared.input.Input.{Input}
use Rattle.net_core.specs.declared.net_state.NetState.{NetState}
use Rattle.tapa_syntax.specs.WellFormed.{IsWellFormed}
use Rattle.kahn_model.specs.Fits.{FitsInput}
use Rattle.net_core.specs.Bindings.{IsConnected, IsFedBySelf, stream_at, Reads, Writes, producer_of, consumer_of}
use Rattle.net_core.specs.Bounded.{scalars_of, memories_of, network_on, count_of}
use Rattle.net_core.specs.Waits.{HoldsPause, HasHeld}

-- the network of a net's program on its input
abbrev pub network : NetState → Network
network net = network_on net.program net.input

-- the ticks that each instance has made
abbrev pub count : NetState → ℕ → ℕ
count net = count_of net.counts

-- the ticks of all instances
abbrev pub total_ticks : NetState → ℕ
total_ticks net = total (network net).size (count net)

-- the ticks of those that are waited for
abbrev pub joined_total : NetState → ℕ
joined_total net = joined_ticks (network net) (count net)

-- what a net keeps: its program and its input
abbrev pub given : NetState → Program × Input
given net = (net.program, net.input)

-- what holds of every net
pub record IsValid (net : NetState) : Type 0 where
  pub well_formed : IsWellFormed net.program
  pub fits : FitsInput net.program (scalars_of net.input) (memories_of net.input)
  pub connected : IsConnected net.program
  pub is_network : IsNetwork (network net)
  pub size : (network net).size ≡ length net.program.instances.items
  pub reachable : IsReachable (network net) (count net)
  pub counts_len : length net.counts ≡ length net.program.instances.items
  pub unresumed : (i : ℕ) → slice_get net.pauses i ≡ Some None → count net i ≡ 0
  pub paused : (i : ℕ) (x : Pause) → slice_get net.pauses i ≡ Some (Some x) → HasHeld (network net) (count net) i (stream_at net.program i) x
  pub pauses_len : length net.pauses ≡ length net.program.instances.items

-- no instance was resumed
pub record IsNew (net : NetState) : Type 0 where
  pub none_made : (i : ℕ) → count net i ≡ 0
  pub none_resumed : (i : ℕ) → i < length net.program.instances.items → slice_get net.pauses i ≡ Some None

-- the part that is kept of the answer of a call that made `made` ticks: the answer, or that the instance can continue, if its ticks may have changed what it waits for
pub record IsToldFor (program : Program) (i made : ℕ) (pause told : Pause) : Type 0 where
  pub cases : (told ≡ pause) ⊎ (IsFedBySelf program i × (0 < made) × (told ≡ Fuel))
  pub fed : IsFedBySelf program i → 0 < made → told ≡ Fuel

-- what a call with this fuel did to a net
pub record HasResumed (old new : NetState) (i fuel : ℕ) (pause : Pause) (made : ℕ) : Type 0 where
  pub given : given new ≡ given old
  pub counts : (j : ℕ) → count new j ≡ (if j == i then count old j + made else count old j)
  pub within : made ≤ fuel
  pub fuel_spent : pause ≡ Fuel → (made ≡ fuel) × IsAllowed (network old) (count new) i
  pub told : Pause
  pub is_told : IsToldFor old.program i made pause told
  pub pauses : new.pauses ≡ slice_set old.pauses i (Some told)
  pub written_else : (s : ℕ) → ((p : ℕ) → Writes old.program i p → stream_at old.program i p ≡ s → ⊥) → written (network old) (count new) s ≡ written (network old) (count old) s
  pub taken_else : (s : ℕ) → ((p : ℕ) → Reads old.program i p → stream_at old.program i p ≡ s → ⊥) → taken (network old) (count new) s ≡ taken (network old) (count old) s
  pub own :
      (pause ≡ Fuel → ⊥) → ((p : ℕ) → Reads old.program i p
      → written (network old) (count new) (stream_at old.program i p) ≡ written (network old) (count old) (stream_at old.program i p))
      → ((p : ℕ) → Writes old.program i p → taken (network old) (count new) (stream_at old.program i p) ≡ taken (network old) (count old)
      (stream_at old.program i p)) → HoldsPause (network old) (count new) i (stream_at old.program i) pause
  pub others :
      (j : ℕ) (x : Pause) → (j ≡ i → ⊥) → j < length old.program.instances.items
      → ((s : ℕ) → consumer_of old.program s ≡ j → written (network old) (count new) s ≡ written (network old) (count old) s)
      → ((s : ℕ) → producer_of old.program s ≡ j → taken (network old) (count new) s ≡ taken (network old) (count old) s) → (x ≡ Fuel → ⊥)
      → HoldsPause (network old) (count old) j (stream_at old.program j) x → HoldsPause (network old) (count new) j (stream_at old.program j) x

-- no instance has made more ticks than the budget, nor have those that are waited for together, which may make `left` more
pub record IsWithin (net : NetState) (budget left : ℕ) : Type 0 where
  pub capped : IsCapped (network net) budget (count net)
  pub joined : joined_total net + left ≡ budget

-- an instance was resumed with some of the ticks that it may still make, where there are any: one that is waited for may make those of
-- all that are waited for, a detached one its own
pub record HasResumedWithin (old new : NetState) (i budget left left' : ℕ) (pause : Pause) (made : ℕ) : Type 0 where
  pub fuel : ℕ
  pub resumed : HasResumed old new i fuel pause made
  pub joined : (network old).detached i ≡ false → (fuel ≤ left) × (left' + made ≡ left) × (fuel ≡ 0 → left ≡ 0)
  pub detached : (network old).detached i ≡ true → (count old i + fuel ≤ budget) × (left' ≡ left) × (fuel ≡ 0 → count old i ≡ budget)

-- the last answer of instance j holds at the net's count
abbrev pub IsAnswered : NetState → ℕ → Type 0
IsAnswered net j = (x : Pause) × (slice_get net.pauses j ≡ Some (Some x)) × HoldsPause (network net) (count net) j (stream_at net.program j) x

abbrev pub AreAnswered : NetState → Type 0
AreAnswered net = (j : ℕ) → j < length net.program.instances.items → IsAnswered net j
