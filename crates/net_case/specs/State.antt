-- What contracts say of a case.
use Rattle.std.specs.Prelude.{◌≡◌, ℕ, ◌≤◌, true, false, length, slice_index_or}
use Rattle.tapa_syntax.specs.WellFormed.{IsWellFormed}
use Rattle.kahn_model.specs.Network.{Network, IsNetwork}
use Rattle.kahn_model.specs.Counts.{IsReachable}
use Rattle.kahn_model.specs.Fits.{FitsInput}
use Rattle.kahn_model.specs.Outcome.{IsCapped}
use Rattle.net_core.specs.declared.net_state.NetState.{NetState}
use Rattle.net_core.specs.Bindings.{IsConnected}
use Rattle.net_core.specs.Bounded.{network_on, count_of, scalars_of, memories_of}
use Rattle.net_case.specs.declared.case_state.CaseState.{CaseState}

abbrev pub network : CaseState → Network
network c = network_on c.program c.input

-- the ticks that each instance has made, as far as they are committed
abbrev pub count : CaseState → ℕ → ℕ
count c = count_of c.counts

-- the net that it is when all are at home
abbrev pub net_of : CaseState → NetState
net_of c = record { program = c.program; input = c.input; counts = c.counts; pauses = c.pauses }

-- instance i is out
abbrev pub IsOut : CaseState → ℕ → Type 0
IsOut c i = slice_index_or c.out i false ≡ true

abbrev pub IsAtHome : CaseState → ℕ → Type 0
IsAtHome c i = slice_index_or c.out i false ≡ false

abbrev pub AreAllHome : CaseState → Type 0
AreAllHome c = (i : ℕ) → IsAtHome c i

-- what holds of every case
pub record IsValidCase (c : CaseState) : Type 0 where
  pub connected : IsConnected c.program
  pub well_formed : IsWellFormed c.program
  pub fits : FitsInput c.program (scalars_of c.input) (memories_of c.input)
  pub is_network : IsNetwork (network c)
  pub size : (network c).size ≡ length c.program.instances.items
  pub reachable : IsReachable (network c) (count c)
  pub capped : IsCapped (network c) c.budget (count c)
  pub few : c.budget ≤ 1000000000000
  pub counts_len : length c.counts ≡ length c.program.instances.items
  pub out_len : length c.out ≡ length c.program.instances.items
  pub pauses_len : length c.pauses ≡ length c.program.instances.items
