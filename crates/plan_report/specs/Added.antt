-- The latency that is added to the streams of a plan: each register is a cycle on a stream's path, and a FIFO with entries for it.
use Rattle.std.specs.Prelude.{◌≡◌, ℕ, ◌+◌, ◌<◌, Bool, true, false, List, length, slice_index}
use Rattle.task_graph.specs.declared.Graph.{Graph}
use Rattle.task_graph.specs.Arcs.{streams}
use Rattle.latency_balance.specs.declared.balance.Balance.{Balance}
use Rattle.latency_balance.specs.Result.{IsBalance}
use Rattle.plan_device.specs.declared.device.Device.{Device}
use Rattle.plan_report.specs.Borders.{AreBorderLatencies}

-- the sums of the border latencies and of a balance that is even and costs least
pub record AreBalanced (g : Graph) (lat added : List ℕ) : Type 0 where
  pub balance : Balance
  pub best : IsBalance g lat balance
  pub long : length added ≡ streams g
  pub sums : (e : ℕ) → e < streams g → slice_index added e ≡ slice_index lat e + slice_index balance.bal.items e

-- the border latencies alone, or balanced
abbrev pub AddsTo : Graph → List ℕ → Bool → List ℕ → Type 0
AddsTo g lat false added = added ≡ lat
AddsTo g lat true added = AreBalanced g lat added

-- the added latencies of a graph's streams, where the groups are in these slots
pub record AreAdded (g : Graph) (d : Device) (slots : List ℕ) (balanced : Bool) (added : List ℕ) : Type 0 where
  pub lat : List ℕ
  pub borders : AreBorderLatencies g d slots lat
  pub adds : AddsTo g lat balanced added

-- what is added, balanced, is one list: the border latencies with their balance
abbrev pub OneAdded : Type 0
OneAdded =
    (g : Graph) (d : Device) (slots lat : List ℕ) (b : Balance) (added : List ℕ) → AreBorderLatencies g d slots lat → IsBalance g lat b → AreAdded g d slots true added
    → (e : ℕ) → e < streams g → slice_index added e ≡ slice_index lat e + slice_index b.bal.items e
