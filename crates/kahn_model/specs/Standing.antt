-- The state of an instance where no step is allowed.
use Rattle.std.specs.Prelude.{◌≡◌, ℕ, ◌<◌}
use Rattle.kahn_model.specs.Network.{Network, IsNetwork}
use Rattle.kahn_model.specs.Counts.{HasEnded, IsReachable}
use Rattle.kahn_model.specs.Outcome.{WaitsToRead, WaitsToWrite, HasBadToken}

pub data Standing : Type 0 where
  over : Standing
  to_read : (s : ℕ) → Standing
  to_write : (s : ℕ) → Standing
  at_bad : (s : ℕ) → Standing

abbrev pub StandsSo : Network → (ℕ → ℕ) → ℕ → Standing → Type 0
StandsSo net k i over = HasEnded net k i
StandsSo net k i (to_read s) = WaitsToRead net k i s
StandsSo net k i (to_write s) = WaitsToWrite net k i s
StandsSo net k i (at_bad s) = HasBadToken net k i s

-- an instance is in only one of these states
abbrev pub InstancesStandOneWay : Type 0
InstancesStandOneWay =
    (net : Network) → IsNetwork net → (k : ℕ → ℕ) → IsReachable net k → (i : ℕ) → i < net.size → (a b : Standing) → StandsSo net k i a → StandsSo net k i b → a ≡ b
