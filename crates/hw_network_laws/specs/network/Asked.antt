-- What an instance of a clocked network is about to do: the next tick of its count, whether it is made in this cycle or not.
use Rattle.std.specs.Prelude.{◌≡◌, ℕ, suc, ◌<◌, false, Option, Some, None, if◌then◌else◌}
use Rattle.kahn_model.specs.declared.tick.Action.{Action}
use Rattle.kahn_model.specs.declared.tick.Tick.{Tick}
use Rattle.kahn_model.specs.Counts.{next}
use Rattle.kahn_model.specs.Network.{Network, IsNetwork}
use Rattle.kahn_model.specs.Timed.{Clock, count_at}
use Rattle.kahn_model.specs.Trace.{act_at}
use Rattle.task_fsm.specs.Run.{StateStep, Performs, Awaits, Completes, Halts}
use Rattle.hw_lines.specs.Machine.{step_in}
use Rattle.hw_lines.specs.Signals.{Streams, History, Part}
use Rattle.hw_network_laws.specs.network.Clocked.{IsClocked}
use Rattle.circuit_meaning.specs.Pace.{memory_of}
pub use Rattle.circuit_meaning.specs.Asked.{act_of_tick}

abbrev pub act_of_step : (ℕ → ℕ) → StateStep → Option Action
act_of_step f (Performs a pc σ) = Some (act_at f a)
act_of_step f (Awaits s how pc into) = None
act_of_step f Completes = None
act_of_step f Halts = None

-- a machine that has not ended is at the act that the count makes next
abbrev pub MachinesStandAtNext : Type 0
MachinesStandAtNext =
    (net : Network) (clock : Clock) (parts : ℕ → Part) (S : Streams) (h : ℕ → History) → IsClocked net clock parts S h → (n i : ℕ) → i < net.size
    → act_of_tick (next net (count_at net clock (suc n)) i) ≡ (if (h i).ended (suc n) then None else act_of_step (parts i).bound (step_in (parts i) (h i) (suc n)))

-- a tick that waits for a memory is the next one in the cycle after, too
abbrev pub RequestsStay : Type 0
RequestsStay =
    (net : Network) → IsNetwork net → (clock : Clock) (n i x : ℕ) (t : Tick) → next net (count_at net clock n) i ≡ Some t → memory_of t ≡ Some x
    → clock.answers i x n ≡ false → next net (count_at net clock (suc n)) i ≡ Some t
