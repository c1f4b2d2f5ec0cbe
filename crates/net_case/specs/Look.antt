-- What a look at an instance at home reports.
use Rattle.std.specs.Prelude.{◌≡◌, ℕ, ◌<◌, Bool, List, length, slice_index, MatchBool}
use Rattle.tapa_syntax.specs.declared.program.Program.{Program}
use Rattle.kahn_model.specs.declared.tick.Tick.{Tick}
use Rattle.kahn_model.specs.Counts.{IsAllowed}
use Rattle.net_core.specs.declared.body.Pause.{Pause}
use Rattle.net_core.specs.declared.body.Pause.TheVariants.{Fuel}
use Rattle.net_core.specs.declared.input.Input.{Input}
use Rattle.net_core.specs.declared.ports.Ports.{Ports}
use Rattle.net_core.specs.Job.{Job}
use Rattle.net_core.specs.Bindings.{stream_at, Reads, Writes}
use Rattle.net_core.specs.Bounded.{network_on, instance_job, count_of}
use Rattle.net_core.specs.Waits.{HoldsPause}
use Rattle.net_case.specs.Batch.{HasRun}
use Rattle.net_case.specs.declared.queue.Queue.{Queue}
use Rattle.net_case.specs.Home.{AreStreamsAt, IsHome}

-- instance i is at home there
pub record CanLook {B : Type 0} (Stands : B → Job → List Tick → Type 0) (program : Program) (input : Input) (budget : ℕ) (queues : List Queue) (taken_list offered counts : List ℕ) (i : ℕ)
    (body : B) (ports : Ports) (limits : List ℕ) : Type 0 where
  pub at : AreStreamsAt program input budget queues taken_list offered counts
  pub inside : i < length program.instances.items
  pub home : IsHome Stands program input counts taken_list offered i body ports limits

-- it has all tokens that are there for it, made no tick, and reported whether its next tick is allowed, or why not
pub record HasLooked {B : Type 0} (Stands : B → Job → List Tick → Type 0) (program : Program) (input : Input) (budget : ℕ) (queues : List Queue) (taken_list offered offered' counts : List ℕ)
    (i : ℕ) (body : B) (ports : Ports) (limits : List ℕ) (may : Bool) (pause : Pause) : Type 0 where
  pub at : AreStreamsAt program input budget queues taken_list offered' counts
  pub home : IsHome Stands program input counts taken_list offered' i body ports limits
  pub run : HasRun (Stands body (instance_job program input i)) (network_on program input) (count_of counts) i (instance_job program input i).behavior (stream_at program i) (Reads program i)
      (Writes program i) limits 0 ports
  pub others : (s : ℕ) → ((p : ℕ) → Reads program i p → stream_at program i p ≡ s → ⊥) → slice_index offered' s ≡ slice_index offered s
  pub told : MatchBool may (IsAllowed (network_on program input) (count_of counts) i)
      ((pause ≡ Fuel → ⊥) × HoldsPause (network_on program input) (count_of counts) i (stream_at program i) pause)
