-- A batch's ticks are steps at every later count at which its instance stands still.
use Rattle.std.proofs.Common.{ℕ, Bool, List, Option, refl, subst, ◌∙◌, arith}
use Rattle.std.proofs.Math.Path.{fun_ext}
use Rattle.tapa_syntax.specs.declared.program.Program.{Program}
use Rattle.kahn_model.specs.declared.tick.Tick.{Tick}
use Rattle.kahn_model.specs.Counts.{IsReachable}
use Rattle.net_core.specs.declared.ports.Ports.{Ports}
use Rattle.net_core.specs.declared.body.Pause.{Pause}
use Rattle.net_core.specs.Job.{Job}
use Rattle.net_core.specs.declared.input.Input.{Input}
use Rattle.net_core.specs.Bindings.{stream_at, Reads, Writes}
use Rattle.net_core.specs.Bounded.{network_on, instance_job, count_of}
use Rattle.net_case.specs.Batch.{IsBatchAt, CommitsAnywhere}
use Rattle.net_case.proofs.Runs.{commits}

pub commits_lot : {B : Type 0} (Stands : B → Job → List Tick → Type 0) (program : Program) (input : Input) (budget : ℕ) (at : List ℕ) (i from fuel made : ℕ) (pause : Option Pause) (ready : Bool) (body : B) (ports : Ports) (limits : List ℕ) → IsBatchAt Stands program input budget at i from fuel made pause ready body ports limits
    → CommitsAnywhere (record { program = program; input = input; budget = budget; instance = i; at = at; from = from; fuel = fuel; made = made; pause = pause; ready = ready })
commits_lot Stands program input budget at i from fuel made pause ready body ports limits h = (
  (let a = h.within in let b = h.capped in omega arith),
  (λ m rm below still.
      let c = commits (network_on program input) h.network.is_network (count_of at) h.reachable i (instance_job program input i).behavior (stream_at program i) (Reads program i) (Writes program i) (h.network.placed i h.inside) limits (Stands body (instance_job program input i)) made ports h.run m rm below (still ∙ h.begins) in
      subst (IsReachable (network_on program input)) (fun_ext (λ j. refl)) c.reachable),
)
