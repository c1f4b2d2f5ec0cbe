-- Of which programs a circuit can be made, and its ports.
use Rattle.std.specs.Prelude.{◌≡◌, ℕ, ◌^◌, ◌≤◌, List, length, Some, slice_get}
use Rattle.tapa_syntax.specs.declared.program.Leaf.{Leaf}
use Rattle.tapa_syntax.specs.declared.program.Program.{Program}
use Rattle.tapa_syntax.specs.OwnNames.{HasOwnNames}
use Rattle.tapa_syntax.specs.WellFormed.{IsWellFormed}
use Rattle.task_fsm.specs.declared.machine.Fsm.{Fsm}
use Rattle.task_fsm.specs.Lowered.{IsLowered}
use Rattle.hw_top_lines.specs.Designs.{AreShort}
use Rattle.hw_top_lines.specs.Texts.{top_elements}
pub use Rattle.circuit_meaning.specs.Ports.{scalar_ports, memory_ports, stream_ports}

-- each body has its machine
pub record AreMachinesOf (program : Program) (machines : List Fsm) : Type 0 where
  pub as_many : length machines ≡ length program.bodies.items
  pub each : (b : ℕ) (leaf : Leaf) (machine : Fsm) → slice_get program.bodies.items b ≡ Some leaf → slice_get machines b ≡ Some machine → IsLowered leaf machine

-- the elements of the top can be counted by 64 bits, so that their numbers are distinct
abbrev pub IsCountable : Program → List ℕ → Type 0
IsCountable program added = length (top_elements program added) ≤ 2 ^ 64

-- a program and its machines, of which a circuit is to be made
pub record IsReady (program : Program) (machines : List Fsm) (added : List ℕ) : Type 0 where
  pub well_formed : IsWellFormed program
  pub told_apart : HasOwnNames program
  pub lowered : AreMachinesOf program machines
  pub short : AreShort added
  pub countable : IsCountable program added
