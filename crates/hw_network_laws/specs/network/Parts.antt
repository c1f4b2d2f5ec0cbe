-- Machines that are lowered from leaves are parts of a program's network, whatever their arrays hold at first.
use Rattle.std.specs.Prelude.{◌≡◌, ℕ, ◌-◌, List, [], length, Some, slice_get, slice_index_or}
use Rattle.tapa_syntax.specs.ArrayUse.{In}
use Rattle.tapa_syntax.specs.LeafKinds.{kinds_of}
use Rattle.tapa_syntax.specs.WellFormed.{IsLeaf}
use Rattle.tapa_syntax.specs.declared.program.Instance.{Instance}
use Rattle.tapa_syntax.specs.declared.program.Leaf.{Leaf}
use Rattle.tapa_syntax.specs.declared.program.Program.{Program}
use Rattle.kahn_model.specs.Trace.{State, cells_of, job_of}
use Rattle.kahn_model.specs.ProgramNetwork.{network_with, stream_at}
use Rattle.task_fsm.specs.declared.machine.Fsm.{Fsm}
use Rattle.task_fsm.specs.Machine.{forms_of}
use Rattle.task_fsm.specs.Lowered.{IsStart, IsLowered, with_temporaries}
use Rattle.hw_lines.specs.Signals.{Part}
use Rattle.hw_network_laws.specs.network.Clocked.{IsPartOf}

-- two states that differ at most in the cells of arrays that are not in S
pub record AgreeOn (S : List ℕ) (σ τ : State) : Type 0 where
  pub vars : σ.vars ≡ τ.vars
  pub cells : σ.cells ≡ τ.cells
  pub arrays : length σ.arrays ≡ length τ.arrays
  pub sizes : (a : ℕ) → cells_of σ a ≡ cells_of τ a
  pub same : (a : ℕ) → In a S → slice_index_or σ.arrays a [] ≡ slice_index_or τ.arrays a []

-- a leaf reads no array before it clears it
abbrev pub FirstArraysAreNoMatter : Type 0
FirstArraysAreNoMatter =
    (leaf : Leaf) → IsLeaf leaf → (σ τ : State) → AgreeOn [] σ τ → (n : ℕ) → job_of (kinds_of leaf) leaf.code.items σ n ≡ job_of (kinds_of leaf) leaf.code.items τ n

-- the part that a lowered machine is, from what it holds first
abbrev pub part_of : Instance → Leaf → Fsm → State → Part
part_of instance leaf fsm τ = record {
  places = forms_of fsm.states.items;
  bound = stream_at instance;
  first = with_temporaries (length fsm.regs.items - length leaf.vars.items) τ;
}

abbrev pub LoweredMachinesAreParts : Type 0
LoweredMachinesAreParts =
    (program : Program) (first : ℕ → State) (i : ℕ) (instance : Instance) (leaf : Leaf) (fsm : Fsm) (τ : State) → slice_get program.instances.items i ≡ Some instance
    → slice_get program.bodies.items instance.body ≡ Some leaf → IsLeaf leaf → IsLowered leaf fsm → IsStart leaf (first i) → AgreeOn [] (first i) τ
    → IsPartOf ((network_with program first).job i) (part_of instance leaf fsm τ)
