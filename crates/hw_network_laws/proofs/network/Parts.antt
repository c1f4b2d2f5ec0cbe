-- A lowered machine is a part of its program's network.
use Rattle.std.proofs.Common.{◌≡◌, ℕ, [], length, Some, sym, ap, ◌∙◌, arith}
use Rattle.std.specs.Prelude.{slice_get}
use Rattle.tapa_syntax.specs.LeafKinds.{kinds_of}
use Rattle.tapa_syntax.specs.WellFormed.{IsLeaf}
use Rattle.tapa_syntax.specs.declared.program.Instance.{Instance}
use Rattle.tapa_syntax.specs.declared.program.Leaf.{Leaf}
use Rattle.tapa_syntax.specs.declared.program.Program.{Program}
use Rattle.kahn_model.specs.Trace.{State, job_of, at_streams}
use Rattle.kahn_model.specs.ProgramNetwork.{network_with, stream_at, leaf_job, instance_job}
use Rattle.task_fsm.specs.declared.machine.Fsm.{Fsm}
use Rattle.task_fsm.specs.Lowered.{IsStart, IsLowered}
use Rattle.hw_network_laws.specs.network.Clocked.{IsPartOf}
use Rattle.hw_network_laws.specs.network.Parts.{AgreeOn, part_of}
use Rattle.hw_network_laws.proofs.network.FirstArrays.{first_arrays}

starts_too : (leaf : Leaf) (σ τ : State) → IsStart leaf σ → AgreeOn [] σ τ → IsStart leaf τ
starts_too leaf σ τ s a = record {
  vars = ap length (sym a.vars) ∙ s.vars;
  arrays = sym a.arrays ∙ s.arrays;
  cells = λ r l. let h = s.cells r l in let e = a.sizes r in omega arith;
}

pub parts : (program : Program) (first : ℕ → State) (i : ℕ) (instance : Instance) (leaf : Leaf) (fsm : Fsm) (τ : State) → slice_get program.instances.items i ≡ Some instance → slice_get program.bodies.items instance.body ≡ Some leaf → IsLeaf leaf → IsLowered leaf fsm → IsStart leaf (first i) → AgreeOn [] (first i) τ → IsPartOf ((network_with program first).job i) (part_of instance leaf fsm τ)
parts program first i instance leaf fsm τ at body is low start a m = (
  job_of (kinds_of leaf) leaf.code.items τ m,
  ap (λ o. instance_job program.bodies.items o (first i) m) at
      ∙ ap (λ o. leaf_job o instance (first i) m) body
      ∙ ap (at_streams (stream_at instance)) (first_arrays leaf is (first i) τ a m),
  low.follows τ (starts_too leaf (first i) τ start a) m,
)
