-- The modules of a program are its circuit.
use Rattle.std.proofs.Common.{◌≡◌, ℕ, List, [], ◌∷◌, length, Some, ap, ◌∙◌}
use Rattle.std.specs.Prelude.{slice_get, slice_index}
use Rattle.tapa_syntax.specs.declared.program.Instance.{Instance}
use Rattle.tapa_syntax.specs.declared.program.Leaf.{Leaf}
use Rattle.tapa_syntax.specs.declared.program.Program.{Program}
use Rattle.tapa_syntax.specs.declared.program.Stream.{Stream}
use Rattle.task_fsm.specs.declared.machine.Fsm.{Fsm}
use Rattle.vlog_tree.specs.Form.{ModuleTree}
use Rattle.vlog_module_laws.specs.Larger.{IsWithin}
use Rattle.vlog_module_laws.proofs.Larger.{front_within}
use Rattle.hw_lines.specs.Texts.{task_name}
use Rattle.hw_top_lines.specs.Channels.{channel_modules}
use Rattle.hw_top_lines.specs.Designs.{design_tree}
use Rattle.hw_top_lines.specs.Legal.{IsReady}
use Rattle.hw_top_lines.specs.Texts.{token_bits, top_tree}
use Rattle.hw_top_laws.specs.modules.Lower.{lower_modules, task_module, KeepPromises}
use Rattle.hw_top_laws.proofs.modules.Channels.{channel_are}
use Rattle.hw_top_laws.proofs.modules.Lower.{channels_found}
use Rattle.hw_top_laws.proofs.form.Tasks.{part_at, used, named}
pub use Rattle.hw_top_laws.proofs.form.Whole.{tops_are_modules}
pub use Rattle.hw_top_laws.proofs.design.Outside.{tops_have_scalars, tops_have_memories, tops_have_streams}
pub use Rattle.hw_top_laws.proofs.design.Whole.{designs_are_legal}
use Rattle.hw_top_laws.specs.runs.Designs.{StandsForTask, StandsForChannel, IsCircuit}
use Rattle.hw_top_laws.proofs.runs.Designs.{circuits_are_designs}
use Rattle.hw_top_laws.proofs.kahn.Carries.{circuits_carry_streams, circuits_carry_beside}
use Rattle.hw_top_laws.specs.circuit.Circuit.{machine_in, machine_of, DesignsAreCircuits, DesignsRunPrograms, DesignsCarryStreams, DesignsCarryBeside}
use Rattle.hw_top_laws.proofs.design.Whole.{last_there}

module _ (program : Program) (machines : List Fsm) (added : List ℕ) (ready : IsReady program machines added) (kept : KeepPromises program machines) where
  abbrev lower : List ModuleTree
  lower = lower_modules program machines added

  abbrev all : List ModuleTree
  all = design_tree program machines added

  within : IsWithin lower all
  within = front_within lower (top_tree program added ∷ [])

  task_stands : (i : ℕ) (x : Instance) (leaf : Leaf) → slice_get program.instances.items i ≡ Some x → slice_get program.bodies.items x.body ≡ Some leaf → StandsForTask leaf (machine_of program machines i) all
  task_stands i x leaf g e =
      let part = part_at program machines added ready kept i x leaf g e in
      record {
        machine = part.machine;
        is = ap (machine_in machines) g ∙ part.got_machine;
        lowered = ready.lowered.each x.body leaf part.machine e part.got_machine;
        acts = (kept x.body leaf part.machine e part.got_machine (used program machines added ready kept i x leaf part)).acts;
        named = within (task_name leaf.name) (task_module leaf part.machine) (named program machines added ready kept i x leaf part);
      }

  channel_stands : (s : ℕ) (r : Stream) → slice_get program.streams.items s ≡ Some r → StandsForChannel (token_bits r.kind) r.depth (slice_index added s) all
  channel_stands s r g = record {
    modules = channel_modules (token_bits r.kind) r.depth (slice_index added s);
    are = channel_are (token_bits r.kind) r.depth (slice_index added s);
    found = λ m h. within m.name m (channels_found program machines added ready kept s r g m h);
  }

  pub circuit : IsCircuit program added (machine_of program machines) all (length lower)
  circuit = record {
    design = designs_are_legal program machines added ready kept;
    is_top = last_there lower (top_tree program added);
    scalars = tops_have_scalars program machines added ready kept;
    memories = tops_have_memories program machines added ready kept;
    tasks = task_stands;
    channels = channel_stands;
  }

pub designs_are_circuits : DesignsAreCircuits
designs_are_circuits program machines added ready kept = circuit program machines added ready kept

pub designs_run_programs : DesignsRunPrograms
designs_run_programs program machines added ready kept env fits nets runs =
    circuits_are_designs program ready.well_formed added ready.short (machine_of program machines) (design_tree program machines added) (length (lower_modules program machines added))
    (circuit program machines added ready kept) env fits nets runs

pub designs_carry_streams : DesignsCarryStreams
designs_carry_streams program machines added ready kept env fits nets runs =
    circuits_carry_streams program ready.well_formed added ready.short (machine_of program machines) (design_tree program machines added) (length (lower_modules program machines added))
    (circuit program machines added ready kept) env fits nets runs

pub designs_carry_beside : DesignsCarryBeside
designs_carry_beside program machines added ready kept env fits answers nets runs =
    circuits_carry_beside program ready.well_formed added ready.short (machine_of program machines) (design_tree program machines added) (length (lower_modules program machines added))
    (circuit program machines added ready kept) env fits answers nets runs
