-- A program's circuit in a run is the clocked network of its program, at the clock of its memories' answers.
use Rattle.std.proofs.Common.{◌≡◌, ℕ, ◌<◌, Bool, false, List, [], ◌∷◌, length, Option, Some, None, sym, ap, subst, ◌∙◌}
use Rattle.std.specs.Prelude.{option_map, slice_get, slice_index, unwrap_or}
use Rattle.tapa_syntax.specs.WellFormed.{IsWellFormed}
use Rattle.tapa_syntax.specs.declared.program.Instance.{Instance}
use Rattle.tapa_syntax.specs.declared.program.Leaf.{Leaf}
use Rattle.tapa_syntax.specs.declared.program.Program.{Program}
use Rattle.vlog_tree.specs.Cycle.{Cycle, Path}
use Rattle.vlog_tree.specs.Environment.{Environment, FitsShape, shape_of}
use Rattle.vlog_run_laws.specs.Beside.{RunsBeside}
use Rattle.vlog_tree.specs.Form.{ModuleTree}
use Rattle.kahn_model.specs.Network.{Network}
use Rattle.kahn_model.specs.Start.{empty_state, network_of}
use Rattle.task_fsm.specs.declared.machine.Fsm.{Fsm}
use Rattle.task_fsm.specs.Ranges.{AreInRange, ranges_of}
use Rattle.hw_lines.specs.Machine.{RunsMachine}
use Rattle.hw_lines.specs.Runs.{answers_at, history_at}
use Rattle.hw_lines.specs.Signals.{Streams, History, Part}
use Rattle.hw_network_laws.specs.network.Clocked.{IsClocked}
use Rattle.hw_network_laws.specs.modules.Designs.{IsDesignOf, AreMachines, clock_at_modules}
use Rattle.hw_network_laws.specs.modules.Tasks.{shape_for, part_in}
use Rattle.hw_network_laws.proofs.modules.Designs.{clocked}
use Rattle.hw_top_lines.specs.Designs.{AreShort}
use Rattle.hw_top_lines.specs.Names.{task_instance}
use Rattle.hw_top_lines.specs.Texts.{top_tree}
use Rattle.hw_top_laws.specs.runs.Designs.{IsCircuit}
use Rattle.hw_top_laws.specs.runs.Parts.{instance_run, instance_rows, channel_run, streams_seen}
use Rattle.hw_top_laws.proofs.runs.Designs.{circuits_beside}
use Rattle.hw_top_laws.proofs.runs.Rows.{answers_are}
use Rattle.hw_top_laws.proofs.runs.Tasks.{outside_fits}
use Rattle.circuit_meaning.specs.Clock.{network}
use Rattle.hw_top_laws.proofs.kahn.Answers.{runs_with}
use Rattle.tapa_base.proofs.Got.{some_at as item_at}

abbrev no_part : Part
no_part = record { places = []; bound = λ p. p; first = empty_state }

abbrev no_history : History
no_history = record { at = λ n. 0; holds = λ n. empty_state; ended = λ n. false }

module _ (program : Program) (w : IsWellFormed program) (added : List ℕ) (short : AreShort added) (machines : ℕ → Option Fsm) (all : List ModuleTree) (place : ℕ) (c : IsCircuit program added machines all place) (env : Environment)
    (env_fits : FitsShape env (shape_of (top_tree program added))) (acks : ℕ → ℕ → Bool) (nets : ℕ → Path → Cycle) (r : RunsBeside all (top_tree program added) env acks nets) where
  abbrev T : Streams
  T = streams_seen program nets

  abbrev net : Network
  net = network program env

  -- ---- the machine of each instance, and what is seen of it

  abbrev part_by : ℕ → Instance → Option Leaf → Option Fsm → Part
  part_by i x None o = no_part
  part_by i x (Some leaf) None = no_part
  part_by i x (Some leaf) (Some machine) = part_in x leaf machine (instance_run program nets i) (instance_rows program env nets i)

  abbrev part_of : ℕ → Option Instance → Part
  part_of i None = no_part
  part_of i (Some x) = part_by i x (slice_get program.bodies.items x.body) (machines i)

  abbrev pub parts : ℕ → Part
  parts i = part_of i (slice_get program.instances.items i)

  abbrev history_by : ℕ → Option Leaf → Option Fsm → History
  history_by i None o = no_history
  history_by i (Some leaf) None = no_history
  history_by i (Some leaf) (Some machine) = history_at (shape_for leaf machine) (instance_run program nets i) (instance_rows program env nets i)

  abbrev history_of : ℕ → Option Instance → History
  history_of i None = no_history
  history_of i (Some x) = history_by i (slice_get program.bodies.items x.body) (machines i)

  abbrev pub histories : ℕ → History
  histories i = history_of i (slice_get program.instances.items i)

  pub design : IsDesignOf program env.scalars env.memories (slice_index added) machines (instance_run program nets) (instance_rows program env nets) (channel_run program nets) T
  design = circuits_beside program w added short machines all place c env env_fits acks nets r

  pub are_machines : AreMachines program machines (instance_run program nets) (instance_rows program env nets) parts histories
  are_machines = record {
    part = λ i x leaf machine at body is. ap (part_of i) at ∙ ap (λ o. part_by i x o (machines i)) body ∙ ap (part_by i x (Some leaf)) is;
    history = λ i x leaf machine at body is. ap (history_of i) at ∙ ap (λ o. history_by i o (machines i)) body ∙ ap (history_by i (Some leaf)) is;
  }

  by_modules : IsClocked net (clock_at_modules (slice_index added) (instance_run program nets)) parts T histories
  by_modules =
      clocked program w env.scalars env.memories (slice_index added) machines (instance_run program nets) (instance_rows program env nets) (channel_run program nets) T design parts histories are_machines

  -- ---- at the clock of the cycles in which its memories are seen to answer

  pub label_is : (i : ℕ) (x : Instance) → slice_get program.instances.items i ≡ Some x → unwrap_or (option_map (λ (z : Instance). z.label) (slice_get program.instances.items i)) [] ≡ x.label
  label_is i x at = ap (λ o. unwrap_or (option_map (λ (z : Instance). z.label) o) []) at

  module _ (seen : ℕ → ℕ → ℕ → Bool)
      (same : (i : ℕ) (x : Instance) (leaf : Leaf) → slice_get program.instances.items i ≡ Some x → slice_get program.bodies.items x.body ≡ Some leaf → (n m : ℕ) → m < length leaf.memories.items → acks (slice_index x.memories.items m) n ≡ seen i m n) where
    answers_same : (i : ℕ) (x : Instance) (leaf : Leaf) → slice_get program.instances.items i ≡ Some x → slice_get program.bodies.items x.body ≡ Some leaf → (n m : ℕ) → m < length leaf.memories.items
        → answers_at (instance_run program nets i) m n ≡ seen i m n
    answers_same i x leaf at body n m l =
        ap (λ z. answers_at (λ k. nets k (task_instance z ∷ [])) m n) (label_is i x at)
        ∙ answers_are program w added all nets r.runs env acks r.stands c.memories (outside_fits program w added short machines all place c env env_fits acks nets r i x leaf at body) i x leaf at body (c.tasks i x leaf at body).machine n m l
        ∙ same i x leaf at body n m l

    runs_there : (i : ℕ) → i < length program.instances.items → RunsMachine (parts i) T (answers_at (instance_run program nets i)) (λ s. net.consumer s ≡ i) (λ s. net.producer s ≡ i) (histories i)
        → RunsMachine (parts i) T (seen i) (λ s. net.consumer s ≡ i) (λ s. net.producer s ≡ i) (histories i)
    runs_there i l m =
        let x = item_at program.instances.items i l in
        let leaf = w.instances i x.0 x.1 in
        let task = c.tasks i x.0 leaf.0 x.1 leaf.1.body in
        let own = are_machines.part i x.0 leaf.0 task.machine x.1 leaf.1.body task.is in
        runs_with (parts i) T (answers_at (instance_run program nets i)) (seen i) (λ s. net.consumer s ≡ i) (λ s. net.producer s ≡ i) (histories i) (ranges_of leaf.0 task.machine)
        (subst (λ (p : Part). AreInRange (ranges_of leaf.0 task.machine) p.places) (sym own) task.lowered.in_range)
        (λ n k low. answers_same i x.0 leaf.0 x.1 leaf.1.body n k low) m

    inside : (i : ℕ) → i < net.size → i < length program.instances.items
    unfolding network_of
    inside i l = l

    pub in_clock : IsClocked net (record { latency = slice_index added; answers = seen }) parts T histories
    in_clock = record {
      network = by_modules.network;
      follows = by_modules.follows;
      runs = λ i l. runs_there i (inside i l) (by_modules.runs i l);
      channels = by_modules.channels;
      put_inside = by_modules.put_inside;
      taken_inside = by_modules.taken_inside;
    }
