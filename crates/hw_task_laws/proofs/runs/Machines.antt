-- A run of a task's module runs its machine.
use Rattle.std.proofs.Common.{◌≡◌, ℕ, suc, ◌-◌, ◌++◌, ◌<◌, ◌≤◌, Bool, true, false, cond, eqb, not, ◌&&◌, List, [], ◌∷◌, length, Option, Some, None, inl, refl, sym, ap, subst, ◌∙◌, arith}
use Rattle.std.specs.Prelude.{slice_get, slice_index_or, option_map, unwrap_or}
use Rattle.std.proofs.lemmas.List.{length-map}
use Rattle.tapa_base.specs.declared.kind.Kind.TheVariants.{U64}
use Rattle.tapa_syntax.specs.declared.program.Array.{Array as ArrayOf}
use Rattle.tapa_syntax.specs.declared.program.End.{End}
use Rattle.tapa_syntax.specs.declared.program.Leaf.{Leaf}
use Rattle.tapa_syntax.specs.LeafKinds.{Kinds, writes_of}
use Rattle.tapa_syntax.specs.WellFormed.{IsLeaf}
use Rattle.kahn_model.specs.Trace.{State}
use Rattle.vlog_tree.specs.declared.tree.Value.TheVariants.{Plain}
use Rattle.vlog_tree.specs.Form.{ModuleTree}
use Rattle.tapa_base.specs.Lists.{Has}
use Rattle.vlog_tree.specs.Table.{Name, one_if}
use Rattle.vlog_tree.specs.Cycle.{Cycle, Follows}
use Rattle.hw_build.specs.Elements.{Output, built}
use Rattle.hw_build.specs.Fitting.{AreFitting}
use Rattle.hw_build.proofs.Driven.{output_driven}
use Rattle.hw_build.specs.Scope.{each}
use Rattle.task_fsm.specs.declared.machine.Fsm.{Fsm}
use Rattle.task_fsm.specs.declared.machine.State.{State as StateOf}
use Rattle.task_fsm.specs.Lowered.{IsLowered}
use Rattle.task_fsm.specs.Machine.{form_of, forms_of}
use Rattle.task_fsm.specs.MachineKinds.{machine_kinds, AreTypedStates}
use Rattle.task_fsm.specs.Ranges.{Ranges, ranges_of, AreInRange}
use Rattle.vlog_tree.specs.Labels.{rst}
use Rattle.task_fsm.specs.Run.{StateStep, Completes, step}
use Rattle.hw_lines.specs.declared.nets.Net.TheVariants.{State as StateNet, Ended, Done, Variable, Taken, We}
use Rattle.hw_lines.specs.Nets.{name}
use Rattle.hw_lines.specs.Shape.{Shape, shape_of, kinds_in, form_at}
use Rattle.hw_lines.specs.States.{net}
use Rattle.hw_lines.specs.Texts.{stream_outputs, memory_outputs, task_elements, task_tree, task_name}
use Rattle.hw_lines.specs.After.{at_after, held_after, ends_by}
use Rattle.hw_lines.specs.Signals.{Streams, History, Part}
use Rattle.hw_lines.specs.Machine.{takes_of, puts_of, put_in, step_in, steps}
use Rattle.hw_lines.specs.Runs.{number_at, bit_at, held_at, first_of, first_held, streams_at, answers_at, history_at, part_at, AsksAs, stores_to, by_act, StandsAround, RunsTask}
use Rattle.hw_lines.proofs.Members.{all, outputs_in, among_left}
use Rattle.hw_task_laws.specs.names.Countable.{IsCountable}
use Rattle.hw_task_laws.proofs.names.Bounds.{bounds}
use Rattle.hw_task_laws.specs.steps.Steps.{ranges_in, allowed, found_by, IsAt}
use Rattle.hw_task_laws.proofs.steps.Places.{place_goes_on}
use Rattle.hw_task_laws.proofs.effects.Outs.{and_false}
use Rattle.hw_task_laws.proofs.effects.Streams.{takes_are_made, puts_are_made}
use Rattle.hw_task_laws.proofs.effects.Memories.{asks_are_made, stores_are_asked}
use Rattle.hw_task_laws.proofs.effects.Ends.{end_is_held}
use Rattle.hw_task_laws.proofs.form.Whole.{tasks_are_fitting}
use Rattle.hw_task_laws.specs.runs.Machines.{IsMachine, InstancesRun}
use Rattle.hw_task_laws.proofs.runs.Lists.{ones_are, ones_length, ones_at, same_held}
use Rattle.hw_task_laws.proofs.runs.Kept.{end_allowed}
use Rattle.hw_task_laws.proofs.runs.Starts.{step_is, is_at, first_var}
use Rattle.hw_task_laws.proofs.runs.Goes.{end_bit, held_goes, Stands, at_start, not_ended, stands}
use Rattle.vlog_tree.proofs.Nesting.{same_both as same_cond}

-- ---- once it has ended, a machine makes no step, and its step would change nothing

while_on : {A : Type 0} (ended ok : Bool) (x y : A) → (ended ≡ true → x ≡ y) → cond ok x y ≡ cond (not ended && ok) x y
while_on true ok x y h = ap (λ z. cond ok z y) (h refl) ∙ same_cond ok y
while_on false ok x y h = refl

takes_on : (ended ok b : Bool) → (ended ≡ true → b ≡ false) → (ok && b) ≡ ((not ended && ok) && b)
takes_on true ok b h = ap (λ z. ok && z) (h refl) ∙ sym (and_false ok)
takes_on false ok b h = refl

asks_on : (ended b : Bool) → (ended ≡ true → b ≡ false) → b ≡ (not ended && b)
asks_on true b h = h refl
asks_on false b h = refl

ends_on : (ended ok b : Bool) → (ok ≡ false → b ≡ false) → cond b true ended ≡ cond (not ended && ok) b ended
ends_on true ok true h = refl
ends_on true ok false h = refl
ends_on false true true h = refl
ends_on false true false h = refl
ends_on false false b h = ap (λ z. cond z true false) (h refl)

module _ (S : Shape) (title : Name) (run : ℕ → Cycle) (f : Follows (built title (task_elements S)) run) (ms : List ModuleTree) (fit : AreFitting ms (task_elements S)) (machine : IsMachine S)
    (cells : ℕ → List (List ℕ)) (around : StandsAround S run cells) where
  abbrev W : Streams
  W = streams_at S run

  abbrev part : Part
  part = part_at S run cells

  abbrev past : History
  past = history_at S run cells

  abbrev σ : ℕ → State
  σ n = held_at S run cells n

  abbrev place : ℕ → ℕ
  place n = number_at run StateNet n

  abbrev ended : ℕ → Bool
  ended n = bit_at run Ended n

  -- one cycle
  module _ (n : ℕ) (now : Stands S title run f ms fit machine cells around n) (runs : (run n).net rst ≡ 0) where
    abbrev t : StateStep
    t = step (form_at S (place n)) (place n) (σ n)

    abbrev ok : Bool
    ok = allowed S run n t

    is : IsAt S run f.sizes cells n (place n) (σ n)
    is = is_at S title run f cells machine around n now.fits now.low

    same_step : t ≡ step_in part past n
    same_step = sym (step_is S title run f cells machine around n now.low)

    complete : ended n ≡ true → t ≡ Completes
    complete e = ap (λ g. step g (place n) (σ n)) (now.ended e)

    -- said of the step by its place in the machine
    said : {A : Type 0} (x : A) (y : StateStep → A) → x ≡ y t → x ≡ y (step_in part past n)
    said x y e = e ∙ ap y same_step

    place_next : number_at run StateNet (suc n) ≡ cond (steps part W (answers_at run) past n) (at_after (step_in part past n) (place n)) (place n)
    place_next =
        said (number_at run StateNet (suc n)) (λ u. cond (not (ended n) && allowed S run n u) (at_after u (place n)) (place n))
        (place_goes_on S title run f ms fit cells n (place n) (σ n) is runs
        ∙ while_on (ended n) ok (at_after t (place n)) (place n) (λ e. ap (λ u. at_after u (place n)) (complete e)))

    held_next : σ (suc n) ≡ cond (steps part W (answers_at run) past n) (held_after (step_in part past n) (σ n) (found_by S run n (step_in part past n))) (σ n)
    held_next =
        said (σ (suc n)) (λ u. cond (not (ended n) && allowed S run n u) (held_after u (σ n) (found_by S run n u)) (σ n))
        (held_goes S title run f ms fit machine cells around n is runs
        ∙ while_on (ended n) ok (held_after t (σ n) (found_by S run n t)) (σ n) (λ e. ap (λ u. held_after u (σ n) (found_by S run n u)) (complete e)))

    ended_next : ended (suc n) ≡ cond (steps part W (answers_at run) past n) (ends_by (step_in part past n)) (ended n)
    ended_next =
        said (ended (suc n)) (λ u. cond (not (ended n) && allowed S run n u) (ends_by u) (ended n))
        (ap (λ z. eqb z 1) (end_is_held S title run f ms fit cells n (place n) (σ n) is runs) ∙ end_bit (ends_by t) (number_at run Ended n) ∙ ends_on (ended n) ok (ends_by t) (end_allowed S run n t))

    take_is : (s : ℕ) → writes_of S.streams s ≡ Some false → bit_at run (Taken s) n ≡ (steps part W (answers_at run) past n && takes_of (λ p. p) s (step_in part past n))
    take_is s reads =
        said (bit_at run (Taken s) n) (λ u. (not (ended n) && allowed S run n u) && takes_of (λ p. p) s u)
        (takes_are_made S title run f cells n (place n) (σ n) is s reads ∙ takes_on (ended n) ok (takes_of (λ p. p) s t) (λ e. ap (takes_of (λ p. p) s) (complete e)))

    put_is : (s : ℕ) → writes_of S.streams s ≡ Some true → put_in W s n ≡ cond (steps part W (answers_at run) past n) (puts_of (λ p. p) s (step_in part past n)) []
    put_is s writes =
        said (put_in W s n) (λ u. cond (not (ended n) && allowed S run n u) (puts_of (λ p. p) s u) [])
        (puts_are_made S title run f cells n (place n) (σ n) is s writes ∙ while_on (ended n) ok (puts_of (λ p. p) s t) [] (λ e. ap (puts_of (λ p. p) s) (complete e)))

    asks_is : (m : ℕ) → m < length S.memories → AsksAs run n m (step_in part past n)
    asks_is m low = subst (AsksAs run n m) same_step (asks_are_made S title run f cells n (place n) (σ n) is m low)

    stores_is : (m : ℕ) → m < length S.memories → number_at run (We m) n ≡ one_if (not (ended n) && by_act (stores_to m) (step_in part past n))
    stores_is m low =
        said (number_at run (We m) n) (λ u. one_if (not (ended n) && by_act (stores_to m) u))
        (stores_are_asked S title run f cells n (place n) (σ n) is m low ∙ ap one_if (asks_on (ended n) (by_act (stores_to m) t) (λ e. ap (by_act (stores_to m)) (complete e))))

  held_first : σ 1 ≡ first_held S run cells
  held_first =
      same_held (σ 1) (first_held S run cells)
      (ones_are (λ r. number_at run (Variable r) 1) (length S.registers) (first_held S run cells).vars 0 (ones_length (λ r. first_of S run r (length S.scalars)) (length S.registers))
      (λ r l. first_var S title run f cells machine around ms fit r l ∙ sym (ones_at (λ x. first_of S run x (length S.scalars)) (length S.registers) r 0 l)))
      refl refl

  done_there : Has (all S) (Output 1 (name Done) (Plain (net Ended)))
  done_there =
      among_left (Output 1 (name Done) (Plain (net Ended)) ∷ []) (each (stream_outputs S) (length S.streams)) (all S)
      (among_left ((Output 1 (name Done) (Plain (net Ended)) ∷ []) ++ each (stream_outputs S) (length S.streams)) (each (memory_outputs S) (length S.memories)) (all S) (outputs_in S))
      (Output 1 (name Done) (Plain (net Ended))) (inl refl)

  pub runs_machines : RunsTask S (writes_of S.streams) run cells
  runs_machines = record {
    machine = record {
      at_first = at_start S title run f ms fit machine cells around;
      holds_first = held_first;
      not_ended = not_ended S title run f ms fit machine cells around;
      at = λ n. place_next (suc n) (stands S title run f ms fit machine cells around n) (around.runs n);
      holds = λ n. held_next (suc n) (stands S title run f ms fit machine cells around n) (around.runs n);
      ended = λ n. ended_next (suc n) (stands S title run f ms fit machine cells around n) (around.runs n);
      take = λ s n reads. take_is (suc n) (stands S title run f ms fit machine cells around n) (around.runs n) s reads;
      put = λ s n writes. put_is (suc n) (stands S title run f ms fit machine cells around n) (around.runs n) s writes;
    };
    asks = λ n m low. asks_is (suc n) (stands S title run f ms fit machine cells around n) (around.runs n) m low;
    stores = λ n m low. stores_is (suc n) (stands S title run f ms fit machine cells around n) (around.runs n) m low;
    done = λ n. output_driven title (task_elements S) run f 1 (name Done) (Plain (net Ended)) done_there n;
  }

-- ---- the machines of leaves

form_count : (states : List StateOf) → length (forms_of states) ≡ length states
form_count states = length-map states form_of

-- no array has more cells than a task may have
few_cells : (o : Option ArrayOf) → ((r : ArrayOf) → o ≡ Some r → r.cells ≤ 4096) → unwrap_or (option_map (λ (r : ArrayOf). r.cells) o) 1 ≤ 4096
few_cells None h = omega arith
few_cells (Some r) h = h r refl

module _ (leaf : Leaf) (machine : Fsm) where
  kinds_with : List ArrayOf → Kinds
  kinds_with arrays = record {
    vars = λ r. slice_index_or machine.regs.items r U64;
    arrays = λ a. unwrap_or (option_map (λ (r : ArrayOf). r.kind) (slice_get arrays a)) U64;
    memories = λ m. slice_index_or leaf.memories.items m U64;
    streams = λ s. unwrap_or (option_map (λ (e : End). e.kind) (slice_get leaf.streams.items s)) U64;
  }

  ranges_with : (arrays states : ℕ) → Ranges
  ranges_with arrays states = record {
    registers = length machine.regs.items;
    arrays = arrays;
    memories = length leaf.memories.items;
    states = states;
    writes = writes_of leaf.streams.items;
  }

  abbrev S : Shape
  S = shape_of machine leaf.memories.items leaf.streams.items

  -- the kinds and the ranges of the shape are those of the leaf and the machine
  same_kinds : machine.arrays.items ≡ leaf.arrays.items → machine_kinds leaf machine ≡ kinds_in S
  unfolding kinds_with
  same_kinds e = ap kinds_with (sym e)

  same_ranges : machine.arrays.items ≡ leaf.arrays.items → ranges_of leaf machine ≡ ranges_in S
  unfolding ranges_with
  same_ranges e =
      ap (λ (l : List ArrayOf). ranges_with (length l) (length machine.states.items - 1)) (sym e)
      ∙ ap (λ n. ranges_with (length machine.arrays.items) (n - 1)) (sym (form_count machine.states.items))

  pub lowered_is_machine : IsLeaf leaf → IsLowered leaf machine → IsCountable S → IsMachine S
  lowered_is_machine is low count = record {
    typed = subst (λ K. AreTypedStates K (forms_of machine.states.items)) (same_kinds low.arrays) low.typed;
    ranged = subst (λ R. AreInRange R (forms_of machine.states.items)) (same_ranges low.arrays) low.in_range;
    some = (let c = form_count machine.states.items in let s = low.states in omega (arith, c, s));
    cells = λ a. few_cells (slice_get machine.arrays.items a) (λ r e. (is.cells a r (subst (λ (l : List ArrayOf). slice_get l a ≡ Some r) low.arrays e)).1);
    few = (let b = bounds S count in record { registers = b.registers; arrays = b.arrays });
  }

pub instances_run : InstancesRun
instances_run leaf machine is low count modules top nets runs path at cells around =
    runs_machines (shape_of machine leaf.memories.items leaf.streams.items) (task_name machine.name) (λ n. nets n path) (runs.each path (task_tree machine leaf.memories.items leaf.streams.items) at) [] (tasks_are_fitting leaf machine is low count [])
    (lowered_is_machine leaf machine is low count) cells around
