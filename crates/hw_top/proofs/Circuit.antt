-- The design of a program is its circuit.
use Rattle.std.proofs.Common.{◌≡◌, ℕ, ◌+◌, List, [], ◌∷◌, ◌++◌, length, Some, refl, sym, ap, subst, ◌∙◌, length-append}
use Rattle.std.specs.Prelude.{slice_get}
use Rattle.tapa_syntax.specs.declared.program.Program.{Program}
use Rattle.task_fsm.specs.declared.machine.Fsm.{Fsm}
use Rattle.vlog_design.specs.Designs.{DesignTree}
use Rattle.vlog_run_laws.specs.Beside.{RunsBeside}
use Rattle.vlog_tree.specs.Environment.{RunsIn}
use Rattle.vlog_tree.specs.Form.{ModuleTree}
use Rattle.vlog_tree.specs.Refused.{IsDesign}
use Rattle.vlog_tree.specs.V6.{is_top}
use Rattle.hw_build.specs.Elements.{empty}
use Rattle.hw_build.specs.Order.{RestsOnNoInput}
use Rattle.hw_build.proofs.Tables.{name_of_all}
use Rattle.hw_lines.specs.Texts.{task_name}
use Rattle.hw_top_lines.specs.Designs.{design_tree}
use Rattle.hw_top_lines.specs.Legal.{IsReady}
use Rattle.hw_top_lines.specs.Texts.{top_tree, top_elements}
use Rattle.hw_top_laws.specs.modules.Lower.{lower_modules, KeepPromises}
use Rattle.hw_top_laws.proofs.design.Inputs.{designs_rest_on_no_input}
use Rattle.hw_top_laws.proofs.circuit.Circuit.{tops_have_scalars, tops_have_memories, tops_have_streams, designs_are_legal, designs_carry_streams, designs_carry_beside}
use Rattle.hw_top.specs.Kept.{IsKept}
use Rattle.circuit_meaning.specs.Circuits.{IsCircuitOf}
use Rattle.hw_top_laws.proofs.design.Whole.{last_there as last_at}

pub kept_promises : (program : Program) (machines : List Fsm) → ((b : ℕ) → IsKept program machines b) → KeepPromises program machines
kept_promises program machines kept b leaf machine p q used = (kept b).promise leaf machine p q used

module _ (program : Program) (machines : List Fsm) (added : List ℕ) (ready : IsReady program machines added) (kept : KeepPromises program machines) where
  abbrev lower : List ModuleTree
  lower = lower_modules program machines added

  abbrev whole : List ModuleTree
  whole = design_tree program machines added

  -- the top stands behind all others
  pub whole_long : length whole ≡ length lower + 1
  whole_long = length-append lower (top_tree program added ∷ [])

  pub legal_at : (ms : List ModuleTree) (place : ℕ) → ms ≡ whole → place ≡ length lower → IsDesign ms place
  legal_at ms place e p = subst (λ (l : List ModuleTree). IsDesign l place) (sym e) (subst (IsDesign whole) (sym p) (designs_are_legal program machines added ready kept))

  rests_at : (ms : List ModuleTree) → ms ≡ whole → RestsOnNoInput ms (is_top ms) (top_tree program added)
  rests_at ms e = subst (λ (l : List ModuleTree). RestsOnNoInput l (is_top l) (top_tree program added)) (sym e) (designs_rest_on_no_input program machines added ready kept)

  pub circuit_of : (design : DesignTree) → design.modules ≡ whole → design.top ≡ length lower → IsCircuitOf program added design
  circuit_of design e p = record {
    top = top_tree program added;
    is_top = ap (λ (ms : List ModuleTree). slice_get ms design.top) e ∙ ap (slice_get whole) p ∙ last_at lower (top_tree program added);
    named = name_of_all (top_elements program added) (empty (task_name program.top));
    legal = legal_at design.modules design.top e p;
    scalars = tops_have_scalars program machines added ready kept;
    memories = tops_have_memories program machines added ready kept;
    streams = tops_have_streams program machines added ready kept;
    rests = rests_at design.modules e;
    carries = λ env fits nets runs. designs_carry_streams program machines added ready kept env fits nets (subst (λ (ms : List ModuleTree). RunsIn ms (top_tree program added) env nets) e runs);
    beside = λ env fits answers nets runs. designs_carry_beside program machines added ready kept env fits answers nets (subst (λ (ms : List ModuleTree). RunsBeside ms (top_tree program added) env answers nets) e runs);
  }
