-- What is held goes on by the steps that are allowed, and so does the place.
use Rattle.std.proofs.Common.{◌≡◌, ℕ, zero, suc, ◌<◌, Bool, true, false, cond, eqb, List, [], length, refl, sym, ap, subst, ◌∙◌, true≢false}
use Rattle.std.specs.Prelude.{slice_index_or}
use Rattle.kahn_model.specs.Trace.{State}
use Rattle.vlog_tree.specs.Form.{ModuleTree}
use Rattle.vlog_tree.specs.Labels.{rst}
use Rattle.vlog_tree.specs.Table.{Name}
use Rattle.vlog_tree.specs.Cycle.{Cycle, Follows}
use Rattle.hw_build.specs.Elements.{built}
use Rattle.hw_build.specs.Fitting.{AreFitting}
use Rattle.task_fsm.specs.Machine.{StateForm, EndAt}
use Rattle.task_fsm.specs.MachineKinds.{HoldsValues}
use Rattle.task_fsm.specs.Run.{StateStep, step}
use Rattle.hw_lines.specs.declared.nets.Choice.TheVariants.{ToState, ToEnd}
use Rattle.hw_lines.specs.declared.nets.Net.TheVariants.{State as StateNet, Ended, Variable, Array}
use Rattle.hw_lines.specs.Nets.{name}
use Rattle.hw_lines.specs.Shape.{Shape, kinds_in, array_cells, state_count, form_at}
use Rattle.hw_lines.specs.Effects.{entries}
use Rattle.hw_lines.specs.Texts.{root, task_elements}
use Rattle.hw_lines.specs.After.{at_after, ends_by}
use Rattle.hw_lines.specs.Runs.{number_at, bit_at, array_at, held_at, StandsAround}
use Rattle.hw_task_laws.proofs.acts.Moves.{state_goes_on}
use Rattle.hw_task_laws.specs.steps.Steps.{allowed, HasSizes, IsAt}
use Rattle.hw_task_laws.proofs.steps.Places.{place_goes_on}
use Rattle.hw_task_laws.specs.effects.Held.{held_by}
use Rattle.hw_task_laws.proofs.effects.Registers.{registers_are_held}
use Rattle.hw_task_laws.proofs.effects.Arrays.{arrays_are_held}
use Rattle.hw_task_laws.proofs.effects.Memories.{memories_are_held}
use Rattle.hw_task_laws.proofs.effects.Ends.{takes, set_or, end_is_held}
use Rattle.hw_task_laws.specs.runs.Machines.{IsMachine}
use Rattle.hw_task_laws.proofs.runs.Lists.{ones_are, same_held}
use Rattle.hw_task_laws.proofs.runs.Kept.{sizes_kept, place_low, ends_at_end}
use Rattle.hw_task_laws.proofs.runs.Starts.{held_sizes, is_at, fits_after, fits_first}

-- a bit that an end sets
pub end_bit : (b : Bool) (old : ℕ) → eqb (cond b 1 old) 1 ≡ cond b true (eqb old 1)
end_bit true old = refl
end_bit false old = refl

either_true : (b c : Bool) → cond b true c ≡ true → (b ≡ false → c ≡ true)
either_true true c h e = cc
either_true false c h e = h

module _ (S : Shape) (title : Name) (run : ℕ → Cycle) (f : Follows (built title (task_elements S)) run) (ms : List ModuleTree) (fit : AreFitting ms (task_elements S)) (machine : IsMachine S)
    (cells : ℕ → List (List ℕ)) (around : StandsAround S run cells) where
  abbrev σ : ℕ → State
  σ n = held_at S run cells n

  abbrev place : ℕ → ℕ
  place n = number_at run StateNet n

  abbrev made : ℕ → StateStep
  made n = step (form_at S (place n)) (place n) (σ n)

  -- what is held is what the step leaves
  pub held_goes : (n : ℕ) → IsAt S run f.sizes cells n (place n) (σ n) → (run n).net rst ≡ 0 → σ (suc n) ≡ held_by S run n (σ n) (made n)
  held_goes n is runs =
      let τ = held_by S run n (σ n) (made n) in
      let sizes : HasSizes S τ = sizes_kept S run n (place n) (form_at S (place n)) (σ n) (held_sizes S run cells n) in
      same_held (σ (suc n)) τ
      (ones_are (λ r. number_at run (Variable r) (suc n)) (length S.registers) τ.vars 0 sizes.vars (λ r l. registers_are_held S title run f ms fit cells n (place n) (σ n) is runs r l))
      (ones_are (array_at S run (suc n)) (length S.arrays) τ.arrays [] sizes.arrays
      (λ a l. ones_are (λ i. (run (suc n)).cell (name (Array a)) i) (array_cells S a) (slice_index_or τ.arrays a []) 0 (sizes.rows a l) (λ i m. arrays_are_held S title run f ms fit machine.few cells n (place n) (σ n) is a i l m)))
      (memories_are_held S title run f cells n (place n) (σ n) is)

  -- in each cycle from 1 on
  pub record Stands (n : ℕ) : Type 0 where
    pub low : place n < state_count S
    pub fits : HoldsValues (kinds_in S) (σ n)
    pub ended : bit_at run Ended n ≡ true → form_at S (place n) ≡ EndAt

  pub at_start : place 1 ≡ 0
  at_start = state_goes_on S title run f ms fit 0 ∙ ap (λ z. cond (eqb z 1) 0 ((run 0).net (root S ToState))) around.reset

  pub not_ended : bit_at run Ended 1 ≡ false
  not_ended = ap (λ z. eqb z 1) (takes S title run f ms fit 0) ∙ ap (λ z. eqb (cond (eqb z 1) 0 (set_or S title run f ms fit 0 (entries S ToEnd))) 1) around.reset

  stays_there : (n : ℕ) (g : StateForm) → form_at S (place n) ≡ g → g ≡ EndAt → (run (suc n)).net (name StateNet) ≡ cond (allowed S run n (step g (place n) (σ n))) (at_after (step g (place n) (σ n)) (place n)) (place n)
      → place (suc n) ≡ place n
  stays_there n g same end e = e ∙ ap (λ z. cond (allowed S run n (step z (place n) (σ n))) (at_after (step z (place n) (σ n)) (place n)) (place n)) end

  goes_on : (n : ℕ) → Stands (suc n) → Stands (suc (suc n))
  goes_on n now = record {
    low = subst (λ z. z < state_count S) (sym next) (place_low S run (suc n) (place (suc n)) (form_at S (place (suc n))) (σ (suc n)) is.shows.ranged now.low);
    fits = subst (HoldsValues (kinds_in S)) (sym (held_goes (suc n) is (around.runs n))) (fits_after S title run f cells machine around (suc n) now.fits now.low);
    ended = λ e. ap (form_at S) (still (ends e)) ∙ ends e;
  } where
    is : IsAt S run f.sizes cells (suc n) (place (suc n)) (σ (suc n))
    is = is_at S title run f cells machine around (suc n) now.fits now.low

    next : place (suc (suc n)) ≡ cond (allowed S run (suc n) (made (suc n))) (at_after (made (suc n)) (place (suc n))) (place (suc n))
    next = place_goes_on S title run f ms fit cells (suc n) (place (suc n)) (σ (suc n)) is (around.runs n)

    ended_bit : bit_at run Ended (suc (suc n)) ≡ cond (ends_by (made (suc n))) true (bit_at run Ended (suc n))
    ended_bit =
        ap (λ z. eqb z 1) (end_is_held S title run f ms fit cells (suc n) (place (suc n)) (σ (suc n)) is (around.runs n)) ∙ end_bit (ends_by (made (suc n))) (number_at run Ended (suc n))

    by_end : (b : Bool) → ends_by (made (suc n)) ≡ b → bit_at run Ended (suc (suc n)) ≡ true → form_at S (place (suc n)) ≡ EndAt
    by_end true h e = ends_at_end (form_at S (place (suc n))) (place (suc n)) (σ (suc n)) h
    by_end false h e = now.ended (either_true (ends_by (made (suc n))) (bit_at run Ended (suc n)) (sym ended_bit ∙ e) h)

    ends : bit_at run Ended (suc (suc n)) ≡ true → form_at S (place (suc n)) ≡ EndAt
    ends e = by_end (ends_by (made (suc n))) refl e

    still : form_at S (place (suc n)) ≡ EndAt → place (suc (suc n)) ≡ place (suc n)
    still end = stays_there (suc n) (form_at S (place (suc n))) refl end next

  pub stands : (n : ℕ) → Stands (suc n)
  stands zero = record {
    low = subst (λ z. z < state_count S) (sym at_start) machine.some;
    fits = fits_first S title run f cells machine around ms fit;
    ended = λ e. absurd (true≢false (sym e ∙ not_ended));
  }
  stands (suc n) = goes_on n (stands n)
