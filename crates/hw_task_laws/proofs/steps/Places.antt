-- The register of the state goes on by the steps that are allowed.
use Rattle.std.proofs.Common.{◌≡◌, ℕ, suc, ◌+◌, ◌-◌, ◌<◌, ◌≤◌, Bool, true, false, cond, eqb, List, Some, refl, sym, ap, subst, ◌∙◌, arith, ⊎_elim}
use Rattle.std.specs.Prelude.{nat_lt, slice_index}
use Rattle.std.proofs.lemmas.Bool.{cases_lt, lt-ltb, le-ltb}
use Rattle.kahn_model.specs.Trace.{State}
use Rattle.vlog_tree.specs.Form.{ModuleTree}
use Rattle.vlog_tree.specs.Labels.{rst}
use Rattle.vlog_tree.specs.Table.{Name, one_if}
use Rattle.vlog_tree.specs.Cycle.{Cycle, Follows}
use Rattle.hw_build.specs.Elements.{built}
use Rattle.hw_build.specs.Fitting.{AreFitting}
use Rattle.task_fsm.specs.Machine.{StateForm, ReadAt, WriteAt, PeekAt, EotAt, OpenAt, CloseAt, LoadAt, StoreAt, ClearAt}
use Rattle.task_fsm.specs.Ranges.{IsInRange}
use Rattle.task_fsm.specs.Run.{step, is_last, clear_step}
use Rattle.hw_lines.specs.declared.nets.Choice.TheVariants.{ToState}
use Rattle.hw_lines.specs.declared.nets.Net.{Net}
use Rattle.hw_lines.specs.declared.nets.Net.TheVariants.{State as StateNet, Has as HasNet, Datum as DatumNet, Eot as EotNet, Rdy, Ack}
use Rattle.hw_lines.specs.Nets.{name}
use Rattle.hw_lines.specs.Shape.{Shape, array_cells, form_at}
use Rattle.hw_lines.specs.States.{awaited}
use Rattle.hw_lines.specs.Texts.{root, task_elements}
use Rattle.hw_lines.specs.After.{at_after}
use Rattle.hw_task_laws.specs.acts.Moves.{waits, place_after}
use Rattle.hw_task_laws.proofs.acts.Moves.{state_moves, state_goes_on}
use Rattle.hw_task_laws.specs.steps.Steps.{ranges_in, allowed, IsAt, PlaceGoesOn}
use Rattle.hw_task_laws.proofs.steps.Allowed.{awaits_is}

bit_choice : (b : Bool) (x y : ℕ) → cond (eqb (one_if b) 1) x y ≡ cond b x y
bit_choice true x y = refl
bit_choice false x y = refl

-- whether a cell is not the last of n
pub more_cells : (c n : ℕ) → nat_lt c (n - 1) ≡ nat_lt (c + 1) n
more_cells c n =
    ⊎_elim (λ (l : c + 1 < n). lt-ltb c (n - 1) (omega (arith, l)) ∙ sym (lt-ltb (c + 1) n l)) (λ (l : n ≤ c + 1). le-ltb c (n - 1) (omega (arith, l)) ∙ sym (le-ltb (c + 1) n l))
    (cases_lt (c + 1) n)

clear_at : (a c k next : ℕ) (σ : State) (b : Bool) → at_after (clear_step b a c k next σ) k ≡ cond b k next
clear_at a c k next σ true = refl
clear_at a c k next σ false = refl

clear_goes : (S : Shape) (run : ℕ → Cycle) (n a c k next : ℕ) (σ : State) (b : Bool) → cond b k next ≡ cond (allowed S run n (clear_step b a c k next σ)) (at_after (clear_step b a c k next σ) k) k
clear_goes S run n a c k next σ true = refl
clear_goes S run n a c k next σ false = refl

module _ (S : Shape) (title : Name) (run : ℕ → Cycle) (f : Follows (built title (task_elements S)) run) (cells : ℕ → List (List ℕ)) (n k : ℕ) (σ : State) (is : IsAt S run f.sizes cells n k σ) where
  awaited_next : (g : StateForm) → form_at S k ≡ g → (w : Net) → awaited g ≡ Some w → (next : ℕ) → waits (run n) w next k ≡ cond (allowed S run n (step g k σ)) next k
  awaited_next g same w e next = ap (λ z. cond (eqb z 1) next k) (awaits_is S title run f cells n k σ is g same w e) ∙ bit_choice (allowed S run n (step g k σ)) next k

  -- where it is next is where its step leads
  pub next_place : (g : StateForm) → form_at S k ≡ g → place_after S (run n) k σ g ≡ cond (allowed S run n (step g k σ)) (at_after (step g k σ) k) k
  next_place (ReadAt s into next) same = awaited_next (ReadAt s into next) same (DatumNet s) refl next
  next_place (WriteAt s e next) same = awaited_next (WriteAt s e next) same (Rdy s) refl next
  next_place (PeekAt s into next) same = awaited_next (PeekAt s into next) same (DatumNet s) refl next
  next_place (EotAt s into next) same = awaited_next (EotAt s into next) same (HasNet s) refl next
  next_place (OpenAt s next) same = awaited_next (OpenAt s next) same (EotNet s) refl next
  next_place (CloseAt s next) same = awaited_next (CloseAt s next) same (Rdy s) refl next
  next_place (LoadAt m i into next) same = awaited_next (LoadAt m i into next) same (Ack m) refl next
  next_place (StoreAt m i e next) same = awaited_next (StoreAt m i e next) same (Ack m) refl next
  next_place (ClearAt a c next) same =
      let g : IsInRange (ranges_in S) (ClearAt a c next) = subst (IsInRange (ranges_in S)) same is.shows.ranged in
      ap (λ z. cond z k next) (more_cells (slice_index σ.vars c) (array_cells S a)) ∙ ap (λ z. cond (nat_lt (slice_index σ.vars c + 1) z) k next) (sym (is.sizes.rows a g.0))
      ∙ clear_goes S run n a c k next σ (is_last σ a c)
  next_place _ same = refl

  pub goes_on : (ms : List ModuleTree) → AreFitting ms (task_elements S) → (run n).net rst ≡ 0
      → (run (suc n)).net (name StateNet) ≡ cond (allowed S run n (step (form_at S k) k σ)) (at_after (step (form_at S k) k σ) k) k
  goes_on ms fit runs =
      state_goes_on S title run f ms fit n ∙ ap (λ z. cond (eqb z 1) 0 ((run n).net (root S ToState))) runs ∙ state_moves S title run f (ranges_in S) σ n k is.shows
      ∙ next_place (form_at S k) refl

pub place_goes_on : PlaceGoesOn
place_goes_on S title run f ms fit cells n k σ is runs = goes_on S title run f cells n k σ is ms fit runs
