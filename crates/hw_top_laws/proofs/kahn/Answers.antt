-- A machine asks only for its own memories, so answers of others are no matter.
use Rattle.std.proofs.Common.{◌≡◌, ℕ, suc, ◌<◌, Bool, true, false, ◌&&◌, not, [], Option, Some, None, refl, ap, ◌∙◌}
use Rattle.std.specs.Prelude.{if◌then◌else◌, slice_get}
use Rattle.kahn_model.specs.Trace.{State}
use Rattle.task_fsm.specs.Machine.{StateForm, LoadAt, StoreAt, ClearAt}
use Rattle.task_fsm.specs.Ranges.{Ranges, IsInRange, AreInRange}
use Rattle.task_fsm.specs.Run.{clear_step, is_last, step, step_at}
use Rattle.task_fsm.proofs.Ranged.{in_range_at}
use Rattle.hw_lines.specs.After.{at_after, held_after, ends_by}
use Rattle.hw_lines.specs.Machine.{RunsMachine, allows, found, takes_of, puts_of, step_in, steps}
use Rattle.hw_lines.specs.Signals.{Streams, History, Part}

module _ (S : Streams) (f g : ℕ → ℕ → Bool) (bound : ℕ → ℕ) (n : ℕ) (r : Ranges) (same : (m : ℕ) → m < r.memories → f m n ≡ g m n) where
  clear_same : (b : Bool) (a c pc next : ℕ) (σ : State) → allows S f bound n (clear_step b a c pc next σ) ≡ allows S g bound n (clear_step b a c pc next σ)
  clear_same true a c pc next σ = refl
  clear_same false a c pc next σ = refl

  form_same : (p : StateForm) → IsInRange r p → (pc : ℕ) (σ : State) → allows S f bound n (step p pc σ) ≡ allows S g bound n (step p pc σ)
  form_same (LoadAt m i into next) h pc σ = same m h.0
  form_same (StoreAt m i e next) h pc σ = same m h.0
  form_same (ClearAt a c next) h pc σ = clear_same (is_last σ a c) a c pc next σ
  form_same _ h pc σ = refl

  at_same : (o : Option StateForm) → ((p : StateForm) → o ≡ Some p → IsInRange r p) → (pc : ℕ) (σ : State) → allows S f bound n (step_at o pc σ) ≡ allows S g bound n (step_at o pc σ)
  at_same None h pc σ = refl
  at_same (Some p) h pc σ = form_same p (h p refl) pc σ

module _ (part : Part) (S : Streams) (f g : ℕ → ℕ → Bool) (Reads Writes : ℕ → Type 0) (h : History) (r : Ranges) (ranged : AreInRange r part.places) (same : (n m : ℕ) → m < r.memories → f m n ≡ g m n) where
  steps_same : (n : ℕ) → steps part S f h n ≡ steps part S g h n
  steps_same n =
      ap (λ b. not (h.ended n) && b)
      (at_same S f g part.bound n r (same n) (slice_get part.places (h.at n)) (λ p e. in_range_at r part.places (h.at n) p ranged e) (h.at n) (h.holds n))

  pub runs_with : RunsMachine part S f Reads Writes h → RunsMachine part S g Reads Writes h
  runs_with m = record {
    at_first = m.at_first;
    holds_first = m.holds_first;
    not_ended = m.not_ended;
    at = λ n. m.at n ∙ ap (λ (b : Bool). if b then at_after (step_in part h (suc n)) (h.at (suc n)) else h.at (suc n)) (steps_same (suc n));
    holds = λ n. m.holds n ∙ ap (λ (b : Bool). if b then held_after (step_in part h (suc n)) (h.holds (suc n)) (found S part.bound (suc n) (step_in part h (suc n))) else h.holds (suc n)) (steps_same (suc n));
    ended = λ n. m.ended n ∙ ap (λ (b : Bool). if b then ends_by (step_in part h (suc n)) else h.ended (suc n)) (steps_same (suc n));
    take = λ s n own. m.take s n own ∙ ap (λ b. b && takes_of part.bound s (step_in part h (suc n))) (steps_same (suc n));
    put = λ s n own. m.put s n own ∙ ap (λ (b : Bool). if b then puts_of part.bound s (step_in part h (suc n)) else []) (steps_same (suc n));
  }
