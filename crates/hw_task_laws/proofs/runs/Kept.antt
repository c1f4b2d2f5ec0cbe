-- A step keeps the sizes of what is held, and the values in their kinds; it leads to a state before the trap.
use Rattle.std.proofs.Common.{◌≡◌, ℕ, zero, suc, ◌-◌, ◌^◌, ◌<◌, Bool, true, false, cond, List, [], ◌∷◌, Option, Some, None, refl, subst, ◌∙◌, arith}
use Rattle.std.specs.Prelude.{nat_lt, slice_get}
use Rattle.std.proofs.lemmas.Bool.{ltb-true}
use Rattle.std.proofs.lemmas.List.{length-set}
use Rattle.tapa_base.specs.declared.token.Token.{Token}
use Rattle.tapa_base.specs.declared.token.Token.TheVariants.{Datum, Eot}
use Rattle.tapa_base.specs.Kinds.{bits_of}
use Rattle.kahn_model.specs.declared.tick.StreamOperation.{StreamOperation}
use Rattle.kahn_model.specs.declared.tick.StreamOperation.TheVariants.{Read, Peek, TestEot, Open}
use Rattle.kahn_model.specs.Behavior.{Answer, judge_token, on_offer}
use Rattle.kahn_model.specs.Fits.{IsTokenOf}
use Rattle.kahn_model.specs.Trace.{State, at_zero, set_var, set_cell, store_cell}
use Rattle.vlog_tree.specs.Cycle.{Cycle}
use Rattle.task_fsm.specs.Machine.{StateForm, SetAt, CellAt, TestAt, ReadAt, PeekAt, EotAt, OpenAt, CloseAt, LoadAt, StoreAt, ClearAt, EndAt, TrapAt}
use Rattle.task_fsm.specs.MachineKinds.{HoldsValues, StepFits}
use Rattle.task_fsm.specs.Ranges.{Ranges, IsInRange, AreInRange}
use Rattle.task_fsm.specs.Run.{StateStep, Performs, Awaits, Completes, Halts, value, step, put_into, is_last, clear_step}
use Rattle.hw_lines.specs.declared.nets.Net.TheVariants.{Has as HasNet, Dout}
use Rattle.hw_lines.specs.Shape.{Shape, kinds_in, stream_kind, state_count}
use Rattle.hw_lines.specs.After.{at_after, held_after, ends_by}
use Rattle.hw_lines.specs.Machine.{offered}
use Rattle.hw_lines.specs.Runs.{number_at, bit_at, token_bits, streams_at}
use Rattle.hw_task_laws.specs.steps.Steps.{ranges_in, allowed, found_by, HasSizes}
use Rattle.hw_task_laws.specs.effects.Held.{held_by}
use Rattle.hw_task_laws.proofs.runs.Lists.{row_kept}

-- ---- sizes

module _ (S : Shape) where
  var_sizes : (σ : State) (x v : ℕ) → HasSizes S σ → HasSizes S (set_var σ x v)
  var_sizes σ x v h = record { vars = length-set σ.vars x v ∙ h.vars; arrays = h.arrays; rows = h.rows }

  into_sizes : (σ : State) (into : Option ℕ) (v : ℕ) → HasSizes S σ → HasSizes S (put_into σ into v)
  into_sizes σ None v h = h
  into_sizes σ (Some x) v h = var_sizes σ x v h

  cell_sizes : (σ : State) (a i v : ℕ) → HasSizes S σ → HasSizes S (set_cell σ a i v)
  cell_sizes σ a i v h = record { vars = h.vars; arrays = length-set σ.arrays a _ ∙ h.arrays; rows = λ b l. row_kept σ.arrays a i v b ∙ h.rows b l }

  store_sizes : (σ : State) (m i v : ℕ) → HasSizes S σ → HasSizes S (store_cell σ m i v)
  store_sizes σ m i v h = record { vars = h.vars; arrays = h.arrays; rows = h.rows }

  clear_sizes : (σ : State) (a c k next v : ℕ) (b : Bool) → HasSizes S σ → HasSizes S (held_after (clear_step b a c k next σ) σ v)
  clear_sizes σ a c k next v true h = var_sizes (set_cell σ a _ 0) c _ (cell_sizes σ a _ 0 h)
  clear_sizes σ a c k next v false h = var_sizes (set_cell σ a _ 0) c 0 (cell_sizes σ a _ 0 h)

  after_sizes : (g : StateForm) (k v : ℕ) (σ : State) → HasSizes S σ → HasSizes S (held_after (step g k σ) σ v)
  after_sizes (SetAt r e next) k v σ h = var_sizes σ r (value e σ) h
  after_sizes (CellAt a i e next) k v σ h = cell_sizes σ a (value i σ) (value e σ) h
  after_sizes (ReadAt s into next) k v σ h = into_sizes σ into v h
  after_sizes (PeekAt s into next) k v σ h = into_sizes σ into v h
  after_sizes (EotAt s into next) k v σ h = into_sizes σ into v h
  after_sizes (LoadAt m i into next) k v σ h = into_sizes σ into _ h
  after_sizes (StoreAt m i e next) k v σ h = store_sizes σ m (value i σ) (value e σ) h
  after_sizes (ClearAt a c next) k v σ h = clear_sizes σ a c k next v (is_last σ a c) h
  after_sizes _ k v σ h = h

  cond_sizes : (b : Bool) (τ σ : State) → HasSizes S τ → HasSizes S σ → HasSizes S (cond b τ σ)
  cond_sizes true τ σ p q = p
  cond_sizes false τ σ p q = q

  pub sizes_kept : (run : ℕ → Cycle) (n k : ℕ) (g : StateForm) (σ : State) → HasSizes S σ → HasSizes S (held_by S run n σ (step g k σ))
  sizes_kept run n k g σ h = cond_sizes (allowed S run n (step g k σ)) (held_after (step g k σ) σ (found_by S run n (step g k σ))) σ (after_sizes g k (found_by S run n (step g k σ)) σ h) h

-- ---- values

answer_of : (how : StreamOperation) (t : Token) → on_offer (judge_token how t) false false (λ x v. true) ≡ true → judge_token how t ≡ Answer t (on_offer (judge_token how t) 0 0 (λ x v. v))
answer_of Read Eot h = cc
answer_of Peek Eot h = cc
answer_of TestEot Eot h = refl
answer_of Open (Datum v) h = cc
answer_of Open Eot h = refl
answer_of _ (Datum v) h = refl

offer_answer : (has : Bool) (how : StreamOperation) (t : Token) → on_offer (offered has how t) false false (λ x v. true) ≡ true → judge_token how t ≡ Answer t (on_offer (offered has how t) 0 0 (λ x v. v))
offer_answer true how t h = answer_of how t h
offer_answer false how t h = cc

module _ (S : Shape) (run : ℕ → Cycle) (n : ℕ) where
  -- what stands at a reader's end is a token of the stream's kind
  token_fits : (s : ℕ) → IsTokenOf (stream_kind S s) ((streams_at S run).dout s n)
  token_fits s = by_test (nat_lt (number_at run (Dout s) n) (2 ^ (token_bits S s - 1))) refl where
    by_test : (b : Bool) → nat_lt (number_at run (Dout s) n) (2 ^ (token_bits S s - 1)) ≡ b → IsTokenOf (stream_kind S s) (cond b (Datum (number_at run (Dout s) n)) Eot)
    by_test true e =
        let w : token_bits S s - 1 ≡ bits_of (stream_kind S s) = omega arith in
        subst (λ z. number_at run (Dout s) n < 2 ^ z) w (ltb-true (number_at run (Dout s) n) (2 ^ (token_bits S s - 1)) e)
    by_test false e = tt

  held_fits : (t : StateStep) (σ : State) → StepFits (kinds_in S) σ t → HoldsValues (kinds_in S) σ → (b : Bool) → allowed S run n t ≡ b → HoldsValues (kinds_in S) (cond b (held_after t σ (found_by S run n t)) σ)
  held_fits t σ step h false e = h
  held_fits (Performs a pc τ) σ step h true e = step.1
  held_fits (Awaits s how pc into) σ step h true e =
      step ((streams_at S run).dout s n) (found_by S run n (Awaits s how pc into)) (token_fits s) (offer_answer (bit_at run (HasNet s) n) how ((streams_at S run).dout s n) e)
  held_fits Completes σ step h true e = h
  held_fits Halts σ step h true e = h

  pub values_kept : (t : StateStep) (σ : State) → StepFits (kinds_in S) σ t → HoldsValues (kinds_in S) σ → HoldsValues (kinds_in S) (held_by S run n σ t)
  values_kept t σ step h = held_fits t σ step h (allowed S run n t) refl

-- ---- places

pub ranged_at : (R : Ranges) (P : List StateForm) (k : ℕ) (p : StateForm) → AreInRange R P → slice_get P k ≡ Some p → IsInRange R p
ranged_at R [] k p h e = cc
ranged_at R (q ∷ P) zero p h e = let same : q ≡ p = cc in subst (λ x. IsInRange R x) same h.0
ranged_at R (q ∷ P) (suc k) p h e = ranged_at R P k p h.1 e

choice_low : (v y m n : ℕ) → y < n → m < n → at_zero v m y < n
choice_low zero y m n h l = l
choice_low (suc v) y m n h l = h

clear_low : (σ : State) (a c k next n : ℕ) (b : Bool) → k < n → next < n → at_after (clear_step b a c k next σ) k < n
clear_low σ a c k next n true h l = h
clear_low σ a c k next n false h l = l

after_low : (S : Shape) (g : StateForm) (k : ℕ) (σ : State) → IsInRange (ranges_in S) g → k < state_count S → at_after (step g k σ) k < state_count S
after_low S (CellAt a i e next) k σ h l = h.3
after_low S (TestAt e y m) k σ h l = choice_low (value e σ) y m (state_count S) h.1 h.2
after_low S (OpenAt s next) k σ h l = h.1
after_low S (CloseAt s next) k σ h l = h.1
after_low S (LoadAt m i into next) k σ h l = h.3
after_low S (StoreAt m i e next) k σ h l = h.3
after_low S (ClearAt a c next) k σ h l = clear_low σ a c k next (state_count S) (is_last σ a c) l h.2
after_low S EndAt k σ h l = l
after_low S TrapAt k σ h l = l
after_low S _ k σ h l = h.2

cond_low : (b : Bool) (x y n : ℕ) → x < n → y < n → cond b x y < n
cond_low true x y n h l = h
cond_low false x y n h l = l

pub place_low : (S : Shape) (run : ℕ → Cycle) (n k : ℕ) (g : StateForm) (σ : State) → IsInRange (ranges_in S) g → k < state_count S → cond (allowed S run n (step g k σ)) (at_after (step g k σ) k) k < state_count S
place_low S run n k g σ h l = cond_low (allowed S run n (step g k σ)) (at_after (step g k σ) k) k (state_count S) (after_low S g k σ h l) l

-- ---- ends

clear_goes_on : (σ : State) (a c k next : ℕ) (b : Bool) → ends_by (clear_step b a c k next σ) ≡ true → ClearAt a c next ≡ EndAt
clear_goes_on σ a c k next true h = cc
clear_goes_on σ a c k next false h = cc

-- a step that ends is that of the end
pub ends_at_end : (g : StateForm) (k : ℕ) (σ : State) → ends_by (step g k σ) ≡ true → g ≡ EndAt
ends_at_end (ClearAt a c next) k σ h = clear_goes_on σ a c k next (is_last σ a c) h
ends_at_end EndAt k σ h = refl
ends_at_end _ k σ h = cc

-- and it is allowed
pub end_allowed : (S : Shape) (run : ℕ → Cycle) (n : ℕ) (t : StateStep) → allowed S run n t ≡ false → ends_by t ≡ false
end_allowed S run n Completes h = cc
end_allowed S run n _ h = refl
