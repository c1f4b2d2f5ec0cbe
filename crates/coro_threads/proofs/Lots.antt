-- Lists of batches, some of which have changed.
use Rattle.std.proofs.Common.{◌≡◌, ℕ, ◌+◌, ◌<◌, List, length, true, Some, refl, sym, ◌∙◌, subst, ⊎_elim, arith, length-set}
use Rattle.std.specs.Prelude.{slice_get, slice_index_or, slice_set}
use Rattle.std.proofs.lemmas.Bool.{cases_eq}
use Rattle.std.proofs.lemmas.Option.{slice_get_within, slice_get-get_or, get_or_from_slice_get}
use Rattle.net_core.proofs.Moves.{get_set_same, get_set_other}
use Rattle.net_case.specs.declared.lot.Lot.{Lot}
use Rattle.net_core.specs.declared.body.Pause.{Pause}
use Rattle.net_case.specs.Batch.{IsSameLot, Ran}
use Rattle.net_case.specs.declared.case_state.CaseState.{CaseState}
use Rattle.coro_threads.specs.Out.{AreOut, AreSameLots, AreReady}
use Rattle.coro_threads.proofs.InTurn.{same_lot}
use Rattle.tapa_base.proofs.Got.{some_at as has_item}

pub same_lot_trans : (a b c : Lot) → IsSameLot a b → IsSameLot b c → IsSameLot a c
same_lot_trans a b c h j = record {
  program = j.program ∙ h.program;
  input = j.input ∙ h.input;
  budget = j.budget ∙ h.budget;
  instance = j.instance ∙ h.instance;
  at = j.at ∙ h.at;
  from = j.from ∙ h.from;
  fuel = j.fuel ∙ h.fuel;
}

-- one of them has changed
pub same_lots_set : (xs bs : List Lot) (k : ℕ) (x y : Lot) → AreSameLots xs bs → slice_get bs k ≡ Some x → IsSameLot x y → AreSameLots xs (slice_set bs k y)
same_lots_set xs bs k x y s at same = record {
  len = length-set bs k y ∙ s.len;
  same = λ n a b e f.
      ⊎_elim
      (λ (q : k ≡ n).
      let w = slice_get_within bs k x at in
      let f' : slice_get (slice_set bs k y) k ≡ Some b = subst (λ m. slice_get (slice_set bs k y) m ≡ Some b) (sym q) f in
      let is : y ≡ b = let g = get_set_same bs k y (omega arith) in cc in
      subst (IsSameLot a) is (same_lot_trans a x y (s.same k a x (subst (λ m. slice_get xs m ≡ Some a) (sym q) e) at) same))
      (λ (d : k ≡ n → ⊥). s.same n a b e (sym (get_set_other bs k n y d) ∙ f))
      (cases_eq k n);
}

pub ready_set : (bs : List Lot) (k : ℕ) (y : Lot) → AreReady k bs → k < length bs → y.ready ≡ true → AreReady (k + 1) (slice_set bs k y)
ready_set bs k y ready inside is n b l e =
    ⊎_elim
    (λ (q : k ≡ n).
    let e' : slice_get (slice_set bs k y) k ≡ Some b = subst (λ m. slice_get (slice_set bs k y) m ≡ Some b) (sym q) e in
    let same : y ≡ b = let g = get_set_same bs k y inside in cc in
    subst (λ (z : Lot). z.ready ≡ true) same is)
    (λ (d : k ≡ n → ⊥). ready n b (omega arith) (sym (get_set_other bs k n y d) ∙ e))
    (cases_eq k n)

-- ---- each is resumed

module _ (xs ys : List Lot) (len : length ys ≡ length xs) (ran : (i : ℕ) (d : Lot) → i < length xs → (pause : Pause) × Ran (slice_index_or xs i d) (slice_index_or ys i d) pause) where
  ran_at : (n : ℕ) (a b : Lot) → slice_get xs n ≡ Some a → slice_get ys n ≡ Some b → (pause : Pause) × Ran a b pause
  ran_at n a b e f =
      let w = slice_get_within xs n a e in
      subst (λ y. (pause : Pause) × Ran a y pause) (get_or_from_slice_get ys n b a f)
      (subst (λ x. (pause : Pause) × Ran x (slice_index_or ys n a) pause) (get_or_from_slice_get xs n a a e) (ran n a w))

  pub ran_same : AreSameLots xs ys
  ran_same = record { len = len; same = λ n a b e f. (ran_at n a b e f).1.same }

  -- with fuel each makes a tick
  pub ran_some : (c : CaseState) → AreOut c xs → (n : ℕ) (b : Lot) → slice_get ys n ≡ Some b → 0 < b.made
  ran_some c out n b f =
      let w = slice_get_within ys n b f in
      let a = has_item xs n (omega arith) in
      (ran_at n a.0 b a.1 f).1.some (out.each n a.0 a.1).some

pub all_ready : (xs : List Lot) → AreReady (length xs) xs → (i : ℕ) (d : Lot) → i < length xs → (slice_index_or xs i d).ready ≡ true
all_ready xs ready i d l = ready i (slice_index_or xs i d) l (slice_get-get_or xs i d l)
