-- What batches leave that are claimed, run and committed within one turn.
use Rattle.std.proofs.Common.{◌≡◌, ◌≢◌, ℕ, ◌+◌, ◌<◌, ◌≤◌, Bool, true, false, List, [], length, set, refl, sym, ap, subst, inl, inr, ⊎_elim, ◌∙◌, arith, Option, Some, None, Result, Ok, Err, IfOk, OnErr, slice_index, length-set, get_or-set_same, get_or-set_other}
use mathlib.Core.Logic.{dite}
use native.Mathlib.Decide.{ℕ_discrete}
use Rattle.net_case.specs.declared.lot.Lot.{Lot}
use Rattle.net_case.specs.declared.case_state.CaseState.{CaseState}
use Rattle.net_core.specs.declared.body.Pause.{Pause}
use Rattle.net_case.specs.Batch.{IsSameLot, Ran}
use Rattle.net_case.specs.State.{IsValidCase}
use Rattle.net_case.specs.Claims.{HandsOut, Commits, MayCommit}
use Rattle.coro_threads.specs.declared.views.View.{View}
use Rattle.coro_threads.specs.declared.free.Turned.{Turned}
use Rattle.coro_threads.specs.declared.free.Turned.TheVariants.{Found, Left, Again, Short}
use Rattle.coro_threads.specs.Ends.{is_out}
use Rattle.coro_threads.specs.Turn.{Finds, MayGive, MayChange, GoesOut, HasTurned, HasNothing, taken, given, batch_after}
use Rattle.coro_threads.specs.Seats.{AfterClaim, AfterTurn, Turns}
use Rattle.coro_threads.proofs.Changing.{first_none, first_same}
use Rattle.coro_threads.proofs.Claiming.{grows, claim_gives, claimed_after}
use Rattle.coro_threads.proofs.Turns.{same_run_refl, same_run_trans}

pub turned_none : (c : CaseState) → HasTurned c c
turned_none c = record { run = same_run_refl c; out = λ i. refl; ahead = λ i. omega arith; still = λ i e. refl }

pub same_lot : (b : Lot) → IsSameLot b b
same_lot b = record { program = refl; input = refl; budget = refl; instance = refl; at = refl; from = refl; fuel = refl }

-- a batch that was run, or not for want of memory, is the same
pub same_run : {E : Type 0} (r : Result Pause E) (a b : Lot) → OnErr r (b ≡ a) → IfOk r (λ pause. Ran a b pause) → IsSameLot a b
same_run (Ok pause) a b failed ran = ran.same
same_run (Err e) a b failed ran = subst (IsSameLot a) (sym failed) (same_lot a)

-- who went out and came back is where it was
set_back : (out : List Bool) (n i : ℕ) → n < length out → is_out out n ≡ false → is_out (set (set out n true) n false) i ≡ is_out out i
set_back out n i l home = dite (ℕ_discrete i n)
    (λ (e : i ≡ n). subst (λ (x : ℕ). is_out (set (set out n true) n false) x ≡ is_out out x) (sym e)
    (get_or-set_same (set out n true) n false false (omega (arith, l, length-set out n true)) ∙ sym home))
    (λ (ne : i ≢ n). get_or-set_other (set out n true) n i false false ne ∙ get_or-set_other out n i true false ne)

-- ---- one batch more

module _ (c1 : CaseState) (valid : IsValidCase c1) (b : Lot) (c2 : CaseState) (h : HandsOut c1 b c2) (b' : Lot) (same : IsSameLot b b') where
  place : b'.instance < length c1.out
  place = let v = valid in omega (arith, same.instance, h.inside, v.counts_len, v.out_len)

  counted : b'.instance < length c1.counts
  counted = omega (arith, same.instance, h.inside)

  was_home : is_out c1.out b'.instance ≡ false
  was_home = ap (is_out c1.out) same.instance ∙ h.at_home

  goes_out : c2.out ≡ set c1.out b'.instance true
  goes_out = h.out ∙ ap (λ n. set c1.out n true) (sym same.instance)

  begins : slice_index c1.counts b'.instance ≡ b'.from
  begins = ap (slice_index c1.counts) same.instance ∙ (sym h.starts.from ∙ sym same.from)

  pub turn_program : b'.program ≡ c2.program
  turn_program = same.program ∙ (h.starts.program ∙ sym h.program)

  pub turn_input : b'.input ≡ c2.input
  turn_input = same.input ∙ (h.starts.input ∙ sym h.input)

  pub turn_budget : b'.budget ≡ c2.budget
  turn_budget = same.budget ∙ (h.starts.budget ∙ sym h.budget)

  pub turn_fresh : slice_index c2.counts b'.instance ≡ b'.from
  turn_fresh = ap (λ (l : List ℕ). slice_index l b'.instance) h.counts ∙ begins

  pub turn_may : MayCommit c2 b'
  turn_may = record {
    out = ap (λ (l : List Bool). is_out l b'.instance) goes_out ∙ get_or-set_same c1.out b'.instance true false place;
    later = λ i. omega (arith, ap (λ (l : List ℕ). slice_index l i) (same.at ∙ h.starts.at), ap (λ (l : List ℕ). slice_index l i) h.counts);
  }

  module _ (c : CaseState) (t : HasTurned c c1) (c3 : CaseState) (back : Commits c2 b' c3) where
    out_again : (i : ℕ) → is_out c3.out i ≡ is_out c1.out i
    out_again i = ap (λ (l : List Bool). is_out l i) (back.out ∙ ap (λ (l : List Bool). set l b'.instance false) goes_out) ∙ set_back c1.out b'.instance i place was_home

    counts_then : c3.counts ≡ set c1.counts b'.instance (b'.from + b'.made)
    counts_then = back.counts ∙ ap (λ (l : List ℕ). set l b'.instance (b'.from + b'.made)) h.counts

    grown : (i : ℕ) → slice_index c1.counts i ≤ slice_index c3.counts i
    grown i = subst (λ (l : List ℕ). slice_index c1.counts i ≤ slice_index l i) (sym counts_then) (grows c1.counts b'.instance (b'.from + b'.made) i counted (omega (arith, begins)))

    stood : (i : ℕ) → is_out c1.out i ≡ true → slice_index c3.counts i ≡ slice_index c1.counts i
    stood i e = ap (λ (l : List ℕ). slice_index l i) counts_then
        ∙ get_or-set_other c1.counts b'.instance i (b'.from + b'.made) 0 (λ (d : i ≡ b'.instance). let f : true ≡ false = sym e ∙ (ap (is_out c1.out) d ∙ was_home) in absurd (cc))

    pub turned_more : HasTurned c c3
    turned_more = record {
      run = same_run_trans c c1 c3 t.run (record { program = back.program ∙ h.program; input = back.input ∙ h.input; budget = back.budget ∙ h.budget });
      out = λ i. out_again i ∙ t.out i;
      ahead = λ i. omega (arith, t.ahead i, grown i);
      still = λ i e. stood i (t.out i ∙ e) ∙ t.still i e;
    }

-- ---- what the turn leaves

module _ (o : CaseState) (v : View) (c : CaseState) (of : v.origin ≡ Some o) (none : v.batch ≡ None) (finds : Finds v c) where
  pub turned_gives : (c' : CaseState) → HasTurned c c' → MayGive (taken v c) c'
  turned_gives c' t = record {
    of_board = λ a e. same_run_trans a c c' (finds.of_board a e).same t.run;
    ahead = t.ahead;
    still = λ i e _. t.still i e;
    outs = subst (λ (p : Option ℕ). MayChange p c.out c'.out) (sym none) (inl t.out);
  }

  pub turned_idle : (c' : CaseState) → HasTurned c c' → HasNothing (given (taken v c) c')
  turned_idle c' t = (refl, subst (λ (p : Option ℕ). batch_after p c.out c'.out ≡ None) (sym none) (first_none 0 c.out c'.out t.out))

  module _ (c1 : CaseState) (t : HasTurned c c1) (valid : IsValidCase c1) where
    found : Finds v c1
    found = record {
      of_board = λ a e. record { same = same_run_trans a c c1 (finds.of_board a e).same t.run; valid = valid };
      ahead = λ i. omega (arith, finds.ahead i, t.ahead i);
      batch = λ i e. let d : None ≡ Some i = sym none ∙ e in absurd (cc);
    }

    module _ (c' : CaseState) where
      later_changes : MayChange None c1.out c'.out → MayChange None c.out c'.out
      later_changes m = ⊎_elim (λ (h : (i : ℕ) → is_out c'.out i ≡ is_out c1.out i). inl (λ i. h i ∙ t.out i))
          (λ (g : GoesOut c1.out c'.out). inr (record { instance = g.instance; was_home = sym (t.out g.instance) ∙ g.was_home; is_away = g.is_away; others = λ i ne. g.others i ne ∙ t.out i }))
          m

      later_gives : MayGive (taken v c1) c' → MayGive (taken v c) c'
      later_gives g = record {
        of_board = g.of_board;
        ahead = λ i. omega (arith, t.ahead i, g.ahead i);
        still = λ i e n. g.still i (t.out i ∙ e) n ∙ t.still i e;
        outs = subst (λ (p : Option ℕ). MayChange p c.out c'.out) (sym none) (later_changes (subst (λ (p : Option ℕ). MayChange p c1.out c'.out) none g.outs));
      }

      same_batch : batch_after v.batch c1.out c'.out ≡ batch_after v.batch c.out c'.out
      same_batch = subst (λ (p : Option ℕ). batch_after p c1.out c'.out ≡ batch_after p c.out c'.out) (sym none) (first_same 0 c1.out c.out c'.out t.out)

      same_given : given (taken v c1) c' ≡ given (taken v c) c'
      same_given = ap (λ (x : Option ℕ). record v { turn = false; seen = c'.counts; out = []; batch = x }) same_batch

  pub turn_gives : {B : Type 0} (r : Turned B) (c' : CaseState) → Turns c r c' → MayGive (taken v c) c'
  turn_gives (Found x) c' (c1, t, valid, h) = later_gives c1 t valid c' (claim_gives o v c1 c' x of none (found c1 t valid) h)
  turn_gives Left c' t = turned_gives c' t
  turn_gives Again c' t = turned_gives c' t
  turn_gives Short c' t = turned_gives c' t

  pub turn_after : {B : Type 0} (r : Turned B) (c' : CaseState) → Turns c r c' → AfterTurn o (given (taken v c) c') r
  turn_after (Found x) c' (c1, t, valid, h) = subst (λ (u : View). AfterClaim o u x) (same_given c1 t valid c') (claimed_after o v c1 c' x of none (found c1 t valid) h)
  turn_after Left c' t = turned_idle c' t
  turn_after Again c' t = turned_idle c' t
  turn_after Short c' t = turned_idle c' t
