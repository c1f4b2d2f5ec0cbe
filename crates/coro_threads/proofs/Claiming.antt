-- What a claim or a commit leaves may be given back, and what the seat knows then.
use Rattle.std.proofs.Common.{◌≡◌, ◌≢◌, ℕ, zero, suc, ◌+◌, ◌<◌, ◌≤◌, Bool, true, false, List, [], ◌∷◌, length, set, refl, sym, ap, subst, inl, inr, ◌∙◌, arith, Option, Some, None, slice_index, get_or-set_same, get_or-set_other}
use mathlib.Core.Logic.{dite}
use native.Mathlib.Decide.{ℕ_discrete}
use Rattle.tapa_syntax.specs.declared.program.Program.{Program}
use Rattle.net_core.specs.declared.input.Input.{Input}
use Rattle.net_core.specs.Bounded.{network_on, count_of}
use Rattle.net_case.specs.declared.lot.Lot.{Lot}
use Rattle.net_case.specs.declared.case_state.CaseState.{CaseState}
use Rattle.net_case.specs.declared.claim.Claimed.{Claimed}
use Rattle.net_case.specs.declared.claim.Claimed.TheVariants.{Work, Wait, Over}
use Rattle.net_case.specs.Over.{IsOver}
use Rattle.net_case.specs.State.{network, count}
use Rattle.net_case.specs.Claims.{IsSameCase, HandsOut, Claims, Commits, MayCommit}
use Rattle.coro_threads.specs.declared.views.View.{View}
use Rattle.coro_threads.specs.Ends.{is_out, IsOf, IsEndAt}
use Rattle.coro_threads.specs.Out.{IsSameRun}
use Rattle.coro_threads.specs.Turn.{Finds, MayGive, MayChange, GoesOut, HasNothing, taken, given, batch_after, first_new, some_if}
use Rattle.coro_threads.proofs.Changing.{first_none, first_goes}
use Rattle.coro_threads.specs.Seats.{AfterClaim, HasBatch}
use Rattle.coro_threads.proofs.Steps.{named_here}

-- who is out has a place
out_inside : (out : List Bool) (i : ℕ) → is_out out i ≡ true → i < length out
out_inside [] i e = absurd (cc)
out_inside (x ∷ xs) zero e = omega arith
out_inside (x ∷ xs) (suc i) e = omega (arith, out_inside xs i e)

-- a case that is as it was may be given back
same_gives : (v : View) (c c' : CaseState) → v.batch ≡ None → Finds v c → IsSameCase c c' → MayGive (taken v c) c'
same_gives v c c' none finds h = record {
  of_board = λ a e. let is = (finds.of_board a e).same in record {
    program = h.program ∙ is.program;
    input = h.input ∙ is.input;
    budget = h.budget ∙ is.budget;
  };
  ahead = λ i. subst (λ (l : List ℕ). slice_index c.counts i ≤ slice_index l i) (sym h.counts) (omega arith);
  still = λ i _ _. ap (λ (l : List ℕ). slice_index l i) h.counts;
  outs = subst (λ (p : Option ℕ × List Bool). MayChange p.0 c.out p.1) (λ j. (sym none j, sym h.out j)) (inl (λ i. refl));
}

-- who is handed out had a place
handed_inside : (o c c' : CaseState) (b : Lot) → IsOf o c → HandsOut c b c' → b.instance < length c.out
handed_inside o c c' b is h = let v = is.valid in omega (arith, h.inside, v.counts_len, v.out_len)

goes : (c c' : CaseState) (b : Lot) → b.instance < length c.out → HandsOut c b c' → GoesOut c.out (set c.out b.instance true)
goes c c' b place h = record {
  instance = b.instance;
  was_home = h.at_home;
  is_away = get_or-set_same c.out b.instance true false place;
  others = λ i ne. get_or-set_other c.out b.instance i true false ne;
}

pub claim_gives : {B : Type 0} (o : CaseState) (v : View) (c c' : CaseState) (r : Claimed B) → v.origin ≡ Some o → v.batch ≡ None → Finds v c → Claims c r c' → MayGive (taken v c) c'
claim_gives o v c c' Wait of none finds h = same_gives v c c' none finds h.same
claim_gives o v c c' (Over x) of none finds h = same_gives v c c' none finds h.same
claim_gives o v c c' (Work b) of none finds (h, _) = let place = handed_inside o c c' b (finds.of_board o of) h in record {
  of_board = λ a e. let is = (finds.of_board a e).same in record {
    program = h.program ∙ is.program;
    input = h.input ∙ is.input;
    budget = h.budget ∙ is.budget;
  };
  ahead = λ i. subst (λ (l : List ℕ). slice_index c.counts i ≤ slice_index l i) (sym h.counts) (omega arith);
  still = λ i _ _. ap (λ (l : List ℕ). slice_index l i) h.counts;
  outs = subst (λ (p : Option ℕ × List Bool). MayChange p.0 c.out p.1) (λ j. (sym none j, sym h.out j)) (inr (goes c c' b place h));
}

-- the batch that a seat without one has after a claim
work_batch : (c c' : CaseState) (b : Lot) → b.instance < length c.out → HandsOut c b c' → batch_after None c.out c'.out ≡ Some b.instance
unfolding goes
work_batch c c' b place h = let g = goes c c' b place h in ap (first_new 0 c.out) h.out ∙ first_goes 0 c.out (set c.out b.instance true) b.instance b.instance (omega arith) g.was_home g.is_away g.others

idle_batch : (c c' : CaseState) → c'.out ≡ c.out → batch_after None c.out c'.out ≡ None
idle_batch c c' e = ap (first_new 0 c.out) e ∙ first_none 0 c.out c.out (λ i. refl)

-- an end of a case is one of the board's
end_of_board : (o c : CaseState) (counts : List ℕ) → IsSameRun o c → IsOver (network c) c.budget (count c) → counts ≡ c.counts → IsEndAt o counts
end_of_board o c counts is e same =
    subst (λ (l : List ℕ). IsOver (network_on o.program o.input) o.budget (count_of l)) (sym same)
    (subst (λ (p : Program). IsOver (network_on p o.input) o.budget (count_of c.counts)) is.program
    (subst (λ (x : Input). IsOver (network_on c.program x) o.budget (count_of c.counts)) is.input
    (subst (λ (n : ℕ). IsOver (network_on c.program c.input) n (count_of c.counts)) is.budget e)))

pub claimed_after : {B : Type 0} (o : CaseState) (v : View) (c c' : CaseState) (r : Claimed B) → v.origin ≡ Some o → v.batch ≡ None → Finds v c → Claims c r c' → AfterClaim o (given (taken v c) c') r
claimed_after o v c c' (Work w) of none finds (h, _) = let is = finds.of_board o of in let s = h.starts in record {
  free = refl;
  mine = ap (λ (x : Option ℕ). batch_after x c.out c'.out) none ∙ work_batch c c' w (handed_inside o c c' w is h) h;
  counted = ap (λ (l : List ℕ). slice_index l w.instance) h.counts ∙ sym s.from;
  program = s.program ∙ is.same.program;
  input = s.input ∙ is.same.input;
  budget = s.budget ∙ is.same.budget;
  at = λ i. omega (arith, ap (λ (l : List ℕ). slice_index l i) s.at, ap (λ (l : List ℕ). slice_index l i) h.counts);
}
claimed_after o v c c' Wait of none finds h = (refl, ap (λ (x : Option ℕ). batch_after x c.out c'.out) none ∙ idle_batch c c' h.same.out)
claimed_after o v c c' (Over x) of none finds h = (
  (refl, ap (λ (y : Option ℕ). batch_after y c.out c'.out) none ∙ idle_batch c c' h.same.out),
  end_of_board o c c'.counts (finds.of_board o of).same h.over h.same.counts,
)

-- ---- what a commit asks and leaves

pub grows : (xs : List ℕ) (n v i : ℕ) → n < length xs → slice_index xs n ≤ v → slice_index xs i ≤ slice_index (set xs n v) i
grows xs n v i l h = dite (ℕ_discrete i n)
    (λ (e : i ≡ n). subst (λ (x : ℕ). slice_index xs x ≤ slice_index (set xs n v) x) (sym e) (omega (arith, h, get_or-set_same xs n v 0 l)))
    (λ (ne : i ≢ n). omega (arith, get_or-set_other xs n i v 0 ne))

module _ (o : CaseState) (v : View) (c : CaseState) (b : Lot) (has : HasBatch o v b) (of : v.origin ≡ Some o) (finds : Finds v c) where
  is : IsOf o c
  is = finds.of_board o of

  pub same_program : b.program ≡ c.program
  same_program = has.program ∙ sym is.same.program

  pub same_input : b.input ≡ c.input
  same_input = has.input ∙ sym is.same.input

  pub same_budget : b.budget ≡ c.budget
  same_budget = has.budget ∙ sym is.same.budget

  is_away : is_out c.out b.instance ≡ true
  is_away = (finds.batch b.instance has.mine).0

  pub may_commit : MayCommit c b
  may_commit = record { out = is_away; later = λ i. omega (arith, has.at i, finds.ahead i) }

  pub fresh : slice_index c.counts b.instance ≡ b.from
  fresh = (finds.batch b.instance has.mine).1 ∙ has.counted

  inside_out : b.instance < length c.out
  inside_out = out_inside c.out b.instance is_away

  inside : b.instance < length c.counts
  inside = let w = is.valid in omega (arith, inside_out, w.counts_len, w.out_len)

  module _ (c' : CaseState) (h : Commits c b c') where
    home_now : is_out (set c.out b.instance false) b.instance ≡ false
    home_now = get_or-set_same c.out b.instance false false inside_out

    none_left : batch_after (Some b.instance) c.out (set c.out b.instance false) ≡ None
    none_left = ap (λ (x : Bool). some_if x b.instance) home_now

    pub no_batch : batch_after v.batch c.out c'.out ≡ None
    no_batch = subst (λ (p : Option ℕ × List Bool). batch_after p.0 c.out p.1 ≡ None) (λ j. (sym has.mine j, sym h.out j)) none_left

    pub commit_gives : MayGive (taken v c) c'
    commit_gives = record {
      of_board = λ a e. let is = (finds.of_board a e).same in record {
        program = h.program ∙ is.program;
        input = h.input ∙ is.input;
        budget = h.budget ∙ is.budget;
      };
      ahead = λ i. subst (λ (l : List ℕ). slice_index c.counts i ≤ slice_index l i) (sym h.counts) (grows c.counts b.instance (b.from + b.made) i inside (omega (arith, fresh)));
      still = λ i _ none. ap (λ (l : List ℕ). slice_index l i) h.counts
          ∙ get_or-set_other c.counts b.instance i (b.from + b.made) 0 (λ (e : i ≡ b.instance). absurd (omega (arith, none, named_here v.batch i (has.mine ∙ ap Some (sym e)))));
      outs = subst (λ (p : Option ℕ × List Bool). MayChange p.0 c.out p.1) (λ j. (sym has.mine j, sym h.out j)) (λ i ne. get_or-set_other c.out b.instance i false false ne);
    }

    pub nothing_then : HasNothing (given (taken v c) c')
    nothing_then = (refl, no_batch)
