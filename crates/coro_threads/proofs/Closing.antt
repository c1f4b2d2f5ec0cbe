-- What a table that is closed with every share gives.
use Rattle.std.proofs.Common.{◌≡◌, ℕ, ◌≤◌, false, List, [], ◌∷◌, slice_index, refl, sym, ap, ◌∙◌, Option, Some, None, zero, suc, subst, inl, arith}
use mathlib.Core.Option.{some, some-injective, some-ne-none}
use mathlib.Core.Option as maybe
use lib.ListN.{get_elem?}
use Rattle.atomic_table.specs.Table.{Final, Seen, opening}
use Rattle.net_case.specs.declared.case_state.CaseState.{CaseState}
use Rattle.coro_threads.specs.declared.views.View.{View}
use Rattle.net_case.specs.State.{IsValidCase}
use Rattle.coro_threads.specs.Ends.{is_out, IsOf}
use Rattle.coro_threads.specs.Turn.{Kept, Knows, starting}
use Rattle.coro_threads.proofs.Steps.{closes}
use Rattle.coro_threads.proofs.Sums.{bit_off}

pub taken_is : (c : CaseState) (x : Option CaseState) (xs : List (Option CaseState)) → get_elem? xs 0 ≡ some (Some c) → get_elem? xs 0 ≡ some x → x ≡ Some c
taken_is c x xs e f = some-injective x (Some c) (sym f ∙ e)

-- the case that the closed table has in its slot
pub record Closes (o : CaseState) (v : View) (x : Option CaseState) : Type 0 where
  pub case : CaseState
  pub there : x ≡ Some case
  pub is : IsOf o case
  pub ahead : (i : ℕ) → slice_index v.seen i ≤ slice_index case.counts i
  pub home : (i : ℕ) → is_out case.out i ≡ false

pub closed_with : (o : CaseState) (workers : ℕ) (id : ℕ) (v : View) (words : List ℕ) (xs : List (Option CaseState)) (x : Option CaseState) → Final (Seen (Kept o workers) id v) words xs
    → v.shares ≡ workers → v.turn ≡ false → v.batch ≡ None → get_elem? xs 0 ≡ some x → Closes o v x
closed_with o workers id v words xs x f all idle none at = let t = closes o workers f.0 f.1.0 id v f.1.1 all idle none in record {
  case = t.0;
  there = taken_is t.0 x xs (f.4 0 (Some t.0) (ap (λ (l : List (maybe.Option (Option CaseState))). get_elem? l 0) t.1)) at;
  is = t.2;
  ahead = t.3;
  home = t.4;
}

only : (w : View) (j : ℕ) (v : View) → get_elem? (w ∷ []) j ≡ some v → w ≡ v
only w zero v e = some-injective w v e
only w (suc j) v e = absurd (some-ne-none v (sym e))

pub opens : (o : CaseState) (workers : ℕ) (xs : List (Option CaseState)) → xs ≡ Some o ∷ [] → IsValidCase o → ((i : ℕ) → is_out o.out i ≡ false)
    → Kept o workers (opening (0 ∷ []) xs (starting o workers))
opens o workers xs e valid home = subst (λ (l : List (Option CaseState)). Kept o workers (opening (0 ∷ []) l (starting o workers))) (sym e) record {
  counts = o.counts;
  out = o.out;
  place = inl (o, refl, refl, refl, refl, record { same = record { program = refl; input = refl; budget = refl }; valid = valid }, refl);
  parts = omega arith;
  batches = λ i. sym (bit_off (is_out o.out i) (home i));
  each = λ j v at. subst (Knows o o.counts o.out) (only (starting o workers) j v at) record {
    of_board = λ _. refl;
    behind = λ i. omega arith;
    batch = λ i _. refl;
    holder = λ h. absurd (omega (arith, h));
    alone = λ z. (refl, refl);
  };
}

-- what was taken out of the slot
some_case : CaseState → Option CaseState → CaseState
some_case d (Some c) = c
some_case d None = d

pub same_case : (c d : CaseState) (x : Option CaseState) → x ≡ Some c → x ≡ Some d → c ≡ d
unfolding some_case
same_case c d x e f = ap (some_case c) (sym e ∙ f)
