-- Each step keeps the rule.
use Rattle.std.proofs.Common.{◌≡◌, ◌≢◌, ℕ, zero, suc, ◌<◌, ◌≤◌, ◌==◌, Bool, true, false, List, [], ◌∷◌, ◌++◌, length, set, refl, sym, ap, subst, ◌∙◌, inl, inr, ⊎_elim, arith, Option, Some, None, slice_index}
use mathlib.Core.Option.{some, none, some-injective, some-ne-none}
use mathlib.Core.Option as maybe
use lib.ListN.{get_elem?}
use mathlib.Core.Logic.{dite}
use native.Mathlib.Decide.{ℕ_discrete}
use prog.Atomic.{either}
use Rattle.atomic_table.specs.Table.{rest, State, Step, Act, keeps, takes, gives, homes_after, carried_after, Valid, Allows, Splits, Joins}
use Rattle.atomic_table.proofs.Lists.{at_set, set_else, set_again, at_snoc}
use Rattle.net_case.specs.declared.case_state.CaseState.{CaseState}
use Rattle.coro_threads.specs.declared.views.View.{View}
use Rattle.net_case.specs.State.{IsValidCase}
use Rattle.coro_threads.specs.Ends.{is_out, IsOf}
use Rattle.coro_threads.specs.Turn.{Kept, Knows, AtHome, Away, Finds, MayGive, took, gave, taken, given, kept_part, new_part, joined, nobody, larger, total, names, named, turn_of, share_of, bit, Seated}
use Rattle.coro_threads.proofs.Changing.{changed}
use Rattle.coro_threads.proofs.Sums.{total_set, total_snoc, total_at, total_two, bit_one, bit_zero, bit_small, bit_of, bit_off}

abbrev St : Type 0
St = State (Option CaseState) View

abbrev Homes : Type 0
Homes = List (maybe.Option (Option CaseState))

-- the views after one has changed
pub each_set : (about : CaseState) (counts : List ℕ) (out : List Bool) (vs : List View) (id : ℕ) (w : View) → Knows about counts out w
    → ((j : ℕ) (u : View) → j ≢ id → get_elem? vs j ≡ some u → Knows about counts out u) → (j : ℕ) (u : View) → get_elem? (set vs id w) j ≡ some u → Knows about counts out u
each_set about counts out vs id w mine others j u e = ⊎_elim (λ (t : (j ≡ id) × (w ≡ u)). subst (Knows about counts out) t.1 mine)
    (λ (t : (j ≢ id) × (get_elem? vs j ≡ some u)). others j u t.0 t.1) (at_set vs id j w u e)

some_or : CaseState → Option CaseState → CaseState
some_or d (Some a) = a
some_or d None = d

same_about : (v : View) (about a : CaseState) → v.origin ≡ Some about → v.origin ≡ Some a → about ≡ a
unfolding some_or
same_about v about a e d = ap (some_or about) (sym e ∙ d)

pub named_here : (o : Option ℕ) (i : ℕ) → o ≡ Some i → named o i ≡ 1
named_here o i e = subst (λ (x : Option ℕ). named x i ≡ 1) (sym e) (grind (arith))

module _ (about : CaseState) (workers : ℕ) where
  finds : (s : St) (r : Kept about workers s) (id : ℕ) (v : View) (c : CaseState) → get_elem? s.views id ≡ some v → 0 < v.shares → c.counts ≡ r.counts → c.out ≡ r.out → IsOf about c → Finds v c
  finds s r id v c at live counts outs is = let k = r.each id v at in record {
    of_board = λ a e. subst (λ (x : CaseState). IsOf x c) (same_about v about a (k.of_board live) e) is;
    ahead = λ i. subst (λ (l : List ℕ). slice_index v.seen i ≤ slice_index l i) (sym counts) (k.behind i);
    batch = λ i e.
        let one : named v.batch i ≡ 1 = named_here v.batch i e in
        let le = total_at (names i) s.views id v at in
        let all = r.batches i in
        let here : is_out r.out i ≡ true = bit_one (is_out r.out i) (omega (arith, one, le, all)) in (
          subst (λ (l : List Bool). is_out l i ≡ true) (sym outs) here,
          subst (λ (l : List ℕ). slice_index l i ≡ slice_index v.seen i) (sym counts) (sym (k.batch i (omega (arith, one)))),
        );
  }

  won : (s : St) (r : Kept about workers s) (id : ℕ) (v : View) (c : CaseState) → get_elem? s.views id ≡ some v → 0 < v.shares → v.turn ≡ false
      → c.counts ≡ r.counts → c.out ≡ r.out → total turn_of s.views ≡ 0
      → Kept about workers record { words = 1 ∷ []; homes = none ∷ []; views = set s.views id (taken v c) }
  won s r id v c at live idle counts outs free = let w : View = taken v c in let k = r.each id v at in record {
    counts = r.counts;
    out = r.out;
    place = inr (refl, refl, omega (arith, free, total_set turn_of s.views id v w at, bit_off v.turn idle));
    parts = omega (arith, r.parts, total_set share_of s.views id v w at);
    batches = λ i. omega (arith, r.batches i, total_set (names i) s.views id v w at);
    each = each_set about r.counts r.out s.views id w record {
      of_board = k.of_board;
      behind = λ i. subst (λ (l : List ℕ). slice_index l i ≤ slice_index r.counts i) (sym counts) (omega arith);
      batch = λ i _. ap (λ (l : List ℕ). slice_index l i) counts;
      holder = λ _. (counts, outs);
      alone = λ z. absurd (omega (arith, z, live));
    } (λ j u _ e. r.each j u e);
  }

  abbrev Takes : Step (Option CaseState) → ℕ → View → List ℕ → Homes → List View → Type 0
  Takes st id v words homes views = (w : View) × (a : Act (Option CaseState)) × Valid homes [] a
      × Kept about workers record { words = set words 0 (either (slice_index words 0 == 0) 1 (slice_index words 0)); homes = homes_after homes [] a; views = set views id w }
      × took st (v, []) (slice_index words 0) (w, carried_after [] a)

  pub take_allows : (slots id : ℕ) (v : View) (st : Step (Option CaseState)) → v.turn ≡ false → 0 < v.shares
      → Allows (Kept about workers) slots id (v, []) 0 (λ n. either (n == 0) 1 n) (took st (v, []))
  take_allows slots id v st idle live s r wide at fits = ⊎_elim
      (λ (h : AtHome about r.counts r.out s). let c : CaseState = h.0 in
      subst (λ (p : List ℕ × Homes). Takes st id v p.0 p.1 s.views) (λ i. (sym h.1 i, sym h.2 i)) (
        taken v c,
        takes 0 (Some c),
        refl,
        won s r id v c at live idle h.3 h.4 h.6,
        ((λ _. (c, refl, finds s r id v c at live h.3 h.4 h.5)), (λ z. absurd (omega (arith, z)))),
      ))
      (λ (h : Away s).
      subst (λ (words : List ℕ). Takes st id v words s.homes s.views) (sym h.0) (
        v,
        keeps,
        tt,
        record {
          counts = r.counts;
          out = r.out;
          place = inr (refl, h.1, ap (total turn_of) (set_again s.views id v at) ∙ h.2);
          parts = ap (total share_of) (set_again s.views id v at) ∙ r.parts;
          batches = λ i. ap (total (names i)) (set_again s.views id v at) ∙ r.batches i;
          each = λ j u e. r.each j u (ap (λ (l : List View). get_elem? l j) (sym (set_again s.views id v at)) ∙ e);
        },
        ((λ z. absurd (omega (arith, z))), (λ _. refl)),
      ))
      r.place

  pub take_step : (slots id : ℕ) (me : Seated) (st : Step (Option CaseState)) → me.1 ≡ [] → me.0.turn ≡ false → 0 < me.0.shares
      → Allows (Kept about workers) slots id me 0 (λ n. either (n == 0) 1 n) (took st me)
  take_step slots id me st empty idle live = subst (λ (l : List (ℕ × Option CaseState)). Allows (Kept about workers) slots id (me.0, l) 0 (λ n. either (n == 0) 1 n) (took st (me.0, l))) (sym empty)
      (take_allows slots id me.0 st idle live)

  set_one : (homes : Homes) (x : maybe.Option (Option CaseState)) → length homes ≡ 1 → set homes 0 x ≡ x ∷ []
  set_one [] x e = absurd (omega (arith, e))
  set_one (h ∷ []) x e = refl
  set_one (h ∷ i ∷ hs) x e = absurd (omega (arith, e))

  gives_back : (s : St) (r : Kept about workers s) (id : ℕ) (v : View) (c : CaseState) → get_elem? s.views id ≡ some v → 0 < v.shares → v.turn ≡ true → MayGive v c → IsValidCase c → total turn_of s.views ≡ 1
      → Kept about workers record { words = 0 ∷ []; homes = some (Some c) ∷ []; views = set s.views id (given v c) }
  gives_back s r id v c at live turn may valid one =
      let w : View = given v c in
      let k = r.each id v at in
      let mine : turn_of v ≡ 1 = bit_of v.turn turn in
      let here = k.holder (omega (arith, mine)) in
      let counts : v.seen ≡ r.counts = here.0 in
      let outs : v.out ≡ r.out = here.1 in
      let after : List Bool = c.out in
      let out_is : (i : ℕ) → bit (is_out v.out i) ≡ bit (is_out r.out i) = λ i. ap (λ (l : List Bool). bit (is_out l i)) outs in
      let away : (i : ℕ) → v.batch ≡ Some i → is_out v.out i ≡ true = λ i e.
      bit_one (is_out v.out i) (omega (arith, named_here v.batch i e, total_at (names i) s.views id v at, r.batches i, out_is i)) in
      let count_is : (i : ℕ) → slice_index v.seen i ≡ slice_index r.counts i = λ i. ap (λ (l : List ℕ). slice_index l i) counts in
      record {
        counts = c.counts;
        out = after;
        place = inl (c, refl, refl, refl, refl, record { same = may.of_board about (k.of_board live); valid = valid }, omega (arith, one, mine, total_set turn_of s.views id v w at));
        parts = omega (arith, r.parts, total_set share_of s.views id v w at);
        batches = λ i. let p = changed v.batch v.out c.out may.outs away i in let q = r.batches i in let t = total_set (names i) s.views id v w at in let o = out_is i in
            omega (arith, p, q, t, o);
        each = each_set about c.counts after s.views id w record {
          of_board = k.of_board;
          behind = λ i. omega arith;
          batch = λ i _. refl;
          holder = λ h. absurd (omega (arith, h));
          alone = λ z. absurd (omega (arith, z, live));
        } (λ j u ne e. let q = r.each j u e in record {
          of_board = q.of_board;
          behind = λ i. omega (arith, q.behind i, count_is i, may.ahead i);
          batch = λ i h.
              let two = total_two (names i) s.views id j v u ne at e in
              let all = r.batches i in
              let small = bit_small (is_out r.out i) in
              let o = out_is i in
              let there : is_out v.out i ≡ true = bit_one (is_out v.out i) (omega (arith, two, all, small, o, h)) in
              let not_mine : named v.batch i ≡ 0 = omega (arith, two, all, small, h) in
              q.batch i h ∙ (sym (count_is i) ∙ sym (may.still i there not_mine));
          holder = λ h. absurd (omega (arith, h, mine, one, total_two turn_of s.views id j v u ne at e));
          alone = q.alone;
        });
      }

  hand_or : CaseState → List (ℕ × Option CaseState) → CaseState
  hand_or d [] = d
  hand_or d ((k, Some c) ∷ xs) = c
  hand_or d ((k, None) ∷ xs) = d

  same_hand : (c d : CaseState) → ◌≡◌ {A = List (ℕ × Option CaseState)} ((0, Some c) ∷ []) ((0, Some d) ∷ []) → c ≡ d
  unfolding hand_or
  same_hand c d e = ap (hand_or c) e

  give_allows : (slots id : ℕ) (v : View) (c : CaseState) (st : Step (Option CaseState)) → v.turn ≡ true → 0 < v.shares → MayGive v c → IsValidCase c
      → Allows (Kept about workers) slots id (v, (0, Some c) ∷ []) 0 (λ _. 0) (λ _. gave st (v, (0, Some c) ∷ []) 0)
  give_allows slots id v c st turn live may valid s r wide at fits = ⊎_elim
      (λ (h : AtHome about r.counts r.out s). absurd (omega (arith, h.6, total_at turn_of s.views id v at, bit_of v.turn turn)))
      (λ (h : Away s). (
        given v c,
        gives,
        tt,
        subst (λ (p : List ℕ × Homes). Kept about workers record { words = p.0; homes = p.1; views = set s.views id (given v c) })
            (λ i. (ap (λ (l : List ℕ). set l 0 0) (sym h.0) i, sym (set_one s.homes (some (Some c)) h.1) i))
            (gives_back s r id v c at live turn may valid h.2),
        (λ d e. ap (λ (x : CaseState). (given v x, [])) (same_hand c d e)),
      ))
      r.place

  pub give_step : (slots id : ℕ) (me : Seated) (c : CaseState) (st : Step (Option CaseState)) → me.1 ≡ (0, Some c) ∷ [] → me.0.turn ≡ true → 0 < me.0.shares → MayGive me.0 c → IsValidCase c
      → Allows (Kept about workers) slots id me 0 (λ _. 0) (λ _. gave st me 0)
  give_step slots id me c st hand turn live may valid = subst (λ (l : List (ℕ × Option CaseState)). Allows (Kept about workers) slots id (me.0, l) 0 (λ _. 0) (λ _. gave st (me.0, l) 0)) (sym hand)
      (give_allows slots id me.0 c st turn live may valid)

pub in_hand : (l : List (ℕ × Option CaseState)) (x : Option CaseState) → l ≡ (0, x) ∷ [] → l ≡ (0, x) ∷ rest l
in_hand l x e = e ∙ ap (λ (m : List (ℕ × Option CaseState)). (0, x) ∷ rest m) (sym e)

module _ (about' : CaseState) (workers : ℕ) where
  pub split_step : (id : ℕ) (v : View) → v.turn ≡ false → v.batch ≡ None → 1 < v.shares → Splits (Kept about' workers) id v (kept_part v) (new_part v)
  split_step id v idle none_out enough s r at =
      let left : View = kept_part v in
      let right : View = new_part v in
      let vs : List View = set s.views id left in
      let k = r.each id v at in
      let knows_left : Knows about' r.counts r.out left = record {
        of_board = λ _. k.of_board (omega (arith, enough));
        behind = k.behind;
        batch = k.batch;
        holder = k.holder;
        alone = λ z. (idle, none_out);
      } in
      let knows_right : Knows about' r.counts r.out right = record {
        of_board = λ _. k.of_board (omega (arith, enough));
        behind = k.behind;
        batch = λ i h. absurd (omega (arith, h));
        holder = λ h. absurd (omega (arith, h));
        alone = λ z. (refl, refl);
      } in
      let same_turn : total turn_of (vs ++ right ∷ []) ≡ total turn_of s.views = omega (arith, total_snoc turn_of vs right, total_set turn_of s.views id v left at) in
      record {
        counts = r.counts;
        out = r.out;
        place = ⊎_elim (λ (h : AtHome about' r.counts r.out s). inl (h.0, h.1, h.2, h.3, h.4, h.5, same_turn ∙ h.6)) (λ (h : Away s). inr (h.0, h.1, same_turn ∙ h.2)) r.place;
        parts = omega (arith, enough, r.parts, total_snoc share_of vs right, total_set share_of s.views id v left at);
        batches = λ i. omega (arith, r.batches i, total_snoc (names i) vs right, total_set (names i) s.views id v left at);
        each = λ j u e. ⊎_elim (λ (t : get_elem? vs j ≡ some u). each_set about' r.counts r.out s.views id left knows_left (λ j' u' _ e'. r.each j' u' e') j u t)
            (λ (t : right ≡ u). subst (Knows about' r.counts r.out) t knows_right) (at_snoc vs right u j e);
      }

  larger_below : (xs ys zs : List ℕ) → ((i : ℕ) → slice_index xs i ≤ slice_index zs i) → ((i : ℕ) → slice_index ys i ≤ slice_index zs i) → (i : ℕ) → slice_index (larger xs ys) i ≤ slice_index zs i
  larger_below [] ys zs p q i = q i
  larger_below (x ∷ xs) [] zs p q i = p i
  larger_below (x ∷ xs) (y ∷ ys) [] p q zero = omega (arith, p zero, q zero)
  larger_below (x ∷ xs) (y ∷ ys) [] p q (suc i) = larger_below xs ys [] (λ k. p (suc k)) (λ k. q (suc k)) i
  larger_below (x ∷ xs) (y ∷ ys) (z ∷ zs) p q zero = omega (arith, p zero, q zero)
  larger_below (x ∷ xs) (y ∷ ys) (z ∷ zs) p q (suc i) = larger_below xs ys zs (λ k. p (suc k)) (λ k. q (suc k)) i

  no_name : (i : ℕ) (o : Option ℕ) → o ≡ None → named o i ≡ 0
  no_name i o e = ap (λ (x : Option ℕ). named x i) e

  pub join_step : (id other : ℕ) (v w : View) → v.turn ≡ false → v.batch ≡ None → 0 < v.shares → w.turn ≡ false → w.batch ≡ None
      → Joins (Kept about' workers) id v other w (joined v w) nobody
  join_step id other v w v_idle v_none live w_idle w_none s r at apart at' =
      let both : View = joined v w in
      let vs : List View = set s.views id both in
      let k = r.each id v at in
      let w_there : get_elem? s.views other ≡ some w = sym (set_else s.views id other both apart) ∙ at' in
      let q = r.each other w w_there in
      let knows_both : Knows about' r.counts r.out both = record {
        of_board = λ _. k.of_board live;
        behind = larger_below v.seen w.seen r.counts k.behind q.behind;
        batch = λ i h. absurd (omega (arith, h, no_name i v.batch v_none));
        holder = λ h. absurd (omega (arith, h, bit_off v.turn v_idle));
        alone = λ z. (v_idle, v_none);
      } in
      let knows_nobody : Knows about' r.counts r.out nobody = record {
        of_board = λ h. absurd (omega (arith, h));
        behind = λ i. omega arith;
        batch = λ i h. absurd (omega (arith, h));
        holder = λ h. absurd (omega (arith, h));
        alone = λ z. (refl, refl);
      } in
      let same_turn : total turn_of (set vs other nobody) ≡ total turn_of s.views =
      omega (arith, total_set turn_of s.views id v both at, total_set turn_of vs other w nobody at', bit_off v.turn v_idle, bit_off w.turn w_idle) in
      record {
        counts = r.counts;
        out = r.out;
        place = ⊎_elim (λ (h : AtHome about' r.counts r.out s). inl (h.0, h.1, h.2, h.3, h.4, h.5, same_turn ∙ h.6)) (λ (h : Away s). inr (h.0, h.1, same_turn ∙ h.2)) r.place;
        parts = omega (arith, r.parts, total_set share_of s.views id v both at, total_set share_of vs other w nobody at');
        batches = λ i. omega (arith, r.batches i, total_set (names i) s.views id v both at, total_set (names i) vs other w nobody at', no_name i w.batch w_none);
        each = each_set about' r.counts r.out vs other nobody knows_nobody
            (λ j u _ e. each_set about' r.counts r.out s.views id both knows_both (λ j' u' _ e'. r.each j' u' e') j u e);
      }

  none_named : (i : ℕ) (vs : List View) → ((j : ℕ) (u : View) → get_elem? vs j ≡ some u → names i u ≡ 0) → total (names i) vs ≡ 0
  none_named i [] h = refl
  none_named i (v ∷ vs) h = omega (arith, h zero v refl, none_named i vs (λ j u e. h (suc j) u e))

  none_turns : (vs : List View) → ((j : ℕ) (u : View) → get_elem? vs j ≡ some u → turn_of u ≡ 0) → total turn_of vs ≡ 0
  none_turns [] h = refl
  none_turns (v ∷ vs) h = omega (arith, h zero v refl, none_turns vs (λ j u e. h (suc j) u e))

  -- at the end: who has every share finds the case at home, with nothing out
  pub closes : (s : St) (r : Kept about' workers s) (id : ℕ) (v : View) → get_elem? s.views id ≡ some v → v.shares ≡ workers → v.turn ≡ false → v.batch ≡ None
      → (c : CaseState) × (s.homes ≡ some (Some c) ∷ []) × IsOf about' c × ((i : ℕ) → slice_index v.seen i ≤ slice_index c.counts i) × ((i : ℕ) → is_out c.out i ≡ false)
  closes s r id v at all idle no_batch =
      let k = r.each id v at in
      let others : (j : ℕ) (u : View) → j ≢ id → get_elem? s.views j ≡ some u → u.shares ≡ 0 = λ j u ne e. omega (arith, all, r.parts, total_two share_of s.views id j v u ne at e) in
      let none_at : (i j : ℕ) (u : View) → get_elem? s.views j ≡ some u → names i u ≡ 0 = λ i j u e. dite (ℕ_discrete j id)
      (λ (same : j ≡ id). subst (λ (x : View). names i x ≡ 0) (some-injective v u (sym at ∙ (ap (get_elem? s.views) (sym same) ∙ e))) (no_name i v.batch no_batch))
      (λ ne. no_name i u.batch ((r.each j u e).alone (others j u ne e)).1) in
      let idle_at : (j : ℕ) (u : View) → get_elem? s.views j ≡ some u → turn_of u ≡ 0 = λ j u e. dite (ℕ_discrete j id)
      (λ (same : j ≡ id). subst (λ (x : View). turn_of x ≡ 0) (some-injective v u (sym at ∙ (ap (get_elem? s.views) (sym same) ∙ e))) (bit_off v.turn idle))
      (λ ne. bit_off u.turn ((r.each j u e).alone (others j u ne e)).0) in
      ⊎_elim (λ (h : AtHome about' r.counts r.out s). (
        h.0,
        h.2,
        h.5,
        (λ i. subst (λ (l : List ℕ). slice_index v.seen i ≤ slice_index l i) (sym h.3) (k.behind i)),
        (λ i. bit_zero (is_out h.0.out i) (ap (λ (l : List Bool). bit (is_out l i)) h.4 ∙ (sym (r.batches i) ∙ none_named i s.views (none_at i)))),
      ))
      (λ (h : Away s). absurd (omega (arith, h.2, none_turns s.views idle_at)))
      r.place

pub joins_at : (about : CaseState) (workers : ℕ) (id other : ℕ) (v w : View) → v.turn ≡ false → v.batch ≡ None → 0 < v.shares → w.turn ≡ false → w.batch ≡ None → Joins (Kept about workers) id v other w (joined v w) nobody
joins_at = join_step

pub splits_at : (about : CaseState) (workers : ℕ) (id : ℕ) (v : View) → v.turn ≡ false → v.batch ≡ None → 1 < v.shares → Splits (Kept about workers) id v (kept_part v) (new_part v)
splits_at = split_step
