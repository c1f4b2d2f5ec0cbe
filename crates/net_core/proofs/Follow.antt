-- Steps of what is left of a job.
use Rattle.std.proofs.Common.{◌≡◌, ℕ, ◌+◌, List, [], ◌∷◌, ◌++◌, length, drop, Bool, true, false, Some, refl, sym, ap, ◌∙◌, subst, length-append, append_assoc}
use Rattle.std.specs.Prelude.{slice_get, flat_map, ◌==◌, if◌then◌else◌}
use Rattle.std.proofs.Math.Path.{fun_ext}
use Rattle.std.proofs.Math.Seq.{drop-append_seam}
use Rattle.std.proofs.lemmas.List.{append-nil}
use Rattle.std.proofs.lemmas.Grind.{flat_map-append}
use Rattle.tapa_base.specs.declared.token.Token.{Token}
use Rattle.tapa_base.specs.declared.token.Token.TheVariants.{Datum, Eot}
use Rattle.kahn_model.specs.declared.tick.Action.{Action}
use Rattle.kahn_model.specs.declared.tick.Action.TheVariants.{Put}
use Rattle.kahn_model.specs.declared.tick.Tick.{Tick}
use Rattle.kahn_model.specs.declared.tick.Tick.TheVariants.{Did, End}
use Rattle.kahn_model.specs.declared.tick.TraceEnd.{TraceEnd}
use Rattle.kahn_model.specs.declared.tick.TraceEnd.TheVariants.{Ended, Needs, Bad}
use Rattle.kahn_model.specs.declared.tick.StreamOperation.{StreamOperation}
use Rattle.kahn_model.specs.declared.tick.StreamOperation.TheVariants.{Read, Peek, TestEot, Open}
use Rattle.kahn_model.specs.Prefix.{IsPrefixOf}
use Rattle.kahn_model.specs.Behavior.{Behavior, Finished, OutOfTurns, Act, Await, Offer, NoToken, WrongToken, Answer, judge_token, first_offer, tick_of, lists_after, on_offer, ticks, trace_end}
use Rattle.kahn_model.specs.Network.{take_from}
use Rattle.kahn_model.proofs.Order.{prefix_trans, prefix_append}
use Rattle.net_core.specs.declared.ports.Ports.{Ports}
use Rattle.net_core.specs.declared.body.Pause.{Pause}
use Rattle.net_core.specs.declared.body.Pause.TheVariants.{Ended as HasEnded, WantsRead, WantsWrite, BadToken, Fuel}
use Rattle.net_core.specs.Ports.{waiting, Moved}
use Rattle.net_core.specs.Resume.{lists_at, Agrees, HasRoomAt, StopsAt, GoesOnBy, PausesBy}
use Rattle.net_core.specs.Follow.{Rest, Over, Still, ticks_left, trace_end_left, left, Follows, Going, IsReady, IsLook}
use Rattle.net_core.proofs.Moves.{drop_sum, moved_none, moved_append}

pub prefix_of_append : {A : Type 0} (xs ys : List A) → IsPrefixOf xs (xs ++ ys)
prefix_of_append [] ys = tt
prefix_of_append (x ∷ xs) ys = (refl, prefix_of_append xs ys)

pub prefix_unappend : {A : Type 0} (xs ys zs : List A) → IsPrefixOf (xs ++ ys) (xs ++ zs) → IsPrefixOf ys zs
prefix_unappend [] ys zs p = p
prefix_unappend (x ∷ xs) ys zs (e, p) = prefix_unappend xs ys zs p

pub follows_first : (job : ℕ → Behavior) → Follows job [] (λ n. Still (job n))
follows_first job n ins p = (refl, refl)

-- one more tick, if the rest begins with it wherever it may be made
pub follows_step : (job : ℕ → Behavior) (ts : List Tick) (rest next : ℕ → Rest) (x : Tick) → ((n : ℕ) (ins : ℕ → List Token) → IsPrefixOf (x ∷ []) (ticks_left (rest n) ins) → (ticks_left (rest n) ins ≡ x ∷ ticks_left (next n) (left (x ∷ []) ins)) × (trace_end_left (rest n) ins ≡ trace_end_left (next n) (left (x ∷ []) ins))) → Follows job ts rest → Follows job (ts ++ x ∷ []) next
follows_step job ts rest next x step f n ins p =
    let a = f n ins (prefix_trans _ _ _ (prefix_of_append ts (x ∷ [])) p) in
    let q = prefix_unappend ts (x ∷ []) _ (subst (IsPrefixOf (ts ++ x ∷ [])) a.0 p) in
    let s = step n (left ts ins) q in
    let l : left (x ∷ []) (left ts ins) ≡ left (ts ++ x ∷ []) ins = fun_ext (λ r.
    drop_sum (length (flat_map (take_from r) ts)) (length (flat_map (take_from r) (x ∷ []))) (length (flat_map (take_from r) (ts ++ x ∷ []))) (ins r)
    (ap length (flat_map-append (take_from r) ts (x ∷ [])) ∙ length-append (flat_map (take_from r) ts) (flat_map (take_from r) (x ∷ [])))) in (
      a.0 ∙ ap (λ u. ts ++ u) s.0 ∙ sym (append_assoc ts (x ∷ []) (ticks_left (next n) (left (x ∷ []) (left ts ins)))) ∙ ap (λ u. (ts ++ x ∷ []) ++ ticks_left (next n) u) l,
      a.1 ∙ s.1 ∙ ap (trace_end_left (next n)) l,
    )

pub step_do : (a : Action) (r : Behavior) (ins : ℕ → List Token) → (ticks_left (Still (Act a r)) ins ≡ Did a ∷ ticks_left (Still r) (left (Did a ∷ []) ins)) × (trace_end_left (Still (Act a r)) ins ≡ trace_end_left (Still r) (left (Did a ∷ []) ins))
step_do a r ins = (refl, refl)

pub step_end : (ins : ℕ → List Token) → (ticks_left (Still Finished) ins ≡ End ∷ ticks_left Over (left (End ∷ []) ins)) × (trace_end_left (Still Finished) ins ≡ trace_end_left Over (left (End ∷ []) ins))
step_end ins = (refl, refl)

pub first_is : (how : StreamOperation) (x t : Token) (v : ℕ) → judge_token how x ≡ Answer t v → x ≡ t
first_is Read (Datum w) t v e = cc
first_is Read Eot t v e = cc
first_is Peek (Datum w) t v e = cc
first_is Peek Eot t v e = cc
first_is TestEot (Datum w) t v e = cc
first_is TestEot Eot t v e = cc
first_is Open (Datum w) t v e = cc
first_is Open Eot t v e = cc

same_token : (how : StreamOperation) (p : ℕ) (t u : Token) → tick_of how p t ≡ tick_of how p u → t ≡ u
same_token Read p t u e = cc
same_token Peek p t u e = cc
same_token TestEot p t u e = cc
same_token Open p t u e = cc

drop_if : (b : Bool) (t : Token) (l : List Token) → (if b then drop 1 l else l) ≡ drop (length ((if b then t ∷ [] else []) ++ [])) l
drop_if true t l = refl
drop_if false t l = refl

lists_left : (how : StreamOperation) (p : ℕ) (t : Token) (ins : ℕ → List Token) → lists_after how p ins ≡ left (tick_of how p t ∷ []) ins
lists_left Read p t ins = fun_ext (λ q. drop_if (p == q) t (ins q))
lists_left Peek p t ins = refl
lists_left TestEot p t ins = refl
lists_left Open p t ins = fun_ext (λ q. drop_if (p == q) t (ins q))

ask_found : (p : ℕ) (how : StreamOperation) (k : ℕ → Behavior) (t : Token) (v : ℕ) (y : Token) (ins : ℕ → List Token) (o : Offer) → judge_token how t ≡ Answer t v → judge_token how y ≡ o → IsPrefixOf (tick_of how p t ∷ []) (on_offer o [] [] (λ t v. tick_of how p t ∷ ticks (k v) (lists_after how p ins))) → (on_offer o [] [] (λ t v. tick_of how p t ∷ ticks (k v) (lists_after how p ins)) ≡ tick_of how p t ∷ ticks (k v) (left (tick_of how p t ∷ []) ins)) × (on_offer o (Needs p) (Bad p) (λ t v. trace_end (k v) (lists_after how p ins)) ≡ trace_end (k v) (left (tick_of how p t ∷ []) ins))
ask_found p how k t v y ins NoToken j e q = absurd q
ask_found p how k t v y ins WrongToken j e q = absurd q
ask_found p how k t v y ins (Answer u w) j e (h, q) =
    let a = same_token how p t u h in
    let b = first_is how y u w e in
    let f : judge_token how t ≡ Answer u w = ap (judge_token how) (a ∙ sym b) ∙ e in
    let vw : w ≡ v = cc in
    let l = lists_left how p t ins in (
      ap (λ x. x ∷ ticks (k w) (lists_after how p ins)) (sym h) ∙ ap (λ z. tick_of how p t ∷ ticks (k z) (lists_after how p ins)) vw ∙ ap (λ i. tick_of how p t ∷ ticks (k v) i) l,
      ap (λ z. trace_end (k z) (lists_after how p ins)) vw ∙ ap (trace_end (k v)) l,
    )

ask_list : (p : ℕ) (how : StreamOperation) (k : ℕ → Behavior) (t : Token) (v : ℕ) (ins : ℕ → List Token) (l : List Token) → judge_token how t ≡ Answer t v → IsPrefixOf (tick_of how p t ∷ []) (on_offer (first_offer how l) [] [] (λ t v. tick_of how p t ∷ ticks (k v) (lists_after how p ins))) → (on_offer (first_offer how l) [] [] (λ t v. tick_of how p t ∷ ticks (k v) (lists_after how p ins)) ≡ tick_of how p t ∷ ticks (k v) (left (tick_of how p t ∷ []) ins)) × (on_offer (first_offer how l) (Needs p) (Bad p) (λ t v. trace_end (k v) (lists_after how p ins)) ≡ trace_end (k v) (left (tick_of how p t ∷ []) ins))
ask_list p how k t v ins [] j q = absurd q
ask_list p how k t v ins (y ∷ us) j q = ask_found p how k t v y ins (judge_token how y) j refl q

pub step_ask : (p : ℕ) (how : StreamOperation) (k : ℕ → Behavior) (t : Token) (v : ℕ) → judge_token how t ≡ Answer t v → (ins : ℕ → List Token) → IsPrefixOf (tick_of how p t ∷ []) (ticks_left (Still (Await p how k)) ins) → (ticks_left (Still (Await p how k)) ins ≡ tick_of how p t ∷ ticks_left (Still (k v)) (left (tick_of how p t ∷ []) ins)) × (trace_end_left (Still (Await p how k)) ins ≡ trace_end_left (Still (k v)) (left (tick_of how p t ∷ []) ins))
step_ask p how k t v j ins q = ask_list p how k t v ins (ins p) j q

-- a call so far
pub going_first : (job : ℕ → Behavior) (ts : List Tick) (before : Ports) (rest : ℕ → Rest) → Follows job ts rest → Agrees job ts before → Going job ts before [] before rest
going_first job ts before rest f (n, p) = record {
  follows = subst (λ u. Follows job u rest) (sym (append-nil ts)) f;
  moved = moved_none before before refl;
  tests = n;
  runs = subst (λ u. IsPrefixOf u (ticks (job n) (lists_at ts before))) (sym (append-nil ts)) p;
}

module _ (job : ℕ → Behavior) (ts : List Tick) (before : Ports) (made : List Tick) (after : Ports) (rest : ℕ → Rest) (g : Going job ts before made after rest) where
  left_is : left (ts ++ made) (lists_at ts before) ≡ (λ p. waiting after p)
  left_is = fun_ext (λ p.
      sym (drop_sum (length (flat_map (take_from p) ts)) (length (flat_map (take_from p) made)) (length (flat_map (take_from p) (ts ++ made))) (lists_at ts before p)
      (ap length (flat_map-append (take_from p) ts made) ∙ length-append (flat_map (take_from p) ts) (flat_map (take_from p) made)))
      ∙ ap (drop (length (flat_map (take_from p) made))) (drop-append_seam (flat_map (take_from p) ts) (waiting before p))
      ∙ sym (g.moved.waits p))

  pub now_ticks : ticks (job g.tests) (lists_at ts before) ≡ (ts ++ made) ++ ticks_left (rest g.tests) (λ p. waiting after p)
  now_ticks = (g.follows g.tests (lists_at ts before) g.runs).0 ∙ ap (λ l. (ts ++ made) ++ ticks_left (rest g.tests) l) left_is

  pub now_trace_end : trace_end (job g.tests) (lists_at ts before) ≡ trace_end_left (rest g.tests) (λ p. waiting after p)
  now_trace_end = (g.follows g.tests (lists_at ts before) g.runs).1 ∙ ap (trace_end_left (rest g.tests)) left_is

  pub going_step : (next : ℕ → Rest) (x : Tick) (more : List Tick) (after' : Ports) → ((n : ℕ) (ins : ℕ → List Token) → IsPrefixOf (x ∷ []) (ticks_left (rest n) ins) → (ticks_left (rest n) ins ≡ x ∷ ticks_left (next n) (left (x ∷ []) ins)) × (trace_end_left (rest n) ins ≡ trace_end_left (next n) (left (x ∷ []) ins))) → ticks_left (rest g.tests) (λ p. waiting after p) ≡ x ∷ more → Moved after (x ∷ []) after' → Going job ts before (made ++ x ∷ []) after' next
  going_step next x more after' step head m =
      let assoc : (ts ++ made) ++ x ∷ [] ≡ ts ++ (made ++ x ∷ []) = append_assoc ts made (x ∷ []) in
      record {
        follows = subst (λ u. Follows job u next) assoc (follows_step job (ts ++ made) rest next x step g.follows);
        moved = moved_append before after after' made (x ∷ []) g.moved m;
        tests = g.tests;
        runs = subst (λ u. IsPrefixOf u (ticks (job g.tests) (lists_at ts before))) assoc
            (subst (IsPrefixOf ((ts ++ made) ++ x ∷ [])) (sym (now_ticks ∙ ap (λ l. (ts ++ made) ++ l) head)) (prefix_append (ts ++ made) (x ∷ []) (x ∷ more) (refl, tt)));
      }

  stops : (m : TraceEnd) → ticks_left (rest g.tests) (λ p. waiting after p) ≡ [] → trace_end_left (rest g.tests) (λ p. waiting after p) ≡ m → StopsAt job (length ts + length made) (lists_at ts before) m
  stops m e f = record {
    tests = g.tests;
    all = ap length (now_ticks ∙ ap (λ l. (ts ++ made) ++ l) e ∙ append-nil (ts ++ made)) ∙ length-append ts made;
    at = now_trace_end ∙ f;
  }

  get_next : {A : Type 0} (xs ys : List A) (x : A) → slice_get (xs ++ x ∷ ys) (length xs) ≡ Some x
  get_next [] ys x = refl
  get_next (z ∷ xs) ys x = get_next xs ys x

  goes : (x : Tick) (more : List Tick) → ticks_left (rest g.tests) (λ p. waiting after p) ≡ x ∷ more → GoesOnBy job (length ts + length made) (lists_at ts before) x
  goes x more e = record {
    tests = g.tests;
    next = subst (λ n. slice_get (ticks (job g.tests) (lists_at ts before)) n ≡ Some x) (length-append ts made)
        (ap (λ l. slice_get l (length (ts ++ made))) (now_ticks ∙ ap (λ l. (ts ++ made) ++ l) e) ∙ get_next (ts ++ made) more x);
  }

  found_at : (how : StreamOperation) (l : List Token) (t : Token) (o : Offer) → slice_get l 0 ≡ Some t → judge_token how t ≡ o → first_offer how l ≡ o
  found_at how [] t o e j = cc
  found_at how (y ∷ us) t o e j = let q : y ≡ t = cc in ap (judge_token how) q ∙ j

  ready : (r : Rest) → rest g.tests ≡ r → IsReady r after → (t : Tick) × GoesOnBy job (length ts + length made) (lists_at ts before) t × HasRoomAt after t
  ready Over e h = absurd h
  ready (Still Finished) e h = (End, goes End [] (ap (λ z. ticks_left z (λ p. waiting after p)) e), tt)
  ready (Still OutOfTurns) e h = absurd h
  ready (Still (Act a r)) e h = (Did a, goes (Did a) _ (ap (λ z. ticks_left z (λ p. waiting after p)) e), h)
  ready (Still (Await p how k)) e (t, v, w, j) =
      (tick_of how p t, goes (tick_of how p t) _ (ap (λ z. ticks_left z (λ p. waiting after p)) e ∙ ap (λ o. on_offer o [] [] (λ t v. tick_of how p t ∷ ticks (k v) (lists_after how p (λ p. waiting after p)))) (found_at how (waiting after p) t (Answer t v) w j)), room how p t)
    where
      room : (how : StreamOperation) (p : ℕ) (t : Token) → HasRoomAt after (tick_of how p t)
      room Read p t = tt
      room Peek p t = tt
      room TestEot p t = tt
      room Open p t = tt

  pub paused : (Spent : Type 0) (pause : Pause) → (pause ≡ Fuel → Spent) → IsLook (rest g.tests) after pause → PausesBy job (length ts + length made) (lists_at ts before) after Spent pause
  paused Spent HasEnded s e = stops Ended (ap (λ z. ticks_left z (λ p. waiting after p)) e) (ap (λ z. trace_end_left z (λ p. waiting after p)) e)
  paused Spent (WantsRead p) s (how, k, e, w) =
      stops (Needs p)
      (ap (λ z. ticks_left z (λ p. waiting after p)) e ∙ ap (λ l. on_offer (first_offer how l) [] [] (λ t v. tick_of how p t ∷ ticks (k v) (lists_after how p (λ p. waiting after p)))) w)
      (ap (λ z. trace_end_left z (λ p. waiting after p)) e ∙ ap (λ l. on_offer (first_offer how l) (Needs p) (Bad p) (λ t v. trace_end (k v) (lists_after how p (λ p. waiting after p)))) w)
  paused Spent (BadToken p) s (how, k, t, e, w, j) =
      stops (Bad p)
      (ap (λ z. ticks_left z (λ p. waiting after p)) e ∙ ap (λ o. on_offer o [] [] (λ t v. tick_of how p t ∷ ticks (k v) (lists_after how p (λ p. waiting after p)))) (found_at how (waiting after p) t WrongToken w j))
      (ap (λ z. trace_end_left z (λ p. waiting after p)) e ∙ ap (λ o. on_offer o (Needs p) (Bad p) (λ t v. trace_end (k v) (lists_after how p (λ p. waiting after p)))) (found_at how (waiting after p) t WrongToken w j))
  paused Spent (WantsWrite p) s (t, r, e, w) = (t, goes (Did (Put p t)) _ (ap (λ z. ticks_left z (λ p. waiting after p)) e), w)
  paused Spent Fuel s h = (s refl, ready (rest g.tests) refl h)
