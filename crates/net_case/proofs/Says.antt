-- What an answer says of a batch's instance.
use Rattle.std.proofs.Common.{◌≡◌, ℕ, ◌+◌, ◌-◌, ◌<◌, ◌≤◌, List, [], ◌∷◌, ◌++◌, length, map, Some, refl, sym, ap, ◌∙◌, subst, ⊎_elim, arith, length-append}
use Rattle.std.specs.Prelude.{slice_get, slice_index, flat_map}
use Rattle.std.proofs.lemmas.Bool.{cases_eq, cases_lt}
use Rattle.std.proofs.lemmas.Bool.Decides.{nat_tests}
use Rattle.std.proofs.lemmas.List.{append-nil, length-map}
use Rattle.std.proofs.lemmas.Option.{slice_get_within}
use Rattle.tapa_base.specs.declared.token.Token.{Token}
use Rattle.kahn_model.specs.declared.tick.Action.TheVariants.{Local, Put, Load, Store}
use Rattle.kahn_model.specs.declared.tick.Tick.{Tick}
use Rattle.kahn_model.specs.declared.tick.Tick.TheVariants.{Did, Take, See, End}
use Rattle.kahn_model.specs.declared.tick.TraceEnd.{TraceEnd}
use Rattle.kahn_model.specs.declared.tick.TraceEnd.TheVariants.{Ended, Needs, Bad}
use Rattle.kahn_model.specs.Prefix.{IsPrefixOf}
use Rattle.kahn_model.specs.Behavior.{Behavior, ticks, trace_end}
use Rattle.kahn_model.specs.Network.{Network, IsNetwork, put_on}
use Rattle.kahn_model.specs.Counts.{ticks_made, written, taken, IsAllowed, IsReachable, HasEnded}
use Rattle.kahn_model.proofs.Order.{prefix_refl, prefix_trans, prefix_length, prefix_get}
use Rattle.kahn_model.proofs.Grow.{ticks_grow}
use Rattle.kahn_model.proofs.Late.{end_last}
use Rattle.kahn_model.proofs.Reach.{reach_founded, all_made}
use Rattle.kahn_model.proofs.Taken.{taken_begins}
use Rattle.net_core.specs.declared.ports.Ports.{Ports}
use Rattle.net_core.specs.declared.body.Pause.{Pause}
use Rattle.net_core.specs.declared.body.Pause.TheVariants.{Ended as SaysEnded, WantsRead, WantsWrite, BadToken, Fuel}
use Rattle.net_core.specs.Ports.{carried}
use Rattle.net_core.specs.Resume.{lists_at, StopsAt, GoesOnBy, PausesBy}
use Rattle.net_core.specs.Placement.{tick_at, trace_end_at, TickAt, IsPlaced}
use Rattle.net_core.specs.Waits.{StopsIn, IsFullFor, HoldsPause}
use Rattle.net_core.proofs.Chunk.{plus, plus_same, Chunk, is_step}
use Rattle.net_core.proofs.Placed.{placed_ticks, placed_trace_end, asks_ticks, asks_trace_end, ticks_at, at_asks, at_get, puts_same, put_found}
use Rattle.net_core.proofs.Ends.{end_trace_ends}
use Rattle.net_case.specs.Batch.{HasRun, EndsAfter}
use Rattle.net_case.proofs.Runs.{commits, made_now, run_there}
use Rattle.tapa_base.proofs.Got.{got_map as map_get}

-- of two lists that begin a third the shorter one begins the other
prefix_short : {A : Type 0} (xs ys zs : List A) → IsPrefixOf xs zs → IsPrefixOf ys zs → length xs ≤ length ys → IsPrefixOf xs ys
prefix_short [] ys zs p q l = tt
prefix_short (x ∷ xs) [] zs p q l = absurd (omega arith)
prefix_short (x ∷ xs) (y ∷ ys) [] p q l = absurd p
prefix_short (x ∷ xs) (y ∷ ys) (z ∷ zs) (e, p) (g, q) l = (e ∙ sym g, prefix_short xs ys zs p q (omega arith))

needs_end : (s : ℕ) → Needs s ≡ Ended → ⊥
needs_end s e = cc

bad_end : (s : ℕ) → Bad s ≡ Ended → ⊥
bad_end s e = cc

module _ (net : Network) (ok : IsNetwork net) (k : ℕ → ℕ) (r : IsReachable net k) (i : ℕ) (job : ℕ → Behavior) (f : ℕ → ℕ) (R W : ℕ → Type 0) (plug : IsPlaced net i job f R W) (limits : List ℕ) (Stands : List Tick → Type 0) (made : ℕ) (ports : Ports) (h : HasRun Stands net k i job f R W limits made ports) where
  abbrev now : List Tick
  now = h.before ++ h.new

  abbrev ours : ℕ → List Token
  ours p = written net k (f p)

  abbrev later : ℕ → ℕ
  later = plus i made k

  -- the ticks of the instance with so many tests
  abbrev there : ℕ → List Tick
  there n = ticks (net.job i n) (written net k)

  abbrev whole : List Tick
  whole = ticks_made net k i ++ map (tick_at f) h.new

  chunk_here : Chunk net k i (map (tick_at f) h.new) later
  chunk_here = commits net ok k r i job f R W plug limits Stands made ports h k r (λ j. omega arith) refl

  now_is : length now ≡ k i + made
  now_is = made_now net ok k r i job f R W plug limits Stands made ports h

  whole_is : length whole ≡ k i + made
  whole_is =
      let a = length-append (ticks_made net k i) (map (tick_at f) h.new) in
      let b = all_made net ok k (reach_founded net k r) i in
      let c : length (map (tick_at f) h.new) ≡ length h.new = length-map h.new (tick_at f) in
      let d = h.as_many in
      omega arith

  later_is : later i ≡ k i + made
  later_is = plus_same i made k

  -- what it has made is the beginning of each run that is as long
  run_by : (n : ℕ) → k i + made ≤ length (there n) → IsPrefixOf whole (there n)
  run_by n l =
      let run = run_there net ok k r i job f R W plug limits Stands made ports h in
      ⊎_elim
      (λ (less : n < h.tests).
      prefix_short whole (there n) (there h.tests) run
      (ticks_grow (net.job i n) (net.job i h.tests) (written net k) (written net k) (ok.grows i n h.tests (omega arith)) (λ s. prefix_refl (written net k s))) (let e = whole_is in omega arith))
      (λ (more : h.tests ≤ n).
      prefix_trans whole (there h.tests) (there n) run
      (ticks_grow (net.job i h.tests) (net.job i n) (written net k) (written net k) (ok.grows i h.tests n more) (λ s. prefix_refl (written net k s))))
      (cases_lt n h.tests)

  placed : (n : ℕ) → there n ≡ map (tick_at f) (ticks (job n) ours)
  placed n = ap (λ t. ticks t (written net k)) (plug.placed n) ∙ placed_ticks R f plug.reads_one (job n) (written net k) ours (at_asks R W (job n) (plug.at n)) (λ p d. refl)

  placed_at : (n : ℕ) → trace_end (net.job i n) (written net k) ≡ trace_end_at f (trace_end (job n) ours)
  placed_at n = ap (λ t. trace_end t (written net k)) (plug.placed n) ∙ placed_trace_end R f plug.reads_one (job n) (written net k) ours (at_asks R W (job n) (plug.at n)) (λ p d. refl)

  runs_same : (n : ℕ) → ticks (job n) (lists_at now ports) ≡ ticks (job n) ours
  runs_same n = asks_ticks R (job n) (lists_at now ports) ours (at_asks R W (job n) (plug.at n)) h.lists

  ends_same : (n : ℕ) → trace_end (job n) (lists_at now ports) ≡ trace_end (job n) ours
  ends_same n = asks_trace_end R (job n) (lists_at now ports) ours (at_asks R W (job n) (plug.at n)) h.lists

  module _ (ins : ℕ → List Token) (are : (p : ℕ) → R p → ins p ≡ ours p) where
    runs_are : (n : ℕ) → ticks (job n) ins ≡ ticks (job n) ours
    runs_are n = asks_ticks R (job n) ins ours (at_asks R W (job n) (plug.at n)) are

    ends_are : (n : ℕ) → trace_end (job n) ins ≡ trace_end (job n) ours
    ends_are n = asks_trace_end R (job n) ins ours (at_asks R W (job n) (plug.at n)) are

    stops_all : (m : TraceEnd) → (s : StopsAt job (length now) ins m) → length (there s.tests) ≡ k i + made
    stops_all m s =
        let l : length (map (tick_at f) (ticks (job s.tests) ours)) ≡ length (ticks (job s.tests) ours) = length-map (ticks (job s.tests) ours) (tick_at f) in
        ap length (placed s.tests) ∙ l ∙ ap length (sym (runs_are s.tests)) ∙ s.all ∙ now_is

    stops_with : (m : TraceEnd) → (s : StopsAt job (length now) ins m) → trace_end (net.job i s.tests) (written net k) ≡ trace_end_at f m
    stops_with m s = placed_at s.tests ∙ ap (trace_end_at f) (sym (ends_are s.tests) ∙ s.at)

    pub next_there : (t : Tick) → (g : GoesOnBy job (length now) ins t) → slice_get (there g.tests) (k i + made) ≡ Some (tick_at f t)
    next_there t g =
        let a = subst (λ l. slice_get l (length now) ≡ Some t) (runs_are g.tests) g.next in
        let b = map_get (tick_at f) (ticks (job g.tests) ours) (length now) t a in
        subst (λ x. slice_get (there g.tests) x ≡ Some (tick_at f t)) now_is (subst (λ l. slice_get l (length now) ≡ Some (tick_at f t)) (sym (placed g.tests)) b)

    pub at_next : (t : Tick) → GoesOnBy job (length now) ins t → TickAt R W t
    at_next t g = at_get R W _ _ t (ticks_at R W (job g.tests) ins (plug.at g.tests)) g.next

    -- an instance that stops elsewhere, or goes on, has not ended
    end_there : (n : ℕ) → k i + made ≤ length (there n) → (j : ℕ) → slice_get (ticks_made net later i) j ≡ Some End → slice_get (there n) j ≡ Some End
    end_there n l j e = prefix_get whole (there n) j End (run_by n l) (subst (λ ts. slice_get ts j ≡ Some End) chunk_here.own e)

    not_ended_stop : (m : TraceEnd) → (trace_end_at f m ≡ Ended → ⊥) → StopsAt job (length now) ins m → HasEnded net later i → ⊥
    not_ended_stop m d s (j, e) =
        let l = stops_all m s in
        d (sym (stops_with m s) ∙ end_trace_ends (net.job i s.tests) (written net k) j (end_there s.tests (omega arith) j e))

    not_ended_next : (t : Tick) → GoesOnBy job (length now) ins t → HasEnded net later i → ⊥
    not_ended_next t g (j, e) =
        let w = slice_get_within (there g.tests) (k i + made) (tick_at f t) (next_there t g) in
        let last = end_last (net.job i g.tests) (written net k) j (end_there g.tests (omega arith) j e) in
        let made_all = slice_get_within whole j End (subst (λ ts. slice_get ts j ≡ Some End) chunk_here.own e) in
        let all = whole_is in
        omega arith

    -- why it made no more
    pub ends_after : (m : TraceEnd) → StopsAt job (length now) ins m → EndsAfter net k i made (trace_end_at f m)
    ends_after m s = record { tests = s.tests; all = stops_all m s; at = stops_with m s }

    pub not_ended : (after : Ports) (Spent : Type 0) (x : Pause) → PausesBy job (length now) ins after Spent x → (x ≡ SaysEnded → ⊥) → HasEnded net later i → ⊥
    not_ended after Spent SaysEnded s d = absurd (d refl)
    not_ended after Spent (WantsRead p) s d = not_ended_stop (Needs p) (needs_end (f p)) s
    not_ended after Spent (BadToken p) s d = not_ended_stop (Bad p) (bad_end (f p)) s
    not_ended after Spent (WantsWrite p) (t, g, e) d = not_ended_next (Did (Put p t)) g
    not_ended after Spent Fuel (s, (t, g, e)) d = not_ended_next t g

    -- ---- where it has made no tick

    module _ (none : made ≡ 0) where
      here_is : k i + made ≡ k i
      here_is = omega arith

      nothing_new : h.new ≡ []
      nothing_new = empty h.new (let e = h.as_many in omega arith)
        where
          empty : (xs : List Tick) → length xs ≡ 0 → xs ≡ []
          empty [] e = refl
          empty (x ∷ xs) e = absurd (omega arith)

      carried_here : (p : ℕ) → W p → carried ports p ≡ written net k (f p)
      carried_here p w = h.carries p w ∙ ap (λ ts. written net k (f p) ++ flat_map (put_on p) ts) nothing_new ∙ append-nil (written net k (f p))

      stops_in : (m : TraceEnd) → StopsAt job (length now) ins m → StopsIn net k i (trace_end_at f m)
      stops_in m s = record { tests = s.tests; all = stops_all m s ∙ here_is; at = stops_with m s }

      next_here : (t : Tick) → (g : GoesOnBy job (length now) ins t) → slice_get (there g.tests) (k i) ≡ Some (tick_at f t)
      next_here t g = subst (λ x. slice_get (there g.tests) x ≡ Some (tick_at f t)) here_is (next_there t g)

      -- its next tick is a put on a stream that is full
      pub is_full : (p : ℕ) (t : Token) → GoesOnBy job (length now) ins (Did (Put p t)) → slice_index limits p ≤ length (carried ports p) → IsFullFor net k i (f p)
      is_full p t g l =
          let w = at_next (Did (Put p t)) g in
          let c = ap length (carried_here p w) in
          let m = h.limits_are p w in
          record { tests = g.tests; token = t; is_next = next_here (Did (Put p t)) g; full = omega arith }

      -- or on one that has room
      pub may_put : (p : ℕ) (t : Token) → GoesOnBy job (length now) ins (Did (Put p t)) → length (carried ports p) < slice_index limits p → IsAllowed net k i
      may_put p t g l =
          (is_step net ok k g.tests i (Did (Put (f p) t)) [] plug.inside r (next_here (Did (Put p t)) g)
          (λ s e some.
          let w = at_next (Did (Put p t)) g in
          let found = put_found R W f (Did (Put p t) ∷ []) s (w, tt) some in
          let q = found.0 in
          let at : 0 < length (flat_map (put_on (f q)) (map (tick_at f) (Did (Put p t) ∷ []))) = subst (λ x. 0 < length (flat_map (put_on x) (map (tick_at f) (Did (Put p t) ∷ [])))) (sym found.2) some in
          let same = ap length (puts_same R W f plug.writes_one (Did (Put p t) ∷ []) q found.1 (w, tt)) in
          let one = puts_one p q t (omega arith) in
          let c = ap length (carried_here p w) in
          let m = h.limits_are p w in
          let tk = prefix_length _ _ (taken_begins net ok k (reach_founded net k r) (f p)) in
          let here : length (written net k (f p)) - length (taken net k (f p)) + 1 ≤ net.depth (f p) = omega arith in
          let there : length (written net k (f q)) - length (taken net k (f q)) + 1 ≤ net.depth (f q) = subst (λ x. length (written net k (f x)) - length (taken net k (f x)) + 1 ≤ net.depth (f x)) one.0 here in
          subst (λ x. length (written net k x) - length (taken net k x) + length (flat_map (put_on x) (map (tick_at f) (Did (Put p t) ∷ []))) ≤ net.depth x) found.2 (let o = one.1 in omega arith))).0
        where
          puts_one : (p q : ℕ) (t : Token) → 0 < length (flat_map (put_on q) (Did (Put p t) ∷ [])) → (p ≡ q) × (length (flat_map (put_on q) (Did (Put p t) ∷ [])) ≤ 1)
          puts_one p q t some = ⊎_elim (λ (e : p ≡ q). (e, grind (arith, nat_tests))) (λ (d : p ≡ q → ⊥). absurd (grind (arith, nat_tests))) (cases_eq p q)

      -- a next tick that puts nothing is allowed
      pub may_act : (t : Tick) → GoesOnBy job (length now) ins t → ((p : ℕ) (u : Token) → t ≡ Did (Put p u) → ⊥) → IsAllowed net k i
      may_act t g none_put =
          (is_step net ok k g.tests i (tick_at f t) [] plug.inside r (next_here t g) (λ s e some. absurd (no_put t none_put s some))).0
        where
          no_put : (t : Tick) → ((p : ℕ) (u : Token) → t ≡ Did (Put p u) → ⊥) → (s : ℕ) → 0 < length (flat_map (put_on s) (tick_at f t ∷ [])) → ⊥
          no_put (Did (Put q u)) d s l = d q u refl
          no_put (Did Local) d s l = omega arith
          no_put (Did (Load a b)) d s l = omega arith
          no_put (Did (Store a b c)) d s l = omega arith
          no_put (Take q u) d s l = omega arith
          no_put (See q u) d s l = omega arith
          no_put End d s l = omega arith

      -- what an answer says of the count where rooms are told by the limits
      pub holds_here : (after : Ports) (Spent : Type 0) (x : Pause) → (x ≡ Fuel → ⊥) → ((p : ℕ) → x ≡ WantsWrite p → slice_index limits p ≤ length (carried ports p)) → PausesBy job (length now) ins after Spent x → HoldsPause net k i f x
      holds_here after Spent SaysEnded u full s = stops_in Ended s
      holds_here after Spent (WantsRead p) u full s = stops_in (Needs p) s
      holds_here after Spent (BadToken p) u full s = stops_in (Bad p) s
      holds_here after Spent (WantsWrite p) u full (t, g, e) = is_full p t g (full p refl)
      holds_here after Spent Fuel u full s = absurd (u refl)
