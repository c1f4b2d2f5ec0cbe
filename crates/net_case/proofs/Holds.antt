-- What an answer of a batch says of the count that the batch has reached.
use Rattle.std.proofs.Common.{◌≡◌, ◌⊎◌, ℕ, ◌+◌, ◌-◌, ◌<◌, ◌≤◌, List, [], ◌∷◌, ◌++◌, length, map, Some, refl, sym, ap, ◌∙◌, subst, ⊎_elim, arith}
use Rattle.std.specs.Prelude.{slice_get, slice_index, flat_map}
use Rattle.std.proofs.lemmas.Bool.{cases_eq}
use Rattle.std.proofs.lemmas.Bool.Decides.{nat_tests}
use Rattle.std.proofs.lemmas.List.{append-nil}
use Rattle.tapa_base.specs.declared.token.Token.{Token}
use Rattle.kahn_model.specs.declared.tick.Action.TheVariants.{Local, Put, Load, Store}
use Rattle.kahn_model.specs.declared.tick.Tick.{Tick}
use Rattle.kahn_model.specs.declared.tick.Tick.TheVariants.{Did, Take, See, End}
use Rattle.kahn_model.specs.declared.tick.TraceEnd.{TraceEnd}
use Rattle.kahn_model.specs.declared.tick.TraceEnd.TheVariants.{Ended, Needs, Bad}
use Rattle.kahn_model.specs.Behavior.{Behavior, ticks, trace_end}
use Rattle.kahn_model.specs.Network.{Network, IsNetwork, put_on}
use Rattle.kahn_model.specs.Counts.{written, taken, IsAllowed, IsReachable}
use Rattle.kahn_model.proofs.Order.{prefix_flat_map, prefix_get, prefix_length}
use Rattle.kahn_model.proofs.Grow.{Grows, ticks_grow}
use Rattle.kahn_model.proofs.Late.{IsLate, late}
use Rattle.kahn_model.proofs.Count.{IsBelow, made_le, taken_le}
use Rattle.kahn_model.proofs.Reach.{reach_founded}
use Rattle.kahn_model.proofs.Taken.{taken_begins}
use Rattle.net_core.specs.declared.ports.Ports.{Ports}
use Rattle.net_core.specs.declared.body.Pause.{Pause}
use Rattle.net_core.specs.declared.body.Pause.TheVariants.{Ended as SaysEnded, WantsRead, WantsWrite, BadToken, Fuel}
use Rattle.net_core.specs.Ports.{carried, room_at}
use Rattle.net_core.specs.Resume.{HasRoomAt, GoesOnBy, PausesBy}
use Rattle.net_core.specs.Placement.{tick_at, trace_end_at, TickAt, IsPlaced}
use Rattle.net_core.specs.Waits.{StopsIn, HoldsPause, IsLast}
use Rattle.net_core.proofs.Chunk.{plus, plus_same, plus_none, HasRoomFor, Chunk, is_step}
use Rattle.net_core.proofs.Lasting.{IsFinal, decide_fuel, end_stays}
use Rattle.net_core.proofs.Placed.{placed_ticks, placed_trace_end, at_asks, puts_same, put_found}
use Rattle.net_core.proofs.Stepped.{plus_above, extends_same}
use Rattle.net_case.specs.Batch.{HasRun, EndsAfter, FillsAfter, StopsAfter, HasSaid}
use Rattle.net_case.proofs.Runs.{commits}
use Rattle.net_case.proofs.Back.{carried_is, written_else, taken_else}
use Rattle.net_case.proofs.Says.{at_next, next_there, ends_after, not_ended, holds_here}
use Rattle.net_case.proofs.Few.{put_one as put_small}

put_room : (ports : Ports) (t : Tick) (p : ℕ) → HasRoomAt ports t → 0 < length (put_on p t) → 0 < room_at ports p
put_room ports (Did (Put q t)) p a l = ⊎_elim (λ (e : q ≡ p). subst (λ x. 0 < room_at ports x) e a) (λ (e : q ≡ p → ⊥). absurd (grind (arith, nat_tests))) (cases_eq q p)
put_room ports (Did Local) p a l = absurd (omega arith)
put_room ports (Did (Load x y)) p a l = absurd (omega arith)
put_room ports (Did (Store x y z)) p a l = absurd (omega arith)
put_room ports (Take q t) p a l = absurd (omega arith)
put_room ports (See q t) p a l = absurd (omega arith)
put_room ports End p a l = absurd (omega arith)

module _ (net : Network) (ok : IsNetwork net) (k : ℕ → ℕ) (r : IsReachable net k) (i : ℕ) (job : ℕ → Behavior) (f : ℕ → ℕ) (R W : ℕ → Type 0) (plug : IsPlaced net i job f R W) (limits : List ℕ) (Stands : List Tick → Type 0) (made : ℕ) (ports : Ports) (h : HasRun Stands net k i job f R W limits made ports) (whole : (p : ℕ) → W p → room_at ports p ≡ slice_index limits p - length (carried ports p)) (ins : ℕ → List Token) (are : (p : ℕ) → R p → ins p ≡ written net k (f p)) where
  abbrev now : List Tick
  now = h.before ++ h.new

  abbrev ours : ℕ → List Token
  ours p = written net k (f p)

  abbrev later : ℕ → ℕ
  later = plus i made k

  above : IsBelow k later
  above = plus_above i made k

  chunk_here : Chunk net k i (map (tick_at f) h.new) later
  chunk_here = commits net ok k r i job f R W plug limits Stands made ports h k r (λ j. omega arith) refl

  grown : Grows (written net k) (written net later)
  grown s = prefix_flat_map (put_on s) _ _ (made_le net ok k later above (net.producer s))

  later_is : later i ≡ k i + made
  later_is = plus_same i made k

  carries : (p : ℕ) → W p → carried ports p ≡ written net later (f p)
  carries p w = carried_is net ok k r i job f R W plug limits Stands made ports h k r (λ j. omega arith) refl p w

  next_tick : (t : Tick) → GoesOnBy job (length now) ins t → TickAt R W t
  next_tick t g = at_next net ok k r i job f R W plug limits Stands made ports h ins are t g

  next_here : (t : Tick) → (g : GoesOnBy job (length now) ins t) → slice_get (ticks (net.job i g.tests) (written net k)) (k i + made) ≡ Some (tick_at f t)
  next_here t g = next_there net ok k r i job f R W plug limits Stands made ports h ins are t g

  next_later : (t : Tick) → (g : GoesOnBy job (length now) ins t) → slice_get (ticks (net.job i g.tests) (written net later)) (later i) ≡ Some (tick_at f t)
  next_later t g =
      subst (λ x. slice_get (ticks (net.job i g.tests) (written net later)) x ≡ Some (tick_at f t)) (sym later_is)
      (prefix_get _ _ (k i + made) (tick_at f t) (ticks_grow (net.job i g.tests) (net.job i g.tests) (written net k) (written net later) (extends_same (net.job i g.tests)) grown) (next_here t g))

  -- a port without room has used up what its stream may get
  used_up : (p : ℕ) → W p → room_at ports p ≡ 0 → slice_index limits p ≤ length (carried ports p)
  used_up p w e = let a = whole p w in omega arith

  fills : (p : ℕ) (t : Token) → GoesOnBy job (length now) ins (Did (Put p t)) → room_at ports p ≡ 0 → FillsAfter net k i made (f p)
  fills p t g e =
      let w = next_tick (Did (Put p t)) g in
      let c = ap length (carries p w) in
      let l = h.limits_are p w in
      let u = used_up p w e in
      record { tests = g.tests; token = t; is_next = next_here (Did (Put p t)) g; full = omega arith }

  stops : (Spent : Type 0) (x : Pause) → PausesBy job (length now) ins ports Spent x → StopsAfter net k i made f x
  stops Spent SaysEnded s = ends_after net ok k r i job f R W plug limits Stands made ports h ins are Ended s
  stops Spent (WantsRead p) s = ends_after net ok k r i job f R W plug limits Stands made ports h ins are (Needs p) s
  stops Spent (BadToken p) s = ends_after net ok k r i job f R W plug limits Stands made ports h ins are (Bad p) s
  stops Spent (WantsWrite p) (t, g, e) = fills p t g e
  stops Spent Fuel s = tt

  -- ---- where it may go on

  next_room : (t : Tick) → TickAt R W t → HasRoomAt ports t → HasRoomFor net later i (map (tick_at f) (t ∷ []))
  next_room t d a s e some =
      let found = put_found R W f (t ∷ []) s (d, tt) some in
      let p = found.0 in
      let same = ap length (puts_same R W f plug.writes_one (t ∷ []) p found.1 (d, tt)) in
      let at : 0 < length (flat_map (put_on (f p)) (map (tick_at f) (t ∷ []))) = subst (λ x. 0 < length (flat_map (put_on x) (map (tick_at f) (t ∷ [])))) (sym found.2) some in
      let one = ap length (append-nil (put_on p t)) in
      let room = put_room ports t p a (omega arith) in
      let all_room = whole p found.1 in
      let c = ap length (carries p found.1) in
      let l = h.limits_are p found.1 in
      let tk = taken_le net ok k later above (f p) in
      let begins = prefix_length _ _ (taken_begins net ok later (reach_founded net later chunk_here.reachable) (f p)) in
      let small = put_small p t in
      subst (λ x. length (written net later x) - length (taken net later x) + length (flat_map (put_on x) (map (tick_at f) (t ∷ []))) ≤ net.depth x) found.2 (omega arith)

  may_go_on : (t : Tick) → GoesOnBy job (length now) ins t → HasRoomAt ports t → IsAllowed net later i
  may_go_on t g a = (is_step net ok later g.tests i (tick_at f t) [] plug.inside chunk_here.reachable (next_later t g) (next_room t (next_tick t g) a)).0

  -- ---- ends that no token changes

  final_stop : (m : TraceEnd) → IsFinal m → ((ts us : List Tick) (xs : ℕ → List Token) (n : ℕ) → IsLate m ts us xs n → us ≡ ts) → EndsAfter net k i made m → StopsIn net later i m
  final_stop m final by s =
      let n = s.tests in
      let same : ticks (net.job i n) (written net later) ≡ ticks (net.job i n) (written net k) =
      by _ _ (written net k) n
      (subst (λ e. IsLate e (ticks (net.job i n) (written net k)) (ticks (net.job i n) (written net later)) (written net k) n) s.at
      (late (net.job i n) (net.job i n) (written net k) (written net later) n (ok.grows i n n (omega arith)) grown (ok.lasts i n)))
      in
      record { tests = n; all = ap length same ∙ s.all ∙ sym later_is; at = end_stays (net.job i n) (written net k) (written net later) grown m final s.at }

  holds_for_good : (x : Pause) → IsLast x → StopsAfter net k i made f x → HoldsPause net later i f x
  holds_for_good SaysEnded l s = final_stop Ended tt (λ ts us xs n e. e) s
  holds_for_good (WantsRead p) l s = absurd l
  holds_for_good (WantsWrite p) l s = absurd l
  holds_for_good (BadToken p) l s = final_stop (Bad (f p)) tt (λ ts us xs n e. e) s
  holds_for_good Fuel l s = absurd l

  -- ---- where it does not read what it writes

  module _ (apart : (p q : ℕ) → W p → R q → f p ≡ f q → ⊥) where
    same_read : (p : ℕ) → R p → written net later (f p) ≡ written net k (f p)
    same_read p d = written_else net ok k r i job f R W plug limits Stands made ports h k r (λ j. omega arith) refl (f p) (λ q w e. apart q p w d e)

    same_taken : (p : ℕ) → W p → taken net later (f p) ≡ taken net k (f p)
    same_taken p w = taken_else net ok k r i job f R W plug limits Stands made ports h k r (λ j. omega arith) refl (f p) (λ q d e. apart p q w d (sym e))

    placed : (n : ℕ) (xs : ℕ → List Token) → ((p : ℕ) → R p → ours p ≡ xs (f p)) → ticks (net.job i n) xs ≡ map (tick_at f) (ticks (job n) ours)
    placed n xs e = ap (λ t. ticks t xs) (plug.placed n) ∙ placed_ticks R f plug.reads_one (job n) xs ours (at_asks R W (job n) (plug.at n)) e

    placed_at : (n : ℕ) (xs : ℕ → List Token) → ((p : ℕ) → R p → ours p ≡ xs (f p)) → trace_end (net.job i n) xs ≡ trace_end_at f (trace_end (job n) ours)
    placed_at n xs e = ap (λ t. trace_end t xs) (plug.placed n) ∙ placed_trace_end R f plug.reads_one (job n) xs ours (at_asks R W (job n) (plug.at n)) e

    stop_there : (m : TraceEnd) → EndsAfter net k i made m → StopsIn net later i m
    stop_there m s =
        let n = s.tests in
        record {
          tests = n;
          all = ap length (placed n (written net later) (λ p d. sym (same_read p d)) ∙ sym (placed n (written net k) (λ p d. refl))) ∙ s.all ∙ sym later_is;
          at = placed_at n (written net later) (λ p d. sym (same_read p d)) ∙ sym (placed_at n (written net k) (λ p d. refl)) ∙ s.at;
        }

    holds_apart : (Spent : Type 0) (x : Pause) → (x ≡ Fuel → ⊥) → PausesBy job (length now) ins ports Spent x → HoldsPause net later i f x
    holds_apart Spent SaysEnded u s = stop_there Ended (stops Spent SaysEnded s)
    holds_apart Spent (WantsRead p) u s = stop_there (Needs (f p)) (stops Spent (WantsRead p) s)
    holds_apart Spent (BadToken p) u s = stop_there (Bad (f p)) (stops Spent (BadToken p) s)
    holds_apart Spent (WantsWrite p) u (t, g, e) =
        let w = next_tick (Did (Put p t)) g in
        let full = fills p t g e in
        let tk = ap length (same_taken p w) in
        let l = full.full in
        record { tests = g.tests; token = t; is_next = next_later (Did (Put p t)) g; full = omega arith }
    holds_apart Spent Fuel u s = absurd (u refl)

  -- ---- where it has made no tick

  holds_still : (Spent : Type 0) (x : Pause) → (x ≡ Fuel → ⊥) → made ≡ 0 → PausesBy job (length now) ins ports Spent x → HoldsPause net later i f x
  holds_still Spent x u none s =
      subst (λ m. HoldsPause net (plus i m k) i f x) (sym none)
      (subst (λ (m : ℕ → ℕ). HoldsPause net m i f x) (plus_none i k)
      (holds_here net ok k r i job f R W plug limits Stands made ports h ins are none ports Spent x u full s))
    where
      full : (p : ℕ) → x ≡ WantsWrite p → slice_index limits p ≤ length (carried ports p)
      full p e =
          let q = subst (PausesBy job (length now) ins ports Spent) e s in
          used_up p (next_tick (Did (Put p q.0)) q.1) q.2

  goes_on : (Spent : Type 0) → PausesBy job (length now) ins ports Spent Fuel → IsAllowed net later i
  goes_on Spent (s, (t, g, a)) = may_go_on t g a

  module _ (Spent : Type 0) (x : Pause) (s : PausesBy job (length now) ins ports Spent x) (fed : Type 0) (apart : (fed → ⊥) → (p q : ℕ) → W p → R q → f p ≡ f q → ⊥) where
    holds : (fed → ⊥) ⊎ ((made ≡ 0) ⊎ (IsLast x ⊎ (x ≡ Fuel))) → HoldsPause net later i f x
    holds how =
        ⊎_elim
        (λ (e : x ≡ Fuel). subst (HoldsPause net later i f) (sym e) (goes_on Spent (subst (PausesBy job (length now) ins ports Spent) e s)))
        (λ (u : x ≡ Fuel → ⊥).
        ⊎_elim
        (λ (d : fed → ⊥). holds_apart (apart d) Spent x u s)
        (⊎_elim
        (λ (none : made ≡ 0). holds_still Spent x u none s)
        (⊎_elim (λ (l : IsLast x). holds_for_good x l (stops Spent x s)) (λ (e : x ≡ Fuel). absurd (u e))))
        how)
        (decide_fuel x)

    pub said : HasSaid net k i made f fed x
    said = record {
      stops = stops Spent x s;
      goes_on = not_ended net ok k r i job f R W plug limits Stands made ports h ins are ports Spent x s;
      holds = holds;
    }
