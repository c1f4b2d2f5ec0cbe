-- What a call of resume does to a network's count.
use Rattle.std.proofs.Common.{◌≡◌, ℕ, ◌+◌, ◌-◌, ◌<◌, ◌≤◌, List, [], ◌∷◌, ◌++◌, length, map, take, drop, Some, refl, sym, ap, ◌∙◌, subst, ⊎_elim, arith, length-append, length-take, length-drop}
use Rattle.std.specs.Prelude.{slice_get, flat_map}
use Rattle.std.proofs.lemmas.Bool.{cases_lt, cases_eq}
use Rattle.std.proofs.lemmas.Bool.Decides.{nat_tests}
use Rattle.std.proofs.lemmas.List.{append-nil, length-take-le, take_all, map-append, length-map}
use Rattle.std.proofs.lemmas.Grind.{flat_map-append}
use Rattle.tapa_base.specs.declared.token.Token.{Token}
use Rattle.kahn_model.specs.declared.tick.Action.TheVariants.{Local, Put, Load, Store}
use Rattle.kahn_model.specs.declared.tick.Tick.{Tick}
use Rattle.kahn_model.specs.declared.tick.Tick.TheVariants.{Did, Take, See, End}
use Rattle.kahn_model.specs.declared.tick.TraceEnd.{TraceEnd}
use Rattle.kahn_model.specs.declared.tick.TraceEnd.TheVariants.{Ended, Needs, Bad}
use Rattle.kahn_model.specs.Prefix.{IsPrefixOf}
use Rattle.kahn_model.specs.Behavior.{Behavior, Finished, OutOfTurns, Act, Await, ticks, trace_end, Extends}
use Rattle.kahn_model.specs.Network.{Network, IsNetwork, put_on, take_from}
use Rattle.kahn_model.specs.Counts.{round_of, ticks_made, written, taken, IsAllowed, IsReachable, IsFounded}
use Rattle.kahn_model.proofs.Order.{prefix_refl, prefix_trans, prefix_flat_map, prefix_take, prefix_length, prefix_get, prefix_whole}
use Rattle.kahn_model.proofs.Grow.{ticks_grow}
use Rattle.kahn_model.proofs.Count.{IsBelow, own_ticks, made_le, taken_le}
use Rattle.kahn_model.proofs.Reach.{reach_founded, full}
use Rattle.kahn_model.proofs.Local.{here_all}
use Rattle.kahn_model.proofs.Taken.{takes_begin, made_here, taken_begins}
use Rattle.net_core.specs.declared.ports.Ports.{Ports}
use Rattle.net_core.specs.declared.body.Pause.{Pause}
use Rattle.net_core.specs.declared.body.Pause.TheVariants.{Ended as HasEnded, WantsRead, WantsWrite, BadToken, Fuel}
use Rattle.net_core.specs.Ports.{waiting, room_at}
use Rattle.net_core.specs.Resume.{lists_at, Agrees, HasRoomAt, StopsAt, GoesOnBy, PausesBy, Resumed}
use Rattle.net_core.specs.Waits.{StopsIn, IsFullFor, HoldsPause}
use Rattle.net_core.specs.Placement.{tick_at, trace_end_at, TickAt, AreAt, IsPlaced, IsStanding, PortsAre}
use Rattle.net_core.proofs.Placed.{placed_ticks, placed_trace_end, asks_ticks, asks_trace_end, ticks_at, at_asks, are_prefix, takes_same, puts_same, put_found, take_found, map_prefix, at_get}
use Rattle.net_core.proofs.Chunk.{plus, plus_same, plus_other, HasRoomFor, Chunk, chunk, written_after, is_step}
use Rattle.net_core.proofs.Stuck.{stays_stopped}
use Rattle.net_core.proofs.Follow.{prefix_unappend}
use Rattle.tapa_base.proofs.Got.{got_map as map_get}

pub prefix_rest : {A : Type 0} (xs ys : List A) → IsPrefixOf xs ys → xs ++ drop (length xs) ys ≡ ys
prefix_rest [] ys p = refl
prefix_rest (x ∷ xs) [] p = absurd p
prefix_rest (x ∷ xs) (y ∷ ys) (e, p) = ap (λ l. x ∷ l) (prefix_rest xs ys p) ∙ ap (λ z. z ∷ ys) e

pub plus_above : (i m : ℕ) (k : ℕ → ℕ) → IsBelow k (plus i m k)
plus_above i m k j = grind (arith, nat_tests)

pub extends_same : (a : Behavior) → Extends a a
extends_same Finished = refl
extends_same OutOfTurns = tt
extends_same (Act a rest) = (rest, refl, extends_same rest)
extends_same (Await s how rest) = (rest, refl, λ v. extends_same (rest v))

pub none_of : {A : Type 0} (xs : List A) → (0 < length xs → ⊥) → xs ≡ []
none_of [] d = refl
none_of (x ∷ xs) d = absurd (d (omega arith))

-- what one instance's ticks do to the others
module _ (net : Network) (ok : IsNetwork net) (k m : ℕ → ℕ) (i : ℕ) (ts : List Tick) (c : Chunk net k i ts m) (above : IsBelow k m) (same : (j : ℕ) → (j ≡ i → ⊥) → m j ≡ k j) where
  pub written_up : (s : ℕ) → IsPrefixOf (written net k s) (written net m s)
  written_up s = prefix_flat_map (put_on s) _ _ (made_le net ok k m above (net.producer s))

  pub standing_other : (Stands : List Tick → Type 0) (j : ℕ) (job : ℕ → Behavior) (f : ℕ → ℕ) → (j ≡ i → ⊥) → IsStanding Stands net k j job f → IsStanding Stands net m j job f
  standing_other Stands j job f d st = record {
    ticks = st.ticks;
    stands = st.stands;
    count = st.count ∙ sym (same j d);
    tests = st.tests;
    runs = prefix_trans _ _ _ st.runs (ticks_grow (job st.tests) (job st.tests) (λ p. written net k (f p)) (λ p. written net m (f p)) (extends_same (job st.tests)) (λ p. written_up (f p)));
  }

  pub next_up : (j n : ℕ) (t : Tick) (at : ℕ) → slice_get (ticks (net.job j n) (written net k)) at ≡ Some t → slice_get (ticks (net.job j n) (written net m)) at ≡ Some t
  next_up j n t at e = prefix_get _ _ at t (ticks_grow (net.job j n) (net.job j n) (written net k) (written net m) (extends_same (net.job j n)) written_up) e

  full_other : (j s : ℕ) → (j ≡ i → ⊥) → ((s : ℕ) → net.producer s ≡ j → taken net m s ≡ taken net k s) → IsFullFor net k j s → IsFullFor net m j s
  full_other j s d h full =
      let own = own_ticks net.producer net.consumer j (net.job j full.tests) (written net k) (ok.owns j full.tests) (k j) (Did (Put s full.token)) full.is_next in
      let w : written net m s ≡ written net k s = ap (flat_map (put_on s)) (c.other (net.producer s) (λ e. d (sym own ∙ e))) in
      let lw = ap length w in
      let lt = ap length (h s own) in
      let l = full.full in
      record {
        tests = full.tests;
        token = full.token;
        is_next = subst (λ x. slice_get (ticks (net.job j full.tests) (written net m)) x ≡ Some (Did (Put s full.token))) (sym (same j d)) (next_up j full.tests (Did (Put s full.token)) (k j) full.is_next);
        full = omega arith;
      }

  -- an instance whose streams have not changed waits as before
  pub holds_other : (j : ℕ) (f : ℕ → ℕ) (pause : Pause) → (j ≡ i → ⊥) → j < net.size → IsFounded net k → ((s : ℕ) → net.consumer s ≡ j → written net m s ≡ written net k s) → ((s : ℕ) → net.producer s ≡ j → taken net m s ≡ taken net k s) → (pause ≡ Fuel → ⊥) → HoldsPause net k j f pause → HoldsPause net m j f pause
  holds_other j f HasEnded d l r w t u h = stays_stopped net ok k r j l m Ended (same j d) w h
  holds_other j f (WantsRead p) d l r w t u h = stays_stopped net ok k r j l m (Needs (f p)) (same j d) w h
  holds_other j f (BadToken p) d l r w t u h = stays_stopped net ok k r j l m (Bad (f p)) (same j d) w h
  holds_other j f (WantsWrite p) d l r w t u h = full_other j (f p) d t h
  holds_other j f Fuel d l r w t u h = absurd (u refl)

module _ (net : Network) (ok : IsNetwork net) (k : ℕ → ℕ) (r : IsFounded net k) where
  take_same : (n : ℕ) (xs ys : List Tick) → IsPrefixOf xs ys → n ≤ length xs → take n xs ≡ take n ys
  take_same n xs ys p l =
      let a = length-take-le n xs l in
      let b = length-take n ys in
      prefix_whole _ _ (prefix_take n n xs ys (omega arith) p) (omega arith)

  -- the ticks made are the first of the run on what is written
  pub made_take : (n i : ℕ) → k i ≤ length (ticks (net.job i n) (written net k)) → ticks_made net k i ≡ take (k i) (ticks (net.job i n) (written net k))
  made_take n i l =
      let xs = written net k in
      made_here net ok k r i ∙
      ⊎_elim
      (λ (h : n < round_of net k). sym (take_same (k i) _ _ (ticks_grow (net.job i n) (net.job i (round_of net k)) xs xs (ok.grows i n (round_of net k) (omega arith)) (λ s. prefix_refl (xs s))) l))
      (λ (h : round_of net k ≤ n). take_same (k i) _ _ (ticks_grow (net.job i (round_of net k)) (net.job i n) xs xs (ok.grows i (round_of net k) n h) (λ s. prefix_refl (xs s))) (here_all net ok k r i))
      (cases_lt n (round_of net k))

module _ (net : Network) (ok : IsNetwork net) (k : ℕ → ℕ) (r : IsReachable net k) (i : ℕ) (job : ℕ → Behavior) (f : ℕ → ℕ) (R W : ℕ → Type 0) (plug : IsPlaced net i job f R W) (Stands : List Tick → Type 0) (st : IsStanding Stands net k i job f) where
  abbrev ours : ℕ → List Token
  ours p = written net k (f p)

  abbrev founded : IsFounded net k
  founded = reach_founded net k r

  -- the run of the job at the ports, and that of the instance
  placed : (n : ℕ) (xs : ℕ → List Token) (ys : ℕ → List Token) → ((p : ℕ) → R p → ys p ≡ xs (f p)) → ticks (net.job i n) xs ≡ map (tick_at f) (ticks (job n) ys)
  placed n xs ys h = ap (λ t. ticks t xs) (plug.placed n) ∙ placed_ticks R f plug.reads_one (job n) xs ys (at_asks R W (job n) (plug.at n)) h

  placed_at : (n : ℕ) (xs : ℕ → List Token) (ys : ℕ → List Token) → ((p : ℕ) → R p → ys p ≡ xs (f p)) → trace_end (net.job i n) xs ≡ trace_end_at f (trace_end (job n) ys)
  placed_at n xs ys h = ap (λ t. trace_end t xs) (plug.placed n) ∙ placed_trace_end R f plug.reads_one (job n) xs ys (at_asks R W (job n) (plug.at n)) h

  ticks_are_at : AreAt R W st.ticks
  ticks_are_at = are_prefix R W st.ticks _ st.runs (ticks_at R W (job st.tests) ours (plug.at st.tests))

  pub made_is_map : ticks_made net k i ≡ map (tick_at f) st.ticks
  made_is_map =
      let us = ticks (net.job i st.tests) (written net k) in
      let e = placed st.tests (written net k) ours (λ p d. refl) in
      let p : IsPrefixOf (map (tick_at f) st.ticks) us = subst (IsPrefixOf (map (tick_at f) st.ticks)) (sym e) (map_prefix (tick_at f) st.ticks _ st.runs) in
      let lp = prefix_length _ _ p in
      let lm : length (map (tick_at f) st.ticks) ≡ length st.ticks = length-map st.ticks (tick_at f) in
      let c = st.count in
      let lt = length-take-le (k i) us (omega arith) in
      let q : take (length st.ticks) (map (tick_at f) st.ticks) ≡ map (tick_at f) st.ticks = take_all (length st.ticks) (map (tick_at f) st.ticks) (omega arith) in
      let w = prefix_take (length st.ticks) (k i) _ us (omega arith) p in
      let w' : IsPrefixOf (map (tick_at f) st.ticks) (take (k i) us) = subst (λ l. IsPrefixOf l (take (k i) us)) q w in
      made_take net ok k founded st.tests i (omega arith) ∙ sym (prefix_whole _ _ w' (omega arith))

  pub took_is : (p : ℕ) → R p → flat_map (take_from p) st.ticks ≡ taken net k (f p)
  took_is p d =
      sym (takes_same R W f plug.reads_one st.ticks p d ticks_are_at)
      ∙ ap (flat_map (take_from (f p))) (sym made_is_map)
      ∙ ap (λ j. flat_map (take_from (f p)) (ticks_made net k j)) (sym (plug.reader p d))

  module _ (ports : Ports) (are : PortsAre net k ports f R W) where
    lists_are : (p : ℕ) → R p → lists_at st.ticks ports p ≡ written net k (f p)
    lists_are p d =
        ap (λ l. l ++ waiting ports p) (took_is p d)
        ∙ ap (λ l. taken net k (f p) ++ l) (are.waits p d)
        ∙ prefix_rest _ _ (taken_begins net ok k founded (f p))

    runs_same : (n : ℕ) → ticks (job n) (lists_at st.ticks ports) ≡ ticks (job n) (λ p. written net k (f p))
    runs_same n = asks_ticks R (job n) (lists_at st.ticks ports) (λ p. written net k (f p)) (at_asks R W (job n) (plug.at n)) lists_are

    trace_ends_same : (n : ℕ) → trace_end (job n) (lists_at st.ticks ports) ≡ trace_end (job n) (λ p. written net k (f p))
    trace_ends_same n = asks_trace_end R (job n) (lists_at st.ticks ports) (λ p. written net k (f p)) (at_asks R W (job n) (plug.at n)) lists_are

    pub agrees : Agrees job st.ticks ports
    agrees = (st.tests, subst (IsPrefixOf st.ticks) (sym (runs_same st.tests)) st.runs)

    module _ (Later : List Tick → Type 0) (fuel : ℕ) (pause : Pause) (after : Ports) (h : Resumed Later job st.ticks ports fuel pause after) where
      run : IsPrefixOf (st.ticks ++ h.made) (ticks (job h.tests) (λ p. written net k (f p)))
      run = subst (IsPrefixOf (st.ticks ++ h.made)) (runs_same h.tests) h.are_next

      whole_at : AreAt R W (st.ticks ++ h.made)
      whole_at = are_prefix R W (st.ticks ++ h.made) _ run (ticks_at R W (job h.tests) _ (plug.at h.tests))

      tail_at : (xs ys : List Tick) → AreAt R W (xs ++ ys) → AreAt R W ys
      tail_at [] ys a = a
      tail_at (x ∷ xs) ys (a, as') = tail_at xs ys as'

      made_at : AreAt R W h.made
      made_at = tail_at st.ticks h.made whole_at

      global : IsPrefixOf (ticks_made net k i ++ map (tick_at f) h.made) (ticks (net.job i h.tests) (written net k))
      global =
          let e = placed h.tests (written net k) (λ p. written net k (f p)) (λ p d. refl) in
          let m : ticks_made net k i ++ map (tick_at f) h.made ≡ map (tick_at f) (st.ticks ++ h.made) = ap (λ l. l ++ map (tick_at f) h.made) made_is_map ∙ sym (map-append (tick_at f) st.ticks h.made) in
          subst (λ l. IsPrefixOf l (ticks (net.job i h.tests) (written net k))) (sym m)
          (subst (IsPrefixOf (map (tick_at f) (st.ticks ++ h.made))) (sym e) (map_prefix (tick_at f) _ _ run))

      room : HasRoomFor net k i (map (tick_at f) h.made)
      room s e some =
          let found = put_found R W f h.made s made_at some in
          let p = found.0 in
          let same = ap length (puts_same R W f plug.writes_one h.made p found.1 made_at) in
          let a = h.moved.rooms p in
          let b = are.room p found.1 in
          let at : 0 < length (flat_map (put_on (f p)) (map (tick_at f) h.made)) = subst (λ x. 0 < length (flat_map (put_on x) (map (tick_at f) h.made))) (sym found.2) some in
          subst (λ x. length (written net k x) - length (taken net k x) + length (flat_map (put_on x) (map (tick_at f) h.made)) ≤ net.depth x) found.2 (omega arith)

      abbrev pub later : ℕ → ℕ
      later = plus i (length h.made) k

      pub stepped : Chunk net k i (map (tick_at f) h.made) later
      stepped =
          subst (λ n. Chunk net k i (map (tick_at f) h.made) (plus i n k)) (length-map h.made (tick_at f))
          (chunk net ok h.tests i plug.inside (map (tick_at f) h.made) k r global room)

      above : IsBelow k later
      above = plus_above i (length h.made) k

      same_else : (j : ℕ) → (j ≡ i → ⊥) → later j ≡ k j
      same_else j d = plus_other i (length h.made) j k d

      now_count : length st.ticks + length h.made ≡ later i
      now_count = let a = st.count in let b = plus_same i (length h.made) k in omega arith

      pub standing : IsStanding Later net later i job f
      standing = record {
        ticks = st.ticks ++ h.made;
        stands = h.stands;
        count = length-append st.ticks h.made ∙ now_count;
        tests = h.tests;
        runs = prefix_trans _ _ _ run (ticks_grow (job h.tests) (job h.tests) (λ p. written net k (f p)) (λ p. written net later (f p)) (extends_same (job h.tests)) (λ p. written_up net ok k later i (map (tick_at f) h.made) stepped above same_else (f p)));
      }

      pub carried_after : (p : ℕ) → W p → written net later (f p) ≡ written net k (f p) ++ flat_map (put_on p) h.made
      carried_after p d =
          written_after net k later i (f p) (map (tick_at f) h.made) (plug.writer p d) stepped.own
          ∙ ap (λ l. written net k (f p) ++ l) (puts_same R W f plug.writes_one h.made p d made_at)

      taken_is : (s : ℕ) → net.consumer s ≡ i → taken net later s ≡ taken net k s ++ flat_map (take_from s) (map (tick_at f) h.made)
      taken_is s e =
          ap (λ j. flat_map (take_from s) (ticks_made net later j)) e ∙ ap (flat_map (take_from s)) stepped.own ∙ flat_map-append (take_from s) (ticks_made net k i) (map (tick_at f) h.made)
          ∙ ap (λ j. flat_map (take_from s) (ticks_made net k j) ++ flat_map (take_from s) (map (tick_at f) h.made)) (sym e)

      pub taken_after : (p : ℕ) → R p → taken net later (f p) ≡ taken net k (f p) ++ flat_map (take_from p) h.made
      taken_after p d =
          taken_is (f p) (plug.reader p d)
          ∙ ap (λ l. taken net k (f p) ++ l) (takes_same R W f plug.reads_one h.made p d made_at)

      -- streams at which the instance has no port stay
      pub written_else : (s : ℕ) → ((p : ℕ) → W p → f p ≡ s → ⊥) → written net later s ≡ written net k s
      written_else s d =
          ⊎_elim
          (λ (e : net.producer s ≡ i).
          written_after net k later i s (map (tick_at f) h.made) e stepped.own
          ∙ ap (λ l. written net k s ++ l) (none_of (flat_map (put_on s) (map (tick_at f) h.made)) (λ l. let g = put_found R W f h.made s made_at l in d g.0 g.1 g.2))
          ∙ append-nil (written net k s))
          (λ (e : net.producer s ≡ i → ⊥). ap (flat_map (put_on s)) (stepped.other (net.producer s) e))
          (cases_eq (net.producer s) i)

      pub taken_else : (s : ℕ) → ((p : ℕ) → R p → f p ≡ s → ⊥) → taken net later s ≡ taken net k s
      taken_else s d =
          ⊎_elim
          (λ (e : net.consumer s ≡ i).
          taken_is s e
          ∙ ap (λ l. taken net k s ++ l) (none_of (flat_map (take_from s) (map (tick_at f) h.made)) (λ l. let g = take_found R W f h.made s made_at l in d g.0 g.1 g.2))
          ∙ append-nil (taken net k s))
          (λ (e : net.consumer s ≡ i → ⊥). ap (flat_map (take_from s)) (stepped.other (net.consumer s) e))
          (cases_eq (net.consumer s) i)

      -- the tokens that a port gave are those that it no longer has
      pub took_count : (p : ℕ) → length (flat_map (take_from p) h.made) + length (waiting after p) ≡ length (waiting ports p)
      took_count p =
          let a = prefix_trans _ _ _ (prefix_flat_map (take_from p) _ _ h.are_next) (takes_begin (job h.tests) (lists_at st.ticks ports) p) in
          let b = subst (λ l. IsPrefixOf l (lists_at st.ticks ports p)) (flat_map-append (take_from p) st.ticks h.made) a in
          let l = prefix_length _ _ (prefix_unappend (flat_map (take_from p) st.ticks) _ _ b) in
          let w = ap length (h.moved.waits p) in
          let d = length-drop (length (flat_map (take_from p) h.made)) (waiting ports p) in
          omega arith

      next_is : (t : Tick) → (g : GoesOnBy job (length st.ticks + length h.made) (lists_at st.ticks ports) t) → slice_get (ticks (net.job i g.tests) (written net later)) (later i) ≡ Some (tick_at f t)
      next_is t g =
          let n = g.tests in
          let a = subst (λ l. slice_get l (length st.ticks + length h.made) ≡ Some t) (runs_same n) g.next in
          let b = map_get (tick_at f) (ticks (job n) (λ p. written net k (f p))) (length st.ticks + length h.made) t a in
          let e = placed n (written net k) (λ p. written net k (f p)) (λ p d. refl) in
          let c = subst (λ l. slice_get l (length st.ticks + length h.made) ≡ Some (tick_at f t)) (sym e) b in
          subst (λ x. slice_get (ticks (net.job i n) (written net later)) x ≡ Some (tick_at f t)) now_count
          (next_up net ok k later i (map (tick_at f) h.made) stepped above same_else i n (tick_at f t) (length st.ticks + length h.made) c)

      at_next : (t : Tick) → GoesOnBy job (length st.ticks + length h.made) (lists_at st.ticks ports) t → TickAt R W t
      at_next t g = at_get R W _ _ t (ticks_at R W (job g.tests) (lists_at st.ticks ports) (plug.at g.tests)) g.next

      stops_is : (m : TraceEnd) → ((p : ℕ) → R p → written net later (f p) ≡ written net k (f p)) → StopsAt job (length st.ticks + length h.made) (lists_at st.ticks ports) m → StopsIn net later i (trace_end_at f m)
      stops_is m w s =
          let n = s.tests in
          let e = placed n (written net later) (λ p. written net k (f p)) (λ p d. sym (w p d)) in
          let e' = placed_at n (written net later) (λ p. written net k (f p)) (λ p d. sym (w p d)) in
          let l = length-map (ticks (job n) (λ p. written net k (f p))) (tick_at f) in
          record {
            tests = n;
            all = ap length e ∙ l ∙ ap length (sym (runs_same n)) ∙ s.all ∙ now_count;
            at = e' ∙ ap (trace_end_at f) (sym (trace_ends_same n) ∙ s.at);
          }

      full_is : (p : ℕ) → ((p : ℕ) → W p → taken net later (f p) ≡ taken net k (f p)) → (t : Token) → GoesOnBy job (length st.ticks + length h.made) (lists_at st.ticks ports) (Did (Put p t)) → room_at after p ≡ 0 → IsFullFor net later i (f p)
      full_is p w t g e =
          let d = at_next (Did (Put p t)) g in
          let a = h.moved.rooms p in
          let b = are.room p d in
          let c = ap length (carried_after p d) in
          let l = length-append (written net k (f p)) (flat_map (put_on p) h.made) in
          let q = ap length (w p d) in
          let b' = prefix_length _ _ (taken_begins net ok k founded (f p)) in
          record { tests = g.tests; token = t; is_next = next_is (Did (Put p t)) g; full = omega arith }

      -- what the answer says of the count that was reached, where no other end of the instance's streams is its own
      pub holds : (pause ≡ Fuel → ⊥) → ((p : ℕ) → R p → written net later (f p) ≡ written net k (f p)) → ((p : ℕ) → W p → taken net later (f p) ≡ taken net k (f p)) → HoldsPause net later i f pause
      holds u w v = go pause u h.pauses
        where
          go : (x : Pause) → (x ≡ Fuel → ⊥) → PausesBy job (length st.ticks + length h.made) (lists_at st.ticks ports) after (length h.made ≡ fuel) x → HoldsPause net later i f x
          go HasEnded u s = stops_is Ended w s
          go (WantsRead p) u s = stops_is (Needs p) w s
          go (BadToken p) u s = stops_is (Bad p) w s
          go (WantsWrite p) u (t, g, e) = full_is p v t g e
          go Fuel u s = absurd (u refl)

      put_room : (t : Tick) (p : ℕ) → HasRoomAt after t → 0 < length (put_on p t) → 0 < room_at after p
      put_room (Did (Put q t)) p a l = ⊎_elim (λ (e : q ≡ p). subst (λ x. 0 < room_at after x) e a) (λ (e : q ≡ p → ⊥). absurd (grind (arith, nat_tests))) (cases_eq q p)
      put_room (Did Local) p a l = absurd (omega arith)
      put_room (Did (Load x y)) p a l = absurd (omega arith)
      put_room (Did (Store x y z)) p a l = absurd (omega arith)
      put_room (Take q t) p a l = absurd (omega arith)
      put_room (See q t) p a l = absurd (omega arith)
      put_room End p a l = absurd (omega arith)

      next_room : (t : Tick) → TickAt R W t → HasRoomAt after t → HasRoomFor net later i (map (tick_at f) (t ∷ []))
      next_room t d a s e some =
          let found = put_found R W f (t ∷ []) s (d, tt) some in
          let p = found.0 in
          let same = ap length (puts_same R W f plug.writes_one (t ∷ []) p found.1 (d, tt)) in
          let at : 0 < length (flat_map (put_on (f p)) (map (tick_at f) (t ∷ []))) = subst (λ x. 0 < length (flat_map (put_on x) (map (tick_at f) (t ∷ [])))) (sym found.2) some in
          let one = append-nil (put_on p t) in
          let lone = ap length one in
          let x = put_room t p a (omega arith) in
          let y = h.moved.rooms p in
          let b = are.room p found.1 in
          let c = ap length (carried_after p found.1) in
          let l = length-append (written net k (f p)) (flat_map (put_on p) h.made) in
          let tk = taken_le net ok k later above (f p) in
          let small = put_small p t in
          subst (λ x. length (written net later x) - length (taken net later x) + length (flat_map (put_on x) (map (tick_at f) (t ∷ []))) ≤ net.depth x) found.2 (omega arith)
        where
          put_small : (p : ℕ) (t : Tick) → length (put_on p t) ≤ 1
          put_small p (Did (Put q u)) = ⊎_elim (λ (e : q ≡ p). grind (arith, nat_tests)) (λ (e : q ≡ p → ⊥). grind (arith, nat_tests)) (cases_eq q p)
          put_small p (Did Local) = omega arith
          put_small p (Did (Load x y)) = omega arith
          put_small p (Did (Store x y z)) = omega arith
          put_small p (Take q u) = omega arith
          put_small p (See q u) = omega arith
          put_small p End = omega arith

      -- with Fuel the fuel is spent and a step is allowed
      pub goes_on : pause ≡ Fuel → (length h.made ≡ fuel) × IsAllowed net later i
      goes_on e = go (subst (PausesBy job (length st.ticks + length h.made) (lists_at st.ticks ports) after (length h.made ≡ fuel)) e h.pauses)
        where
          go : PausesBy job (length st.ticks + length h.made) (lists_at st.ticks ports) after (length h.made ≡ fuel) Fuel → (length h.made ≡ fuel) × IsAllowed net later i
          go (spent, (t, g, a)) =
              (spent, (is_step net ok later g.tests i (tick_at f t) [] plug.inside stepped.reachable (next_is t g) (next_room t (at_next t g) a)).0)
