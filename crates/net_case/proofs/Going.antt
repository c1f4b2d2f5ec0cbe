-- What a look leaves of a case: the instance stays at home, or goes out with a batch.
use Rattle.std.proofs.Common.{◌≡◌, ℕ, zero, suc, ◌+◌, ◌<◌, ◌≤◌, ◌⊎◌, List, [], ◌∷◌, length, take, drop, Bool, true, false, Option, Some, None, inl, inr, refl, sym, ap, ◌∙◌, subst, ⊎_elim, arith}
use Rattle.std.specs.Prelude.{slice_get, slice_index, slice_set, is_none, if◌then◌else◌, MatchBool}
use Rattle.std.proofs.lemmas.Bool.{cases_eq}
use Rattle.std.proofs.lemmas.List.{length-set}
use Rattle.std.proofs.lemmas.Option.{slice_get_within}
use Rattle.tapa_syntax.specs.declared.program.Program.{Program}
use Rattle.kahn_model.specs.declared.tick.Tick.{Tick}
use Rattle.kahn_model.specs.Network.{Network}
use Rattle.kahn_model.specs.Counts.{written, IsAllowed, HasEnded}
use Rattle.kahn_model.specs.Outcome.{IsJoined, joined_ticks}
use Rattle.kahn_model.proofs.Ended.{ended_over}
use Rattle.kahn_model.proofs.Joined.{joined_has}
use Rattle.kahn_model.proofs.Reach.{reach_founded}
use Rattle.net_core.specs.declared.body.Pause.{Pause}
use Rattle.net_core.specs.declared.body.Pause.TheVariants.{Ended, Fuel}
use Rattle.net_core.specs.declared.input.Input.{Input}
use Rattle.net_core.specs.Job.{Job}
use Rattle.net_core.specs.Bindings.{stream_at, consumer_of}
use Rattle.net_core.specs.Bounded.{network_on, count_of, HaveAnswered}
use Rattle.net_core.specs.Waits.{HoldsPause, HasHeld}
use Rattle.net_core.proofs.Ends.{not_ended}
use Rattle.net_core.proofs.Moves.{get_set_same, get_set_other, set_some, set_none}
use Rattle.net_case.specs.Batch.{IsBatchAt}
use Rattle.net_case.specs.declared.batch.Process.{Process}
use Rattle.net_case.specs.declared.queue.Queue.{Queue}
use Rattle.net_case.specs.Home.{IsHome, IsQuiet, IsHeldBack, IsAtRest, IsCaseAt, outs}
use Rattle.net_case.specs.Look.{CanLook, HasLooked}
use Rattle.net_case.specs.Over.{MayStep}
use Rattle.net_core.proofs.Cases.{is_or}

-- an instance goes out and comes home again
pub outs_back : {B : Type 0} (homes : List (Option (Process B))) (i : ℕ) (x y : Process B) → slice_get homes i ≡ Some (Some x) → outs (slice_set (slice_set homes i None) i (Some y)) ≡ outs homes
outs_back [] i x y e = refl
outs_back (h ∷ hs) zero x y e = let q : h ≡ Some x = cc in ap (λ (o : Option _). is_none o ∷ outs hs) (sym q)
outs_back (h ∷ hs) (suc i) x y e = ap (λ l. is_none h ∷ l) (outs_back hs i x y e)

module _ {B : Type 0} {Stands : B → Job → List Tick → Type 0} {program : Program} {input : Input} {budget : ℕ} {homes : List (Option (Process B))} {queues : List Queue} {taken_list offered counts : List ℕ} {pauses : List (Option Pause)} {listed : List Bool} {joined : ℕ} {writers : List ℕ} {fed : List Bool} (c : IsCaseAt Stands program input budget homes queues taken_list offered counts pauses listed joined writers fed) (i : ℕ) (x : Process B) (is_home : slice_get homes i ≡ Some (Some x)) where
  abbrev N : Network
  N = network_on program input

  abbrev k : ℕ → ℕ
  k = count_of counts

  abbrev f : ℕ → ℕ
  f = stream_at program i

  inside : i < length program.instances.items
  inside = let w = slice_get_within homes i (Some x) is_home in let l = c.homes_len in omega arith

  pub can_look : CanLook Stands program input budget queues taken_list offered counts i x.body x.ports x.limits.items
  can_look = record {
    at = c.at;
    inside = inside;
    home = c.home i x is_home;
  }

  module _ (offered' : List ℕ) (y : Process B) (may : Bool) (pause : Pause) (h : HasLooked Stands program input budget queues taken_list offered offered' counts i y.body y.ports y.limits.items may pause) where
    -- another instance at home stands as before
    home_other : (j : ℕ) (z : Process B) → (j ≡ i → ⊥) → slice_get homes j ≡ Some (Some z) → IsHome Stands program input counts taken_list offered' j z.body z.ports z.limits.items
    home_other j z d e =
        let o = c.home j z e in
        record {
          standing = o.standing;
          ends = o.ends;
          limits_len = o.limits_len;
          carries = o.carries;
          waits_are = λ p r.
              let s = stream_at program j p in
              o.waits_are p r
              ∙ ap (λ n. drop (slice_index taken_list s) (take n (written N k s)))
              (sym (h.others s (λ q w g. d (sym (c.connected.reader j p r) ∙ ap (consumer_of program) (sym g) ∙ c.connected.reader i q w))));
          spaces = o.spaces;
        }

    -- what is kept of the look
    abbrev seen : Pause
    seen = if may then Fuel else pause

    seen_holds : (b : Bool) → MatchBool b (IsAllowed N k i) ((pause ≡ Fuel → ⊥) × HoldsPause N k i f pause) → HoldsPause N k i f (if b then Fuel else pause)
    seen_holds true a = a
    seen_holds false (d, q) = q

    seen_goes_on : (b : Bool) → MatchBool b (IsAllowed N k i) ((pause ≡ Fuel → ⊥) × HoldsPause N k i f pause) → ((if b then Fuel else pause) ≡ Ended → ⊥) → HasEnded N k i → ⊥
    seen_goes_on true a d e = ended_over N c.network.is_network k i e a
    seen_goes_on false (n, q) d e = not_ended N c.network.is_network k (reach_founded N k c.reachable) i (let s = c.network.size in let l = inside in omega arith) f pause n d q e

    held : HasHeld N k i f seen
    held = record { count = k; reachable = c.reachable; below = λ j. omega arith; held = seen_holds may h.told; for_good = λ l. seen_holds may h.told }

    listed_other : (j : ℕ) → (j ≡ i → ⊥) → slice_get (slice_set listed i false) j ≡ slice_get listed j
    listed_other j d = get_set_other listed i j false (λ e. d (sym e))

    -- ---- it stays at home

    module _ (blocked : may ≡ true → (IsJoined N i → budget ≤ joined_ticks N k) × (N.detached i ≡ true → budget ≤ k i)) where
      abbrev pub homes_stay : List (Option (Process B))
      homes_stay = slice_set (slice_set homes i None) i (Some y)

      abbrev pub pauses_stay : List (Option Pause)
      pauses_stay = slice_set pauses i (Some seen)

      home_else : (j : ℕ) → (j ≡ i → ⊥) → slice_get homes_stay j ≡ slice_get homes j
      home_else j d = get_set_other (slice_set homes i None) i j (Some y) (λ e. d (sym e)) ∙ get_set_other homes i j None (λ e. d (sym e))

      pause_here : slice_get pauses_stay i ≡ Some (Some seen)
      pause_here = get_set_same pauses i (Some seen) (let l = inside in let e = c.pauses_len in omega arith)

      pause_else : (j : ℕ) → (j ≡ i → ⊥) → slice_get pauses_stay j ≡ slice_get pauses j
      pause_else j d = get_set_other pauses i j (Some seen) (λ e. d (sym e))

      rest_by : (b : Bool) → may ≡ b → MatchBool b (IsAllowed N k i) ((pause ≡ Fuel → ⊥) × HoldsPause N k i f pause) → IsQuiet N k i f (if b then Fuel else pause) ⊎ IsHeldBack N budget k i (if b then Fuel else pause)
      rest_by true e a = inr (record { fuel = refl; allowed = a; joined = (blocked e).0; detached = (blocked e).1 })
      rest_by false e (d, q) = inl (record { stopped = d; holds = q })

      pub rests : IsAtRest N budget k i f pauses_stay
      rests = (seen, pause_here, rest_by may refl h.told)

      rest_else : (j : ℕ) → (j ≡ i → ⊥) → IsAtRest N budget k j (stream_at program j) pauses → IsAtRest N budget k j (stream_at program j) pauses_stay
      rest_else j d (z, e, r) = (z, pause_else j d ∙ e, r)

      -- whoever was at rest is so
      pub rest_kept : (j : ℕ) → IsAtRest N budget k j (stream_at program j) pauses → IsAtRest N budget k j (stream_at program j) pauses_stay
      rest_kept j r =
          is_or (λ n. IsAtRest N budget k n (stream_at program n) pauses_stay) i j
          rests
          (λ d. rest_else j d r)

      answered_stay : HaveAnswered program input counts pauses_stay
      answered_stay = record {
        counts_len = c.counts_len;
        pauses_len = length-set pauses i (Some seen) ∙ c.pauses_len;
        paused = λ j z e. set_some (λ n v. HasHeld N k n (stream_at program n) v) pauses i j seen z held (λ d. c.paused j z) e;
        unresumed = λ j e. c.unresumed j (set_none pauses i j seen e).1;
      }

      pub stays : IsCaseAt Stands program input budget homes_stay queues taken_list offered' counts pauses_stay (slice_set listed i false) joined writers fed
      stays = record {
        at = h.at;
        bound = c.bound;
        answered = answered_stay;
        homes_len = length-set (slice_set homes i None) i (Some y) ∙ length-set homes i None ∙ c.homes_len;
        listed_len = length-set listed i false ∙ c.listed_len;
        home = λ j z e.
            set_some (λ n (w : Process B). IsHome Stands program input counts taken_list offered' n w.body w.ports w.limits.items) (slice_set homes i None) i j y z h.home
            (λ d o. home_other j z d (sym (get_set_other homes i j None (λ q. d (sym q))) ∙ o)) e;
        unended = λ j l n e.
            ⊎_elim
            (λ (q : j ≡ i). seen_goes_on may h.told (λ g. n (ap (slice_get pauses_stay) q ∙ pause_here ∙ ap (λ z. Some (Some z)) g)) (subst (HasEnded N k) q e))
            (λ (d : j ≡ i → ⊥). c.unended j l (λ g. n (pause_else j d ∙ g)) e)
            (cases_eq j i);
        rest = λ j z e g.
            is_or (λ n. IsAtRest N budget k n (stream_at program n) pauses_stay) i j
            rests
            (λ d. rest_else j d (c.rest j z (sym (home_else j d) ∙ e) (sym (listed_other j d) ∙ g)));
        joined_is = c.joined_is;
      }

    -- ---- it goes out

    pub goes : IsCaseAt Stands program input budget (slice_set homes i None) queues taken_list offered' counts pauses (slice_set listed i false) joined writers fed
    goes = record {
      at = h.at;
      bound = c.bound;
      answered = c.answered;
      homes_len = length-set homes i None ∙ c.homes_len;
      listed_len = length-set listed i false ∙ c.listed_len;
      home = λ j z e. let d = not_here j z e in home_other j z d (sym (get_set_other homes i j None (λ g. d (sym g))) ∙ e);
      unended = c.unended;
      rest = λ j z e g. let d = not_here j z e in c.rest j z (sym (get_set_other homes i j None (λ q. d (sym q))) ∙ e) (sym (listed_other j d) ∙ g);
      joined_is = c.joined_is;
    }
      where
        not_here : (j : ℕ) (z : Process B) → slice_get (slice_set homes i None) j ≡ Some (Some z) → j ≡ i → ⊥
        not_here j z e q =
            let g = sym (get_set_same homes i None (slice_get_within homes i (Some x) is_home)) ∙ subst (λ n. slice_get (slice_set homes i None) n ≡ Some (Some z)) q e in
            cc

    pub allowed_by : may ≡ true → IsAllowed N k i
    allowed_by e = subst (λ b. MatchBool b (IsAllowed N k i) ((pause ≡ Fuel → ⊥) × HoldsPause N k i f pause)) e h.told

    -- what is left to it, and the batch with some of it
    module _ (is_allowed : IsAllowed N k i) (fuel : ℕ) (joined_left : IsJoined N i → joined_ticks N k + fuel ≤ budget) (detached_left : N.detached i ≡ true → k i + fuel ≤ budget) where
      in_size : i < N.size
      in_size = is_allowed.supplied.inside

      capped_by : (b : Bool) → N.detached i ≡ b → k i + fuel ≤ budget
      capped_by true e = detached_left e
      capped_by false e = let l = joined_left e in let u = joined_has N k i in_size e in omega arith

      pub goes_batch : IsBatchAt Stands program input budget counts i (slice_index counts i) fuel 0 None false y.body y.ports y.limits.items
      goes_batch = record {
        claimed = record { connected = c.connected; network = c.network; well_formed = c.well_formed; reachable = c.reachable; allowed = is_allowed; inside = inside; begins = refl; few = c.few; capped = capped_by (N.detached i) refl; limits_len = h.home.limits_len };
        within = omega arith;
        ends = h.home.ends;
        spaces = h.home.spaces;
        run = h.run;
        unrun = λ e. refl;
        says = λ z e. absurd (cc);
        rooms = λ e. absurd (cc);
      }

      pub may_step : 0 < fuel → MayStep N budget k i
      may_step l = record {
        allowed = is_allowed;
        joined = λ j. let a = joined_left j in omega arith;
        detached = λ d. let a = detached_left d in omega arith;
      }
