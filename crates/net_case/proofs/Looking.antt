-- A look at an instance that is at home.
use Rattle.std.proofs.Common.{◌≡◌, ℕ, ◌+◌, ◌-◌, ◌<◌, ◌≤◌, ◌⊎◌, List, [], ◌++◌, length, take, drop, Bool, true, false, Some, inl, inr, refl, sym, ap, ◌∙◌, subst, arith, take_all}
use Rattle.std.specs.Prelude.{slice_get, slice_index, flat_map, MatchBool}
use Rattle.std.proofs.lemmas.Option.{slice_get_within}
use Rattle.std.proofs.lemmas.List.{append-nil, drop-take}
use Rattle.tapa_base.specs.declared.token.Token.{Token}
use Rattle.tapa_syntax.specs.declared.program.Program.{Program}
use Rattle.kahn_model.specs.declared.tick.Action.TheVariants.{Put}
use Rattle.kahn_model.specs.declared.tick.Tick.{Tick}
use Rattle.kahn_model.specs.declared.tick.Tick.TheVariants.{Did}
use Rattle.kahn_model.specs.Prefix.{IsPrefixOf}
use Rattle.kahn_model.specs.Behavior.{Behavior, ticks}
use Rattle.kahn_model.specs.Network.{Network, put_on, take_from}
use Rattle.kahn_model.specs.Counts.{written, taken, IsAllowed}
use Rattle.net_core.specs.declared.body.Pause.{Pause}
use Rattle.net_core.specs.declared.body.Pause.TheVariants.{WantsWrite, Fuel}
use Rattle.net_core.specs.declared.input.Input.{Input}
use Rattle.net_core.specs.declared.ports.Ports.{Ports}
use Rattle.net_core.specs.Job.{Job}
use Rattle.net_core.specs.Ports.{waiting, carried, room_at, space_at, ends_of, port_count}
use Rattle.net_core.specs.Resume.{CanResume, Agrees, lists_at, HasRoomAt, GoesOnBy, PausesBy, Resumed}
use Rattle.net_core.specs.Bindings.{stream_at, arity, Reads, Writes}
use Rattle.net_core.specs.Bounded.{network_on, instance_job, count_of}
use Rattle.net_core.specs.Placement.{IsPlaced}
use Rattle.net_core.specs.Waits.{HoldsPause}
use Rattle.net_core.proofs.Loaded.{in_streams}
use Rattle.net_core.proofs.Stepped.{prefix_rest, took_is, none_of}
use Rattle.net_case.specs.Batch.{HasRun}
use Rattle.net_case.proofs.Runs.{agrees, made_now}
use Rattle.net_case.proofs.Says.{at_next, may_put, may_act, holds_here}
use Rattle.net_case.specs.declared.queue.Queue.{Queue}
use Rattle.net_case.specs.Deliver.{AreInOrder, IsDelivered}
use Rattle.net_case.specs.Home.{AreStreamsAt, IsStreamAt, IsHome}
use Rattle.net_case.specs.Look.{CanLook, HasLooked}
use Rattle.net_case.proofs.Streams.{stream_is, queue_is, begins, total_is, small_is, few_is, kinds_are}
use Rattle.net_case.proofs.Ported.{ports_many}

-- what waits at a port is a front part of the queue
front : {A : Type 0} (t o : ℕ) (xs : List A) → t ≤ o → drop t (take o xs) ≡ take (o - t) (drop t xs)
front t o xs l =
    let e : t + (o - t) ≡ o = omega arith in
    subst (λ n. drop t (take n xs) ≡ take (o - t) (drop t xs)) e (drop-take t (o - t) xs)

module _ {B : Type 0} (Stands : B → Job → List Tick → Type 0) (program : Program) (input : Input) (budget : ℕ) (queues : List Queue) (taken_list offered counts : List ℕ) (i : ℕ) (body : B) (ports : Ports) (limits : List ℕ) (c : CanLook Stands program input budget queues taken_list offered counts i body ports limits) where
  abbrev N : Network
  N = network_on program input

  abbrev k : ℕ → ℕ
  k = count_of counts

  abbrev f : ℕ → ℕ
  f = stream_at program i

  abbrev job : ℕ → Behavior
  job = (instance_job program input i).behavior

  abbrev plug : IsPlaced N i job f (Reads program i) (Writes program i)
  plug = c.at.network.placed i c.inside

  own : (p : ℕ) → p < arity program i → f p < length program.streams.items
  own p l = in_streams program c.at.connected i p c.inside l

  pub order : AreInOrder program i queues taken_list offered ports limits
  order = record {
    tokens = record {
      queues_len = c.at.queues_len;
      taken_len = c.at.taken_len;
      kinds = kinds_are program input budget queues taken_list offered counts c.at;
      few = few_is program input budget queues taken_list offered counts c.at;
      small = λ s l. let t = total_is program input budget queues taken_list offered counts c.at s l in let w = small_is program input budget queues taken_list offered counts c.at s l in omega arith;
    };
    gives = record {
      offered_len = c.at.offered_len;
      within = λ s l. (stream_is program input budget queues taken_list offered counts c.at s l).within;
      given = λ s l. let g = (stream_is program input budget queues taken_list offered counts c.at s l).given in let t = total_is program input budget queues taken_list offered counts c.at s l in omega arith;
    };
    limits_len = c.home.limits_len;
    ends = c.home.ends;
    waits_are = λ p d.
        let l = own p d.0 in
        c.home.waits_are p d
        ∙ front (slice_index taken_list (f p)) (slice_index offered (f p)) (written N k (f p)) (stream_is program input budget queues taken_list offered counts c.at (f p) l).within
        ∙ ap (take (slice_index offered (f p) - slice_index taken_list (f p))) (sym (queue_is program input budget queues taken_list offered counts c.at (f p) l));
    spaces = c.home.spaces;
  }

  -- with what is there for it
  module _ (offered' : List ℕ) (ready : Ports) (limits' : List ℕ) (o : AreInOrder program i queues taken_list offered' ready limits') (d : (p : ℕ) → p < arity program i → IsDelivered program i p queues taken_list offered' ready limits') (same : (p : ℕ) → carried ready p ≡ carried ports p) where
    pub at_after : AreStreamsAt program input budget queues taken_list offered' counts
    at_after = record {
      given = c.at.given;
      reachable = c.at.reachable;
      capped = c.at.capped;
      few = c.at.few;
      queues_len = c.at.queues_len;
      taken_len = c.at.taken_len;
      offered_len = o.offered_len;
      streams = λ s q e. stream_after s q e;
    }
      where
        stream_after : (s : ℕ) (q : Queue) → slice_get queues s ≡ Some q → IsStreamAt program N k s q (slice_index taken_list s) (slice_index offered' s)
        stream_after s q e =
            let old = c.at.streams s q e in
            let l : s < length program.streams.items = let w = slice_get_within queues s q e in let x = c.at.queues_len in omega arith in
            record {
              took_is = old.took_is;
              rest = old.rest;
              within = o.within s l;
              given = let g = o.given s l in let t = total_is program input budget queues taken_list offered counts c.at s l in omega arith;
              space_is = old.space_is;
            }

    abbrev ts : List Tick
    ts = c.home.standing.ticks

    -- its body, and its ports as they are or after a look
    module _ (Later : List Tick → Type 0) (stands : Later ts) (now : Ports) (waits_same : (p : ℕ) → waiting now p ≡ waiting ready p) (carried_same : (p : ℕ) → carried now p ≡ carried ready p) where
      lists_are : (p : ℕ) → Reads program i p → lists_at ts now p ≡ written N k (f p)
      lists_are p r =
          let l = own p r.0 in
          ap (λ x. flat_map (take_from p) ts ++ x) (waits_same p ∙ (d p r.0).waits_all r ∙ queue_is program input budget queues taken_list offered counts c.at (f p) l)
          ∙ ap (λ x. x ++ drop (slice_index taken_list (f p)) (written N k (f p))) (took_is N c.at.network.is_network k c.at.reachable i job f (Reads program i) (Writes program i) plug (Stands body (instance_job program input i)) c.home.standing p r)
          ∙ ap (λ n. taken N k (f p) ++ drop n (written N k (f p))) (stream_is program input budget queues taken_list offered counts c.at (f p) l).took_is
          ∙ prefix_rest (taken N k (f p)) (written N k (f p)) (begins program input budget queues taken_list offered counts c.at (f p) l)

      pub run_now : HasRun Later N k i job f (Reads program i) (Writes program i) limits' 0 now
      run_now = record {
        before = ts;
        count = c.home.standing.count;
        new = [];
        as_many = refl;
        stands = subst Later (sym (append-nil ts)) stands;
        tests = c.home.standing.tests;
        runs = subst (λ l. IsPrefixOf l (ticks (job c.home.standing.tests) (λ p. written N k (f p)))) (sym (append-nil ts)) c.home.standing.runs;
        lists = λ p r. ap (λ l. lists_at l now p) (append-nil ts) ∙ lists_are p r;
        carries = λ p w. carried_same p ∙ same p ∙ c.home.carries p w ∙ sym (append-nil (written N k (f p)));
        limits_are = λ p w.
            let l = own p w.0 in
            let m = (d p w.0).limit w in
            let t = (stream_is program input budget queues taken_list offered counts c.at (f p) l).took_is in
            let e = c.at.network.depth (f p) in
            omega arith;
        given_are = λ p r. (d p r.0).given r ∙ total_is program input budget queues taken_list offered counts c.at (f p) (own p r.0);
        puts = λ p w some. absurd (omega arith);
      }

      home_now : (ends_same : ends_of now ≡ ends_of ready) → ((p : ℕ) → space_at ready p ≤ space_at now p) → (b : B) → Stands b (instance_job program input i) ts → IsHome Stands program input counts taken_list offered' i b now limits'
      home_now ends_same spaces_grow b e = record {
        standing = record { ticks = ts; stands = e; count = c.home.standing.count; tests = c.home.standing.tests; runs = c.home.standing.runs };
        ends = ends_same ∙ o.ends;
        limits_len = o.limits_len;
        carries = λ p w. carried_same p ∙ same p ∙ c.home.carries p w;
        waits_are = λ p r.
            let l = own p r.0 in
            let g = (d p r.0).gave r in
            let t = total_is program input budget queues taken_list offered counts c.at (f p) l in
            waits_same p ∙ (d p r.0).waits_all r ∙ queue_is program input budget queues taken_list offered counts c.at (f p) l
            ∙ ap (drop (slice_index taken_list (f p))) (sym (take_all (slice_index offered' (f p)) (written N k (f p)) (omega arith)));
        spaces = λ p r. let x = o.spaces p r in let y = spaces_grow p in omega arith;
      }

    pub ready_run : HasRun (Stands body (instance_job program input i)) N k i job f (Reads program i) (Writes program i) limits' 0 ready
    ready_run = run_now (Stands body (instance_job program input i)) c.home.standing.stands ready (λ p. refl) (λ p. refl)

    pub ends_are : ends_of ready ≡ (instance_job program input i).ends
    ends_are = o.ends ∙ sym (c.at.network.ends i)

    pub agrees_ready : Agrees job ts ready
    unfolding ready_run run_now
    agrees_ready =
        subst (λ l. Agrees job l ready) (append-nil ts)
        (agrees N c.at.network.is_network k c.at.reachable i job f (Reads program i) (Writes program i) plug limits' (Stands body (instance_job program input i)) 0 ready ready_run)

    pub can_resume : CanResume (Stands body) ready 0
    can_resume = record {
      job = instance_job program input i;
      ticks = ts;
      stands = c.home.standing.stands;
      ends = ends_are;
      agrees = agrees_ready;
      fits = let a = c.home.standing.count in let b = c.at.capped i in let e = c.at.few in omega arith;
    }

    -- after the look
    module _ (body' : B) (after : Ports) (x : Pause) (u : Resumed (Stands body' (instance_job program input i)) job ts ready 0 x after) where
      none : u.made ≡ []
      none = none_of u.made (λ l. let w = u.within in omega arith)

      abbrev Later : List Tick → Type 0
      Later = Stands body' (instance_job program input i)

      stands_after : Later ts
      stands_after = subst Later (ap (λ l. ts ++ l) none ∙ append-nil ts) u.stands

      waits_after : (p : ℕ) → waiting after p ≡ waiting ready p
      waits_after p = u.moved.waits p ∙ ap (λ l. drop (length (flat_map (take_from p) l)) (waiting ready p)) none

      carried_after : (p : ℕ) → carried after p ≡ carried ready p
      carried_after p = u.moved.puts p ∙ ap (λ l. carried ready p ++ flat_map (put_on p) l) none ∙ append-nil (carried ready p)

      room_after : (p : ℕ) → room_at after p ≡ room_at ready p
      room_after p = let r = u.moved.rooms p in let e : length (flat_map (put_on p) u.made) ≡ 0 = ap (λ l. length (flat_map (put_on p) l)) none in omega arith

      pub run_after : HasRun Later N k i job f (Reads program i) (Writes program i) limits' 0 after
      run_after = run_now Later stands_after after waits_after carried_after

      pub home_after : IsHome Stands program input counts taken_list offered' i body' after limits'
      home_after = home_now Later stands_after after waits_after carried_after u.moved.ends u.moved.spaces body' stands_after

      -- the answer on what is written
      abbrev ins : ℕ → List Token
      ins = lists_at ts ready

      ins_are : (p : ℕ) → Reads program i p → ins p ≡ written N k (f p)
      ins_are p r = lists_are (Stands body (instance_job program input i)) c.home.standing.stands ready (λ q. refl) (λ q. refl) p r

      answer : PausesBy job (length (run_after.before ++ run_after.new)) ins after (length u.made ≡ 0) x
      answer =
          subst (λ n. PausesBy job n ins after (length u.made ≡ 0) x)
          (let e : length u.made ≡ 0 = ap length none in
          let n = made_now N c.at.network.is_network k c.at.reachable i job f (Reads program i) (Writes program i) plug limits' Later 0 after run_after in
          let t = c.home.standing.count in
          omega arith) u.pauses

      pub writes_at : (p : ℕ) → x ≡ WantsWrite p → Writes program i p
      writes_at p e =
          let q = subst (PausesBy job (length (run_after.before ++ run_after.new)) ins after (length u.made ≡ 0)) e answer in
          at_next N c.at.network.is_network k c.at.reachable i job f (Reads program i) (Writes program i) plug limits' Later 0 after run_after ins ins_are (Did (Put p q.0)) q.1

      no_put : (t : Tick) → GoesOnBy job (length (run_after.before ++ run_after.new)) ins t → HasRoomAt after t → (p : ℕ) (v : Token) → t ≡ Did (Put p v) → ⊥
      no_put t g room p v e =
          let w = at_next N c.at.network.is_network k c.at.reachable i job f (Reads program i) (Writes program i) plug limits' Later 0 after run_after ins ins_are (Did (Put p v)) (subst (GoesOnBy job (length (run_after.before ++ run_after.new)) ins) e g) in
          let l : 0 < room_at after p = subst (HasRoomAt after) e room in
          let r = room_after p in
          let z = (d p w.0).is_shut w in
          omega arith

      by_fuel : PausesBy job (length (run_after.before ++ run_after.new)) ins after (length u.made ≡ 0) Fuel → IsAllowed N k i
      by_fuel (spent, (t, g, room)) = may_act N c.at.network.is_network k c.at.reachable i job f (Reads program i) (Writes program i) plug limits' Later 0 after run_after ins ins_are refl t g (no_put t g room)

      pub allowed_fuel : x ≡ Fuel → IsAllowed N k i
      allowed_fuel e = by_fuel (subst (PausesBy job (length (run_after.before ++ run_after.new)) ins after (length u.made ≡ 0)) e answer)

      pub allowed_write : (p : ℕ) → x ≡ WantsWrite p → length (carried after p) < slice_index limits' p → IsAllowed N k i
      allowed_write p e l =
          let q = subst (PausesBy job (length (run_after.before ++ run_after.new)) ins after (length u.made ≡ 0)) e answer in
          may_put N c.at.network.is_network k c.at.reachable i job f (Reads program i) (Writes program i) plug limits' Later 0 after run_after ins ins_are refl p q.0 q.1 l

      pub holds_so : (x ≡ Fuel → ⊥) → ((p : ℕ) → x ≡ WantsWrite p → slice_index limits' p ≤ length (carried after p)) → HoldsPause N k i f x
      holds_so n full = holds_here N c.at.network.is_network k c.at.reachable i job f (Reads program i) (Writes program i) plug limits' Later 0 after run_after ins ins_are refl after (length u.made ≡ 0) x n full answer

      pub told : (may : Bool) → MatchBool may ((x ≡ Fuel) ⊎ ((p : ℕ) × (x ≡ WantsWrite p) × (length (carried after p) < slice_index limits' p))) ((x ≡ Fuel → ⊥) × ((p : ℕ) → x ≡ WantsWrite p → slice_index limits' p ≤ length (carried after p))) → MatchBool may (IsAllowed N k i) ((x ≡ Fuel → ⊥) × HoldsPause N k i f x)
      told true (inl e) = allowed_fuel e
      told true (inr (p, e, l)) = allowed_write p e l
      told false (n, full) = (n, holds_so n full)

      -- there is a limit for each port
      pub in_ports : (p : ℕ) → x ≡ WantsWrite p → (p < port_count after) × (p < length limits')
      in_ports p e =
          let w = writes_at p e in
          let l = o.limits_len in
          let m = ports_many program c.at.connected i c.inside after (u.moved.ends ∙ o.ends) in
          let inside = w.0 in (omega arith, omega arith)

      pub looked : ((s : ℕ) → ((p : ℕ) → Reads program i p → f p ≡ s → ⊥) → slice_index offered' s ≡ slice_index offered s) → (may : Bool) → MatchBool may ((x ≡ Fuel) ⊎ ((p : ℕ) × (x ≡ WantsWrite p) × (length (carried after p) < slice_index limits' p))) ((x ≡ Fuel → ⊥) × ((p : ℕ) → x ≡ WantsWrite p → slice_index limits' p ≤ length (carried after p))) → HasLooked Stands program input budget queues taken_list offered offered' counts i body' after limits' may x
      looked others may m = record { at = at_after; home = home_after; run = run_after; others = others; told = told may m }
