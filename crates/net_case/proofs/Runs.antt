-- What a batch has made, and what a further call makes of it.
use Rattle.std.proofs.Common.{◌≡◌, ℕ, ◌+◌, ◌-◌, ◌<◌, ◌≤◌, List, [], ◌∷◌, ◌++◌, length, map, refl, sym, ap, ◌∙◌, subst, ⊎_elim, arith, length-append, append_assoc}
use Rattle.std.specs.Prelude.{slice_index, flat_map}
use Rattle.std.proofs.lemmas.Bool.{cases_lt}
use Rattle.std.proofs.lemmas.List.{map-append, length-map}
use Rattle.std.proofs.lemmas.Grind.{flat_map-append}
use Rattle.tapa_base.specs.declared.token.Token.{Token}
use Rattle.kahn_model.specs.declared.tick.Tick.{Tick}
use Rattle.kahn_model.specs.Prefix.{IsPrefixOf}
use Rattle.kahn_model.specs.Behavior.{Behavior, ticks}
use Rattle.kahn_model.specs.Network.{Network, IsNetwork, put_on, take_from}
use Rattle.kahn_model.specs.Counts.{ticks_made, written, taken, IsReachable}
use Rattle.kahn_model.proofs.Order.{prefix_trans, prefix_flat_map, prefix_length}
use Rattle.kahn_model.proofs.Count.{IsBelow}
use Rattle.kahn_model.proofs.Reach.{reach_founded}
use Rattle.kahn_model.proofs.Taken.{takes_begin, taken_begins}
use Rattle.net_core.specs.declared.ports.Ports.{Ports}
use Rattle.net_core.specs.declared.body.Pause.{Pause}
use Rattle.net_core.specs.declared.body.Pause.TheVariants.{Fuel}
use Rattle.net_core.specs.Ports.{waiting, carried, room_at}
use Rattle.net_core.specs.Resume.{lists_at, Agrees, PausesBy, Resumed}
use Rattle.net_core.specs.Placement.{tick_at, AreAt, IsPlaced, IsStanding}
use Rattle.net_core.proofs.Placed.{placed_ticks, asks_ticks, ticks_at, at_asks, are_prefix, puts_same, put_found, map_prefix}
use Rattle.net_core.proofs.Chunk.{plus, HasRoomFor, Chunk}
use Rattle.net_core.proofs.Stepped.{prefix_rest, made_is_map}
use Rattle.net_core.proofs.Commit.{commit_chunk}
use Rattle.net_case.specs.Batch.{HasRun}
use Rattle.net_core.proofs.Follow.{prefix_of_append, prefix_unappend}

module _ (net : Network) (ok : IsNetwork net) (k : ℕ → ℕ) (r : IsReachable net k) (i : ℕ) (job : ℕ → Behavior) (f : ℕ → ℕ) (R W : ℕ → Type 0) (plug : IsPlaced net i job f R W) (limits : List ℕ) (Stands : List Tick → Type 0) (made : ℕ) (ports : Ports) (h : HasRun Stands net k i job f R W limits made ports) where
  abbrev now : List Tick
  now = h.before ++ h.new

  abbrev ours : ℕ → List Token
  ours p = written net k (f p)

  runs_same : (n : ℕ) → ticks (job n) (lists_at now ports) ≡ ticks (job n) ours
  runs_same n = asks_ticks R (job n) (lists_at now ports) ours (at_asks R W (job n) (plug.at n)) h.lists

  pub agrees : Agrees job now ports
  agrees = (h.tests, subst (IsPrefixOf now) (sym (runs_same h.tests)) h.runs)

  pub made_now : length now ≡ k i + made
  made_now = let a = length-append h.before h.new in let b = h.count in let c = h.as_many in omega arith

  module _ (Later : List Tick → Type 0) (fuel : ℕ) (pause : Pause) (after : Ports) (u : Resumed Later job now ports fuel pause after) where
    all : now ++ u.made ≡ h.before ++ (h.new ++ u.made)
    all = append_assoc h.before h.new u.made

    took : (p : ℕ) → IsPrefixOf (flat_map (take_from p) u.made) (waiting ports p)
    took p =
        let a = prefix_trans _ _ _ (prefix_flat_map (take_from p) _ _ u.are_next) (takes_begin (job u.tests) (lists_at now ports) p) in
        let b = subst (λ l. IsPrefixOf l (lists_at now ports p)) (flat_map-append (take_from p) now u.made) a in
        prefix_unappend (flat_map (take_from p) now) _ _ b

    put_more : (p : ℕ) → flat_map (put_on p) (h.new ++ u.made) ≡ flat_map (put_on p) h.new ++ flat_map (put_on p) u.made
    put_more p = flat_map-append (put_on p) h.new u.made

    pub again : ((p : ℕ) → W p → room_at ports p ≡ slice_index limits p - length (carried ports p)) → HasRun Later net k i job f R W limits (made + length u.made) after
    again whole = record {
      before = h.before;
      count = h.count;
      new = h.new ++ u.made;
      as_many = let a = length-append h.new u.made in let b = h.as_many in omega arith;
      stands = subst Later all u.stands;
      tests = u.tests;
      runs = subst (λ l. IsPrefixOf l (ticks (job u.tests) ours)) all (subst (IsPrefixOf (now ++ u.made)) (runs_same u.tests) u.are_next);
      lists = λ p d.
          ap (λ l. flat_map (take_from p) l ++ waiting after p) (sym all)
          ∙ ap (λ l. l ++ waiting after p) (flat_map-append (take_from p) now u.made)
          ∙ append_assoc (flat_map (take_from p) now) (flat_map (take_from p) u.made) (waiting after p)
          ∙ ap (λ l. flat_map (take_from p) now ++ (flat_map (take_from p) u.made ++ l)) (u.moved.waits p)
          ∙ ap (λ l. flat_map (take_from p) now ++ l) (prefix_rest (flat_map (take_from p) u.made) (waiting ports p) (took p))
          ∙ h.lists p d;
      carries = λ p w.
          u.moved.puts p
          ∙ ap (λ l. l ++ flat_map (put_on p) u.made) (h.carries p w)
          ∙ append_assoc (ours p) (flat_map (put_on p) h.new) (flat_map (put_on p) u.made)
          ∙ ap (λ l. ours p ++ l) (sym (put_more p));
      limits_are = h.limits_are;
      given_are = h.given_are;
      puts = λ p w some.
          let c = ap length (u.moved.puts p) in
          let l = length-append (carried ports p) (flat_map (put_on p) u.made) in
          let room = u.moved.rooms p in
          let all_room = whole p w in
          let e = ap length (put_more p) in
          let m = length-append (flat_map (put_on p) h.new) (flat_map (put_on p) u.made) in
          ⊎_elim
          (λ (more : 0 < length (flat_map (put_on p) u.made)). omega arith)
          (λ (none : length (flat_map (put_on p) u.made) ≤ 0). let old = h.puts p w (omega arith) in omega arith)
          (cases_lt 0 (length (flat_map (put_on p) u.made)));
    }

    pub spent : pause ≡ Fuel → length u.made ≡ fuel
    spent e = (subst (PausesBy job (length now + length u.made) (lists_at now ports) after (length u.made ≡ fuel)) e u.pauses).0

  -- ---- what its ticks are in the network

  abbrev stood : IsStanding (λ ts. Unit {0}) net k i job f
  stood = record { ticks = h.before; stands = tt; count = h.count; tests = h.tests; runs = prefix_trans h.before now _ (prefix_of_append h.before h.new) h.runs }

  pub whole_at : AreAt R W now
  whole_at = are_prefix R W now _ h.runs (ticks_at R W (job h.tests) _ (plug.at h.tests))

  tail_at : (xs ys : List Tick) → AreAt R W (xs ++ ys) → AreAt R W ys
  tail_at [] ys a = a
  tail_at (x ∷ xs) ys (a, as') = tail_at xs ys as'

  pub new_at : AreAt R W h.new
  new_at = tail_at h.before h.new whole_at

  placed : (n : ℕ) → ticks (net.job i n) (written net k) ≡ map (tick_at f) (ticks (job n) ours)
  placed n = ap (λ t. ticks t (written net k)) (plug.placed n) ∙ placed_ticks R f plug.reads_one (job n) (written net k) ours (at_asks R W (job n) (plug.at n)) (λ p d. refl)

  -- all its ticks, by those that it had made
  pub whole_there : ticks_made net k i ++ map (tick_at f) h.new ≡ map (tick_at f) now
  whole_there = ap (λ l. l ++ map (tick_at f) h.new) (made_is_map net ok k r i job f R W plug (λ ts. Unit {0}) stood) ∙ sym (map-append (tick_at f) h.before h.new)

  pub run_there : IsPrefixOf (ticks_made net k i ++ map (tick_at f) h.new) (ticks (net.job i h.tests) (written net k))
  run_there =
      subst (λ l. IsPrefixOf l (ticks (net.job i h.tests) (written net k))) (sym whole_there)
      (subst (IsPrefixOf (map (tick_at f) now)) (sym (placed h.tests)) (map_prefix (tick_at f) now _ h.runs))

  pub room_there : HasRoomFor net k i (map (tick_at f) h.new)
  room_there s e some =
      let found = put_found R W f h.new s new_at some in
      let p = found.0 in
      let w = found.1 in
      let same = ap length (puts_same R W f plug.writes_one h.new p w new_at) in
      let at : 0 < length (flat_map (put_on (f p)) (map (tick_at f) h.new)) = subst (λ x. 0 < length (flat_map (put_on x) (map (tick_at f) h.new))) (sym found.2) some in
      let c = ap length (h.carries p w) in
      let l = length-append (ours p) (flat_map (put_on p) h.new) in
      let lim = h.limits_are p w in
      let puts = h.puts p w (omega arith) in
      let tk = prefix_length _ _ (taken_begins net ok k (reach_founded net k r) (f p)) in
      subst (λ x. length (written net k x) - length (taken net k x) + length (flat_map (put_on x) (map (tick_at f) h.new)) ≤ net.depth x) found.2 (omega arith)

  -- at every later count at which the instance has made no tick since
  pub commits : (m : ℕ → ℕ) → IsReachable net m → IsBelow k m → m i ≡ k i → Chunk net m i (map (tick_at f) h.new) (plus i made m)
  commits m rm below still =
      let n : length (map (tick_at f) h.new) ≡ made = length-map h.new (tick_at f) ∙ h.as_many in
      subst (λ x. Chunk net m i (map (tick_at f) h.new) (plus i x m)) n
      (commit_chunk net ok k m r rm below i plug.inside still h.tests (map (tick_at f) h.new) run_there room_there)
