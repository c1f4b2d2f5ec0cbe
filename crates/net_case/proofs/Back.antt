-- What a batch brings back, at a later count at which its instance has made no tick since.
use Rattle.std.proofs.Common.{◌≡◌, ℕ, ◌+◌, ◌≤◌, List, [], ◌∷◌, ◌++◌, length, map, take, drop, refl, sym, ap, ◌∙◌, ⊎_elim, arith, length-append, take_all}
use Rattle.std.specs.Prelude.{slice_index, flat_map}
use Rattle.std.proofs.lemmas.Bool.{cases_eq}
use Rattle.std.proofs.lemmas.List.{append-nil}
use Rattle.std.proofs.lemmas.Grind.{flat_map-append}
use Rattle.kahn_model.specs.declared.tick.Tick.{Tick}
use Rattle.kahn_model.specs.Prefix.{IsPrefixOf}
use Rattle.kahn_model.specs.Behavior.{Behavior}
use Rattle.kahn_model.specs.Network.{Network, IsNetwork, put_on, take_from}
use Rattle.kahn_model.specs.Counts.{ticks_made, written, taken, IsReachable}
use Rattle.kahn_model.proofs.Order.{prefix_trans, prefix_flat_map, prefix_length, prefix_whole}
use Rattle.kahn_model.proofs.Grow.{ticks_grow}
use Rattle.kahn_model.proofs.Count.{IsBelow, made_le, written_same}
use Rattle.kahn_model.proofs.Reach.{reach_founded, all_made}
use Rattle.net_core.specs.declared.ports.Ports.{Ports}
use Rattle.net_core.specs.Ports.{waiting, carried}
use Rattle.net_core.specs.Placement.{tick_at, AreAt, IsPlaced, IsStanding}
use Rattle.net_core.proofs.Chunk.{plus, plus_same, Chunk, written_after}
use Rattle.net_core.proofs.Placed.{puts_same, takes_same, put_found, take_found}
use Rattle.net_core.proofs.Queued.{take_longer}
use Rattle.net_core.proofs.Stepped.{plus_above, extends_same, none_of as nothing}
use Rattle.net_case.specs.Batch.{HasRun}
use Rattle.net_case.proofs.Runs.{commits, made_now, whole_at, new_at, whole_there}

drop_front : {A : Type 0} (xs ys : List A) → drop (length xs) (xs ++ ys) ≡ ys
drop_front [] ys = refl
drop_front (x ∷ xs) ys = drop_front xs ys

module _ (net : Network) (ok : IsNetwork net) (k : ℕ → ℕ) (r : IsReachable net k) (i : ℕ) (job : ℕ → Behavior) (f : ℕ → ℕ) (R W : ℕ → Type 0) (plug : IsPlaced net i job f R W) (limits : List ℕ) (Stands : List Tick → Type 0) (made : ℕ) (ports : Ports) (h : HasRun Stands net k i job f R W limits made ports) (m : ℕ → ℕ) (rm : IsReachable net m) (below : IsBelow k m) (still : m i ≡ k i) where
  abbrev now : List Tick
  now = h.before ++ h.new

  abbrev pub later : ℕ → ℕ
  later = plus i made m

  pub back : Chunk net m i (map (tick_at f) h.new) later
  back = commits net ok k r i job f R W plug limits Stands made ports h m rm below still

  same_before : ticks_made net m i ≡ ticks_made net k i
  same_before =
      let a = all_made net ok k (reach_founded net k r) i in
      let b = all_made net ok m (reach_founded net m rm) i in
      sym (prefix_whole _ _ (made_le net ok k m below i) (omega arith))

  -- all its ticks
  pub whole : ticks_made net later i ≡ map (tick_at f) now
  whole = back.own ∙ ap (λ l. l ++ map (tick_at f) h.new) same_before ∙ whole_there net ok k r i job f R W plug limits Stands made ports h

  at_now : AreAt R W now
  at_now = whole_at net ok k r i job f R W plug limits Stands made ports h

  at_new : AreAt R W h.new
  at_new = new_at net ok k r i job f R W plug limits Stands made ports h

  -- what its streams carried then is at its ports
  pub carried_is : (p : ℕ) → W p → carried ports p ≡ written net later (f p)
  carried_is p w =
      h.carries p w
      ∙ ap (λ l. l ++ flat_map (put_on p) h.new) (sym (written_same net m k i (f p) (plug.writer p w) same_before))
      ∙ ap (λ l. written net m (f p) ++ l) (sym (puts_same R W f plug.writes_one h.new p w at_new))
      ∙ sym (written_after net m later i (f p) (map (tick_at f) h.new) (plug.writer p w) back.own)

  pub taken_is : (p : ℕ) → R p → taken net later (f p) ≡ flat_map (take_from p) now
  taken_is p d =
      ap (λ j. flat_map (take_from (f p)) (ticks_made net later j)) (plug.reader p d)
      ∙ ap (flat_map (take_from (f p))) whole
      ∙ takes_same R W f plug.reads_one now p d at_now

  -- it took what it no longer has of what it was given
  pub took_is : (p : ℕ) → R p → length (taken net later (f p)) + length (waiting ports p) ≡ slice_index limits p
  took_is p d =
      let a = ap length (taken_is p d) in
      let b = ap length (h.lists p d) in
      let c = length-append (flat_map (take_from p) now) (waiting ports p) in
      let g = h.given_are p d in
      omega arith

  grown : (s : ℕ) → IsPrefixOf (written net k s) (written net later s)
  grown s =
      prefix_flat_map (put_on s) _ _
      (made_le net ok k later (λ j. let a = below j in let b = plus_above i made m j in omega arith) (net.producer s))

  -- what waits at its ports is what it was given of what is written, without what is taken
  pub waits_is : (p : ℕ) → R p → waiting ports p ≡ drop (length (taken net later (f p))) (take (slice_index limits p) (written net later (f p)))
  waits_is p d =
      sym
      (ap (λ n. drop (length (taken net later (f p))) (take n (written net later (f p)))) (h.given_are p d)
      ∙ ap (drop (length (taken net later (f p)))) (take_longer (length (written net k (f p))) (written net k (f p)) (written net later (f p)) (grown (f p)) (omega arith) ∙ take_all (length (written net k (f p))) (written net k (f p)) (omega arith))
      ∙ ap (λ l. drop (length (taken net later (f p))) l) (sym (h.lists p d))
      ∙ ap (λ l. drop (length l) (flat_map (take_from p) now ++ waiting ports p)) (taken_is p d)
      ∙ drop_front (flat_map (take_from p) now) (waiting ports p))

  pub given_within : (p : ℕ) → R p → slice_index limits p ≤ length (written net later (f p))
  given_within p d = let g = h.given_are p d in let l = prefix_length _ _ (grown (f p)) in omega arith

  -- streams at which it has no port stay
  pub written_else : (s : ℕ) → ((p : ℕ) → W p → f p ≡ s → ⊥) → written net later s ≡ written net m s
  written_else s d =
      ⊎_elim
      (λ (e : net.producer s ≡ i).
      written_after net m later i s (map (tick_at f) h.new) e back.own
      ∙ ap (λ l. written net m s ++ l) (nothing (flat_map (put_on s) (map (tick_at f) h.new)) (λ l. let g = put_found R W f h.new s at_new l in d g.0 g.1 g.2))
      ∙ append-nil (written net m s))
      (λ (e : net.producer s ≡ i → ⊥). ap (flat_map (put_on s)) (back.other (net.producer s) e))
      (cases_eq (net.producer s) i)

  pub taken_else : (s : ℕ) → ((p : ℕ) → R p → f p ≡ s → ⊥) → taken net later s ≡ taken net m s
  taken_else s d =
      ⊎_elim
      (λ (e : net.consumer s ≡ i).
      ap (λ j. flat_map (take_from s) (ticks_made net later j)) e
      ∙ ap (flat_map (take_from s)) back.own
      ∙ flat_map-append (take_from s) (ticks_made net m i) (map (tick_at f) h.new)
      ∙ ap (λ l. flat_map (take_from s) (ticks_made net m i) ++ l) (nothing (flat_map (take_from s) (map (tick_at f) h.new)) (λ l. let g = take_found R W f h.new s at_new l in d g.0 g.1 g.2))
      ∙ append-nil (flat_map (take_from s) (ticks_made net m i))
      ∙ ap (λ j. flat_map (take_from s) (ticks_made net m j)) (sym e))
      (λ (e : net.consumer s ≡ i → ⊥). ap (flat_map (take_from s)) (back.other (net.consumer s) e))
      (cases_eq (net.consumer s) i)

  -- its body stands at the count
  pub standing_is : IsStanding Stands net later i job f
  standing_is = record {
    ticks = now;
    stands = h.stands;
    count = let a = made_now net ok k r i job f R W plug limits Stands made ports h in let b = plus_same i made m in omega arith;
    tests = h.tests;
    runs = prefix_trans _ _ _ h.runs (ticks_grow (job h.tests) (job h.tests) (λ p. written net k (f p)) (λ p. written net later (f p)) (extends_same (job h.tests)) (λ p. grown (f p)));
  }
