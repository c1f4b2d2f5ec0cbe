-- The laws of counts.
use Rattle.std.proofs.Common.{◌≡◌, ℕ, zero, suc, ◌+◌, ◌<◌, ◌≤◌, List, [], ◌∷◌, length, take, Some, sym, ap, ◌∙◌, subst, ⊎_elim, arith, length-take}
use Rattle.std.specs.Prelude.{slice_get, flat_map}
use Rattle.std.proofs.Math.Path.{fun_ext}
use Rattle.std.proofs.lemmas.Bool.{cases_lt, cases_eq}
use Rattle.std.proofs.lemmas.List.{length-take-le, take_all}
use Rattle.std.proofs.lemmas.Option.{slice_get_within}
use Rattle.kahn_model.specs.Prefix.{IsPrefixOf}
use Rattle.kahn_model.specs.Behavior.{Tick, Did, Take, See, End, TraceEnd, Ended, Needs, Bad, Turns, trace_end}
use Rattle.kahn_model.specs.Network.{Network, IsNetwork, put_on, take_from, stream, round}
use Rattle.kahn_model.specs.Counts.{total, round_of, ticks_made, written, taken, next, HasToken, IsSupplied, with_tick_of, after, AreAllowed, AreSupplied, zeros, IsReachable, IsFounded, IsKahnPrefix, IsKahnStream, HasEnded}
use Rattle.kahn_model.proofs.Order.{prefix_flat_map, prefix_take, take_prefix, prefix_length, prefix_get, prefix_get_back, prefix_whole}
use Rattle.kahn_model.proofs.Grow.{stream_le, round_le, stream_is_round}
use Rattle.kahn_model.proofs.Late.{IsWait, IsLate, late, end_last}
use Rattle.kahn_model.proofs.Count.{OwnTick, own_round, total_bump, bump_same, bump_other}

-- room is a further condition
are_fed : (net : Network) (steps : List ℕ) (k : ℕ → ℕ) → AreAllowed net steps k → AreSupplied net steps k
are_fed net [] k a = tt
are_fed net (i ∷ steps) k (a, rest) = (a.supplied, are_fed net steps (with_tick_of i k) rest)

pub reach_founded : (net : Network) (k : ℕ → ℕ) → IsReachable net k → IsFounded net k
reach_founded net k r = record { steps = r.steps; supplied = are_fed net r.steps zeros r.allowed; is_after = r.is_after }

-- the round that is numbered as the ticks so far has all of them
abbrev pub IsFull : Network → (ℕ → ℕ) → Type 0
IsFull net k = (i : ℕ) → k i ≤ length (round net (total net.size k) i)

pub full_step : (net : Network) → IsNetwork net → (k : ℕ → ℕ) (i : ℕ) → IsFull net k → IsSupplied net k i → IsFull net (with_tick_of i k)
full_step net ok k i h f j =
    let q = total net.size k in
    let long : length (round net q j) ≤ length (round net (suc q) j) = prefix_length _ _ (round_le net ok q (suc q) (omega arith) j) in
    let hj = h j in
    let there : k i < length (round net (suc q) i) = slice_get_within _ (k i) f.tick f.is_next in
    let goal : with_tick_of i k j ≤ length (round net (suc q) j) =
    ⊎_elim
    (λ (e : j ≡ i). let b : with_tick_of i k j ≡ suc (k j) = subst (λ x. with_tick_of x k j ≡ suc (k j)) e (bump_same j k) in
    let t : k j < length (round net (suc q) j) = subst (λ x. k x < length (round net (suc q) x)) (sym e) there in omega arith)
    (λ (e : j ≡ i → ⊥). let b = bump_other i j k e in omega arith)
    (cases_eq j i)
    in
    subst (λ n. with_tick_of i k j ≤ length (round net n j)) (sym (total_bump net.size i k f.inside)) goal

full_after : (net : Network) → IsNetwork net → (steps : List ℕ) (k : ℕ → ℕ) → IsFull net k → AreSupplied net steps k → IsFull net (after steps k)
full_after net ok [] k h a = h
full_after net ok (i ∷ steps) k h (a, rest) = full_after net ok steps (with_tick_of i k) (full_step net ok k i h a) rest

pub full_zeros : (net : Network) → IsFull net zeros
full_zeros net i = omega arith

pub full : (net : Network) → IsNetwork net → (k : ℕ → ℕ) → IsFounded net k → IsFull net k
full net ok k r = subst (IsFull net) (sym (fun_ext r.is_after)) (full_after net ok r.steps zeros (full_zeros net) r.supplied)

pub all_made : (net : Network) → IsNetwork net → (k : ℕ → ℕ) → IsFounded net k → (i : ℕ) → length (ticks_made net k i) ≡ k i
all_made net ok k r i =
    let q = total net.size k in
    let long : length (round net q i) ≤ length (round net (suc q) i) = prefix_length _ _ (round_le net ok q (suc q) (omega arith) i) in
    let h = full net ok k r i in
    length-take-le (k i) (round net (suc q) i) (omega arith)

pub is_kahn : (net : Network) → IsNetwork net → (k : ℕ → ℕ) → IsFounded net k → (s : ℕ) → IsKahnPrefix net s (written net k s)
is_kahn net ok k r s = (round_of net k, prefix_flat_map (put_on s) _ _ (take_prefix (k (net.producer s)) (round net (round_of net k) (net.producer s))))

-- the whole stream, where its producer has ended
pub whole : (net : Network) → IsNetwork net → (k : ℕ → ℕ) (s : ℕ) → HasEnded net k (net.producer s) → IsKahnStream net s (written net k s)
whole net ok k s (j, e) =
    let p = net.producer s in
    let q = total net.size k in
    let ts = round net (suc q) p in
    let at : slice_get ts j ≡ Some End = prefix_get (take (k p) ts) ts j End (take_prefix (k p) ts) e in
    let short : j < length (take (k p) ts) = slice_get_within _ j End e in
    let len : length ts ≡ suc j = end_last _ (stream net q) j at in
    let cut = length-take (k p) ts in
    let all : take (k p) ts ≡ ts = take_all (k p) ts (omega arith) in (
      (suc q, prefix_flat_map (put_on s) _ _ (take_prefix (k p) ts)),
      λ n.
          let us = round net (suc (q + n)) p in
          let pre : IsPrefixOf ts us = round_le net ok (suc q) (suc (q + n)) (omega arith) p in
          let long : length us ≡ suc j = end_last _ (stream net (q + n)) j (prefix_get ts us j End pre at) in
          let same : ts ≡ us = prefix_whole ts us pre (omega arith) in
          subst (λ v. IsPrefixOf (stream net n s) (flat_map (put_on s) v)) (sym (all ∙ same)) (stream_le net ok n (suc (q + n)) (omega arith) s),
    )

-- the next tick is there in time
pub total_has : (n i : ℕ) (k : ℕ → ℕ) → i < n → k i ≤ total n k
total_has zero i k h = absurd (omega arith)
total_has (suc n) i k h =
    ⊎_elim
    (λ l. let a = total_has n i k l in omega arith)
    (λ l. let e : i ≡ n = omega arith in let b : k i ≡ k n = ap k e in omega arith)
    (cases_lt i n)

-- what is written is in the streams of the round before
written_before : (net : Network) → IsNetwork net → (k : ℕ → ℕ) → IsFull net k → (s : ℕ) → length (written net k s) ≤ length (stream net (total net.size k) s)
written_before net ok k h s =
    let p = net.producer s in
    let q = total net.size k in
    let hp = h p in
    let pre = prefix_take (k p) (k p) _ _ (omega arith) (round_le net ok q (suc q) (omega arith) p) in
    let l1 = length-take-le (k p) (round net q p) hp in
    let l2 = length-take (k p) (round net (suc q) p) in
    let same : take (k p) (round net q p) ≡ take (k p) (round net (suc q) p) = prefix_whole _ _ pre (omega arith) in
    let a : IsPrefixOf (flat_map (put_on s) (take (k p) (round net q p))) (flat_map (put_on s) (round net q p)) = prefix_flat_map (put_on s) _ _ (take_prefix (k p) (round net q p)) in
    let b = prefix_length _ _ a in
    let c = ap (λ v. length (flat_map (put_on s) v)) same in
    let d = ap length (stream_is_round net q s) in
    omega arith

-- a token that is written and not taken is no token that the round lacks
no_wait : (net : Network) → IsNetwork net → (k : ℕ → ℕ) → IsFull net k → (i s : ℕ) → net.consumer s ≡ i → k i ≡ length (round net (round_of net k) i) → length (flat_map (take_from s) (round net (round_of net k) i)) ≡ length (stream net (total net.size k) s) → length (taken net k s) < length (written net k s) → ⊥
no_wait net ok k h i s own e needs l =
    let ts = round net (round_of net k) i in
    let all : ticks_made net k i ≡ ts = take_all (k i) ts (omega arith) in
    let a : taken net k s ≡ flat_map (take_from s) ts = ap (flat_map (take_from s)) (ap (ticks_made net k) own ∙ all) in
    let b = ap length a in
    let c = written_before net ok k h s in
    omega arith

no_wait_tick : (net : Network) → IsNetwork net → (k : ℕ → ℕ) → IsFull net k → (i s : ℕ) (t : Tick) → OwnTick net.producer net.consumer i t → k i ≡ length (round net (round_of net k) i) → length (flat_map (take_from s) (round net (round_of net k) i)) ≡ length (stream net (total net.size k) s) → IsWait s t → HasToken net k t → ⊥
no_wait_tick net ok k h i s (Did a) own e needs w l = absurd w
no_wait_tick net ok k h i s (Take r t) own e needs w l =
    no_wait net ok k h i s (subst (λ x. net.consumer x ≡ i) w own) e needs (subst (λ x. length (taken net k x) < length (written net k x)) w l)
no_wait_tick net ok k h i s (See r t) own e needs w l =
    no_wait net ok k h i s (subst (λ x. net.consumer x ≡ i) w own) e needs (subst (λ x. length (taken net k x) < length (written net k x)) w l)
no_wait_tick net ok k h i s End own e needs w l = absurd w

pub past_end : (ts us : List Tick) (k : ℕ) (t : Tick) → k ≡ length ts → us ≡ ts → slice_get us k ≡ Some t → ⊥
past_end ts us k t e same at =
    let l = slice_get_within us k t at in
    let m = ap length same in
    omega arith

by_trace_end : (net : Network) → IsNetwork net → (k : ℕ → ℕ) → IsFull net k → (i : ℕ) (us : List Tick) (t : Tick) → k i ≤ total net.size k → OwnTick net.producer net.consumer i t → k i ≡ length (round net (round_of net k) i) → slice_get us (k i) ≡ Some t → HasToken net k t → (m : TraceEnd) → IsLate m (round net (round_of net k) i) us (stream net (total net.size k)) (round_of net k) → ⊥
by_trace_end net ok k h i us t small own e at tok Ended l = past_end _ us (k i) t e l at
by_trace_end net ok k h i us t small own e at tok (Bad s) l = past_end _ us (k i) t e l at
by_trace_end net ok k h i us t small own e at tok (Needs s) (needs, w) =
    no_wait_tick net ok k h i s t own e needs (w t (subst (λ x. slice_get us x ≡ Some t) e at)) tok
by_trace_end net ok k h i us t small own e at tok Turns l = omega arith

pub next_in_time : (net : Network) → IsNetwork net → (k : ℕ → ℕ) → IsFounded net k → (n i : ℕ) (t : Tick) → i < net.size → slice_get (round net n i) (k i) ≡ Some t → HasToken net k t → next net k i ≡ Some t
next_in_time net ok k r n i t inside at tok =
    let h = full net ok k r in
    let q = total net.size k in
    let ts = round net (suc q) i in
    let us = round net (suc (q + n)) i in
    let at' : slice_get us (k i) ≡ Some t = prefix_get (round net n i) us (k i) t (round_le net ok n (suc (q + n)) (omega arith) i) at in
    let small = total_has net.size i k inside in
    let long : length (round net q i) ≤ length ts = prefix_length _ _ (round_le net ok q (suc q) (omega arith) i) in
    let hi = h i in
    ⊎_elim
    (λ (l : k i < length ts). prefix_get_back ts us (k i) t (round_le net ok (suc q) (suc (q + n)) (omega arith) i) l at')
    (λ (l : length ts ≤ k i). absurd (by_trace_end net ok k h i us t small (own_round net ok n i (k i) t at) (omega arith) at' tok (trace_end (net.job i (suc q)) (stream net q)) (late _ _ (stream net q) (stream net (q + n)) (suc q) (ok.grows i (suc q) (suc (q + n)) (omega arith)) (stream_le net ok q (q + n) (omega arith)) (ok.lasts i (suc q)))))
    (cases_lt (k i) (length ts))
