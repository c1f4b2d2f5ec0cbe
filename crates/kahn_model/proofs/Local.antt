-- A job's next tick is decided by the tokens that are written so far.
use Rattle.std.proofs.Common.{◌≡◌, ℕ, zero, suc, ◌+◌, ◌<◌, ◌≤◌, List, [], ◌∷◌, ◌++◌, length, take, drop, Some, refl, sym, ap, ◌∙◌, subst, ⊎_elim, arith, length-take, length-append, length-drop}
use Rattle.std.specs.Prelude.{◌==◌, slice_get, flat_map, if◌then◌else◌}
use Rattle.std.proofs.Math.Path.{fun_ext}
use Rattle.std.proofs.lemmas.Bool.{cases_lt, cases_eq}
use Rattle.std.proofs.lemmas.Bool.Decides.{nat_tests}
use Rattle.std.proofs.lemmas.List.{length-take-le, take_all}
use Rattle.std.proofs.lemmas.Option.{slice_get_within}
use Rattle.tapa_base.specs.declared.token.Token.{Token}
use Rattle.kahn_model.specs.Prefix.{IsPrefixOf}
use Rattle.kahn_model.specs.Behavior.{Tick, Did, Take, See, End, TraceEnd, Ended, Needs, Bad, Turns, StreamOperation, Read, Peek, TestEot, Open, Offer, NoToken, WrongToken, Answer, judge_token, first_offer, tick_of, lists_after, on_offer, Behavior, Finished, OutOfTurns, Act, Await, ticks, trace_end}
use Rattle.kahn_model.specs.Network.{Network, IsNetwork, put_on, take_from, stream, round}
use Rattle.kahn_model.specs.Counts.{total, round_of, ticks_made, written, taken, next, HasToken, IsSupplied, with_tick_of, after, AreSupplied, zeros, IsFounded}
use Rattle.kahn_model.proofs.Order.{prefix_trans, prefix_flat_map, prefix_take, take_prefix, prefix_length, prefix_get, prefix_get_back, prefix_whole}
use Rattle.kahn_model.proofs.Grow.{Grows, ticks_grow, stream_le, round_le, stream_is_round}
use Rattle.kahn_model.proofs.Late.{IsWait, IsLate, late}
use Rattle.kahn_model.proofs.Count.{OwnTick, own_round, IsBelow, total_bump, bump_same, bump_other, bump_above, made_le}
use Rattle.kahn_model.proofs.Reach.{IsFull, full, full_step, full_zeros, total_has, past_end, next_in_time, all_made}

-- what is written is in the streams of the round that is numbered as the ticks so far
written_in : (net : Network) → IsNetwork net → (k : ℕ → ℕ) → IsFull net k → Grows (written net k) (stream net (total net.size k))
written_in net ok k h s =
    let p = net.producer s in
    let q = total net.size k in
    let hp = h p in
    let pre = prefix_take (k p) (k p) _ _ (omega arith) (round_le net ok q (suc q) (omega arith) p) in
    let l1 = length-take-le (k p) (round net q p) hp in
    let l2 = length-take (k p) (round net (suc q) p) in
    let same : take (k p) (round net q p) ≡ take (k p) (round net (suc q) p) = prefix_whole _ _ pre (omega arith) in
    let a : IsPrefixOf (flat_map (put_on s) (take (k p) (round net q p))) (flat_map (put_on s) (round net q p)) = prefix_flat_map (put_on s) _ _ (take_prefix (k p) (round net q p)) in
    subst (λ v. IsPrefixOf (written net k s) v) (sym (stream_is_round net q s))
    (subst (λ v. IsPrefixOf (flat_map (put_on s) v) (flat_map (put_on s) (round net q p))) same a)

-- the ticks of an instance on what is written so far
abbrev pub here : Network → (ℕ → ℕ) → ℕ → List Tick
here net k i = ticks (net.job i (round_of net k)) (written net k)

abbrev pub IsHere : Network → (ℕ → ℕ) → Type 0
IsHere net k = (i : ℕ) → k i ≤ length (here net k i)

pub here_prefix : (net : Network) → IsNetwork net → (k : ℕ → ℕ) → IsFull net k → (i : ℕ) → IsPrefixOf (here net k i) (round net (round_of net k) i)
here_prefix net ok k h i =
    ticks_grow _ _ (written net k) (stream net (total net.size k)) (ok.grows i (round_of net k) (round_of net k) (omega arith)) (written_in net ok k h)

-- where nothing more is done here, no token waits
no_more : (net : Network) → IsNetwork net → (k : ℕ → ℕ) → IsFull net k → (i s : ℕ) → net.consumer s ≡ i → k i ≡ length (here net k i) → length (flat_map (take_from s) (here net k i)) ≡ length (written net k s) → length (taken net k s) < length (written net k s) → ⊥
no_more net ok k h i s own e needs l =
    let ts = here net k i in
    let us = round net (round_of net k) i in
    let pre = here_prefix net ok k h i in
    let all : take (k i) ts ≡ ts = take_all (k i) ts (omega arith) in
    let p2 = prefix_take (k i) (k i) ts us (omega arith) pre in
    let l1 = length-take (k i) us in
    let l2 = ap length all in
    let same : take (k i) ts ≡ take (k i) us = prefix_whole _ _ p2 (omega arith) in
    let a : taken net k s ≡ flat_map (take_from s) ts = ap (flat_map (take_from s)) (ap (ticks_made net k) own ∙ sym same ∙ all) in
    let b = ap length a in
    omega arith

no_more_tick : (net : Network) → IsNetwork net → (k : ℕ → ℕ) → IsFull net k → (i s : ℕ) (t : Tick) → OwnTick net.producer net.consumer i t → k i ≡ length (here net k i) → length (flat_map (take_from s) (here net k i)) ≡ length (written net k s) → IsWait s t → HasToken net k t → ⊥
no_more_tick net ok k h i s (Did a) own e needs w l = absurd w
no_more_tick net ok k h i s (Take r t) own e needs w l =
    no_more net ok k h i s (subst (λ x. net.consumer x ≡ i) w own) e needs (subst (λ x. length (taken net k x) < length (written net k x)) w l)
no_more_tick net ok k h i s (See r t) own e needs w l =
    no_more net ok k h i s (subst (λ x. net.consumer x ≡ i) w own) e needs (subst (λ x. length (taken net k x) < length (written net k x)) w l)
no_more_tick net ok k h i s End own e needs w l = absurd w

here_trace_end : (net : Network) → IsNetwork net → (k : ℕ → ℕ) → IsFull net k → (i : ℕ) (us : List Tick) (t : Tick) → k i ≤ total net.size k → OwnTick net.producer net.consumer i t → k i ≡ length (here net k i) → slice_get us (k i) ≡ Some t → HasToken net k t → (m : TraceEnd) → IsLate m (here net k i) us (written net k) (round_of net k) → ⊥
here_trace_end net ok k h i us t small own e at tok Ended l = past_end _ us (k i) t e l at
here_trace_end net ok k h i us t small own e at tok (Bad s) l = past_end _ us (k i) t e l at
here_trace_end net ok k h i us t small own e at tok (Needs s) (needs, w) =
    no_more_tick net ok k h i s t own e needs (w t (subst (λ x. slice_get us x ≡ Some t) e at)) tok
here_trace_end net ok k h i us t small own e at tok Turns l = omega arith

-- a step whose token is there is found on what is written so far
here_next : (net : Network) → IsNetwork net → (k : ℕ → ℕ) → IsFull net k → IsHere net k → (i : ℕ) (f : IsSupplied net k i) → slice_get (here net k i) (k i) ≡ Some f.tick
here_next net ok k h here_all i f =
    let ts = here net k i in
    let us = round net (round_of net k) i in
    let q = total net.size k in
    let hi = here_all i in
    let small = total_has net.size i k f.inside in
    ⊎_elim
    (λ (l : k i < length ts). prefix_get_back ts us (k i) f.tick (here_prefix net ok k h i) l f.is_next)
    (λ (l : length ts ≤ k i). absurd (here_trace_end net ok k h i us f.tick small (own_round net ok (suc q) i (k i) f.tick f.is_next) (omega arith) f.is_next f.token (trace_end (net.job i (suc q)) (written net k)) (late _ _ (written net k) (stream net q) (suc q) (ok.grows i (suc q) (suc q) (omega arith)) (written_in net ok k h) (ok.lasts i (suc q)))))
    (cases_lt (k i) (length ts))

here_grows : (net : Network) → IsNetwork net → (k m : ℕ → ℕ) → IsBelow k m → total net.size k ≤ total net.size m → (i : ℕ) → length (here net k i) ≤ length (here net m i)
here_grows net ok k m h t i =
    prefix_length _ _ (ticks_grow _ _ (written net k) (written net m) (ok.grows i (round_of net k) (round_of net m) (omega arith)) (λ s. prefix_flat_map (put_on s) _ _ (made_le net ok k m h (net.producer s))))

here_step : (net : Network) → IsNetwork net → (k : ℕ → ℕ) (i : ℕ) → IsFull net k → IsHere net k → IsSupplied net k i → IsHere net (with_tick_of i k)
here_step net ok k i h a f j =
    let tb = total_bump net.size i k f.inside in
    let up = here_grows net ok k (with_tick_of i k) (bump_above i k) (omega arith) j in
    let aj = a j in
    let there : k i < length (here net k i) = slice_get_within _ (k i) f.tick (here_next net ok k h a i f) in
    ⊎_elim
    (λ (e : j ≡ i). let b : with_tick_of i k j ≡ suc (k j) = subst (λ x. with_tick_of x k j ≡ suc (k j)) e (bump_same j k) in
    let t : k j < length (here net k j) = subst (λ x. k x < length (here net k x)) (sym e) there in omega arith)
    (λ (e : j ≡ i → ⊥). let b = bump_other i j k e in omega arith)
    (cases_eq j i)

here_after : (net : Network) → IsNetwork net → (steps : List ℕ) (k : ℕ → ℕ) → IsFull net k → IsHere net k → AreSupplied net steps k → IsHere net (after steps k)
here_after net ok [] k h a f = a
here_after net ok (i ∷ steps) k h a (f, rest) = here_after net ok steps (with_tick_of i k) (full_step net ok k i h f) (here_step net ok k i h a f) rest

pub here_all : (net : Network) → IsNetwork net → (k : ℕ → ℕ) → IsFounded net k → IsHere net k
here_all net ok k r = subst (IsHere net) (sym (fun_ext r.is_after)) (here_after net ok r.steps zeros (full_zeros net) (λ i. omega arith) r.supplied)

pub fed_is_here : (net : Network) → IsNetwork net → (k : ℕ → ℕ) → IsFounded net k → (i : ℕ) (f : IsSupplied net k i) → slice_get (here net k i) (k i) ≡ Some f.tick
fed_is_here net ok k r i f = here_next net ok k (full net ok k r) (here_all net ok k r) i f

-- a tick that waits for a token takes or sees one that its list has
front_less : (r s : ℕ) (t : Token) (f l : List Token) → length f < length (if r == s then drop 1 l else l) → length ((if r == s then t ∷ [] else []) ++ f) < length l
front_less r s t f l h = grind (arith, nat_tests, length-append {A = Token}, length-drop {A = Token})

less_by : (how : StreamOperation) (r s : ℕ) (t : Token) (xs : ℕ → List Token) (f : List Token) → length f < length (lists_after how r xs s) → length (take_from s (tick_of how r t) ++ f) < length (xs s)
less_by Read r s t xs f h = front_less r s t f (xs s) h
less_by Peek r s t xs f h = h
less_by TestEot r s t xs f h = h
less_by Open r s t xs f h = front_less r s t f (xs s) h

wait_is : (how : StreamOperation) (r s : ℕ) (t : Token) → IsWait s (tick_of how r t) → r ≡ s
wait_is Read r s t w = w
wait_is Peek r s t w = w
wait_is TestEot r s t w = w
wait_is Open r s t w = w

bounded_cons : (how : StreamOperation) (r s : ℕ) (t : Token) (xs : ℕ → List Token) (ts : List Tick) (u : Tick) → 0 < length (xs r) → IsWait s u → ((j : ℕ) → slice_get ts j ≡ Some u → length (flat_map (take_from s) (take j ts)) < length (lists_after how r xs s)) → (j : ℕ) → slice_get (tick_of how r t ∷ ts) j ≡ Some u → length (flat_map (take_from s) (take j (tick_of how r t ∷ ts))) < length (xs s)
bounded_cons how r s t xs ts u there w h zero e =
    let same : u ≡ tick_of how r t = cc in
    let q = wait_is how r s t (subst (IsWait s) same w) in
    subst (λ x. 0 < length (xs x)) q there
bounded_cons how r s t xs ts u there w h (suc j) e = less_by how r s t xs _ (h j e)

bounded_found : (how : StreamOperation) (r s : ℕ) (o : Offer) (xs : ℕ → List Token) (f : Token → ℕ → List Tick) (u : Tick) → 0 < length (xs r) → IsWait s u → ((t : Token) (v j : ℕ) → slice_get (f t v) j ≡ Some u → length (flat_map (take_from s) (take j (f t v))) < length (lists_after how r xs s)) → (j : ℕ) → slice_get (on_offer o [] [] (λ t v. tick_of how r t ∷ f t v)) j ≡ Some u → length (flat_map (take_from s) (take j (on_offer o [] [] (λ t v. tick_of how r t ∷ f t v)))) < length (xs s)
bounded_found how r s NoToken xs f u there w h j e = cc
bounded_found how r s WrongToken xs f u there w h j e = cc
bounded_found how r s (Answer t v) xs f u there w h j e = bounded_cons how r s t xs (f t v) u there w (h t v) j e

bounded_ask : (how : StreamOperation) (r s : ℕ) (us : List Token) (xs : ℕ → List Token) (f : Token → ℕ → List Tick) (u : Tick) → us ≡ xs r → IsWait s u → ((t : Token) (v j : ℕ) → slice_get (f t v) j ≡ Some u → length (flat_map (take_from s) (take j (f t v))) < length (lists_after how r xs s)) → (j : ℕ) → slice_get (on_offer (first_offer how us) [] [] (λ t v. tick_of how r t ∷ f t v)) j ≡ Some u → length (flat_map (take_from s) (take j (on_offer (first_offer how us) [] [] (λ t v. tick_of how r t ∷ f t v)))) < length (xs s)
bounded_ask how r s [] xs f u eu w h j e = cc
bounded_ask how r s (x ∷ us) xs f u eu w h j e = bounded_found how r s (judge_token how x) xs f u (subst (λ l. 0 < length l) eu (omega arith)) w h j e

bounded_none : (s : ℕ) (x u : Tick) (xs : ℕ → List Token) → IsWait s u → (IsWait s x → ⊥) → x ≡ u → length {A = Token} [] < length (xs s)
bounded_none s x u xs w d e = absurd (d (subst (IsWait s) (sym e) w))

pub bounded : (a : Behavior) (xs : ℕ → List Token) (s : ℕ) (u : Tick) → IsWait s u → (j : ℕ) → slice_get (ticks a xs) j ≡ Some u → length (flat_map (take_from s) (take j (ticks a xs))) < length (xs s)
bounded Finished xs s u w zero e = bounded_none s End u xs w (λ q. q) (cc)
bounded Finished xs s u w (suc j) e = cc
bounded OutOfTurns xs s u w j e = cc
bounded (Act a rest) xs s u w zero e = bounded_none s (Did a) u xs w (λ q. q) (cc)
bounded (Act a rest) xs s u w (suc j) e = bounded rest xs s u w j e
bounded (Await r how rest) xs s u w j e =
    bounded_ask how r s (xs r) xs (λ t v. ticks (rest v) (lists_after how r xs)) u refl w
    (λ t v j' e'. bounded (rest v) (lists_after how r xs) s u w j' e') j e

-- what is found on the tokens that are written has its token
token_here : (net : Network) (k : ℕ → ℕ) (i : ℕ) (ts : List Tick) → take (k i) ts ≡ ticks_made net k i → (t : Tick) → OwnTick net.producer net.consumer i t → ((s : ℕ) → IsWait s t → length (flat_map (take_from s) (take (k i) ts)) < length (written net k s)) → HasToken net k t
token_here net k i ts same (Did a) own h = tt
token_here net k i ts same (Take s t) own h =
    let a : flat_map (take_from s) (take (k i) ts) ≡ taken net k s = ap (flat_map (take_from s)) (same ∙ ap (ticks_made net k) (sym own)) in
    let b = ap length a in let c = h s refl in omega arith
token_here net k i ts same (See s t) own h =
    let a : flat_map (take_from s) (take (k i) ts) ≡ taken net k s = ap (flat_map (take_from s)) (same ∙ ap (ticks_made net k) (sym own)) in
    let b = ap length a in let c = h s refl in omega arith
token_here net k i ts same End own h = tt

pub here_is_fed : (net : Network) → IsNetwork net → (k : ℕ → ℕ) → IsFounded net k → (n i : ℕ) (t : Tick) → i < net.size → slice_get (ticks (net.job i n) (written net k)) (k i) ≡ Some t → (next net k i ≡ Some t) × HasToken net k t
here_is_fed net ok k r n i t inside e =
    let q = total net.size k in
    let h = full net ok k r in
    let big = suc (q + n) in
    let ts = ticks (net.job i n) (written net k) in
    let us = round net big i in
    let more : Grows (written net k) (stream net (q + n)) = λ s. prefix_trans _ _ _ (written_in net ok k h s) (stream_le net ok q (q + n) (omega arith) s) in
    let pre : IsPrefixOf ts us = ticks_grow _ _ (written net k) (stream net (q + n)) (ok.grows i n big (omega arith)) more in
    let at : slice_get us (k i) ≡ Some t = prefix_get ts us (k i) t pre e in
    let own = own_round net ok big i (k i) t at in
    let in_us : IsPrefixOf (ticks_made net k i) (take (k i) us) = prefix_take (k i) (k i) _ us (omega arith) (round_le net ok (suc q) big (omega arith) i) in
    let lu = length-take (k i) us in
    let same1 : ticks_made net k i ≡ take (k i) us = prefix_whole _ _ in_us (omega (arith, all_made net ok k r i)) in
    let there : k i < length ts = slice_get_within ts (k i) t e in
    let lt = length-take-le (k i) ts (omega arith) in
    let same2 : take (k i) ts ≡ take (k i) us = prefix_whole _ _ (prefix_take (k i) (k i) ts us (omega arith) pre) (omega arith) in
    let tok : HasToken net k t = token_here net k i ts (same2 ∙ sym same1) t own (λ s w. bounded (net.job i n) (written net k) s t w (k i) e) in
    (next_in_time net ok k r big i t inside at tok, tok)
