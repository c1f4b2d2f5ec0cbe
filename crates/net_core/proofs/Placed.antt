-- A job at the streams of its instance.
use Rattle.std.proofs.Common.{◌≡◌, ℕ, zero, suc, ◌<◌, List, [], ◌∷◌, ◌++◌, length, map, drop, Some, ◌&&◌, refl, sym, ap, ◌∙◌, subst, ⊎_elim, arith}
use Rattle.std.specs.Prelude.{◌==◌, slice_get, flat_map, if◌then◌else◌}
use Rattle.std.proofs.lemmas.Bool.{cases_eq}
use Rattle.tapa_base.specs.declared.token.Token.{Token}
use Rattle.kahn_model.specs.declared.tick.Action.TheVariants.{Local, Put, Load, Store}
use Rattle.kahn_model.specs.declared.tick.Tick.{Tick}
use Rattle.kahn_model.specs.declared.tick.Tick.TheVariants.{Did, Take, See, End}
use Rattle.kahn_model.specs.declared.tick.TraceEnd.{TraceEnd}
use Rattle.kahn_model.specs.declared.tick.TraceEnd.TheVariants.{Needs, Bad}
use Rattle.kahn_model.specs.declared.tick.StreamOperation.{StreamOperation}
use Rattle.kahn_model.specs.declared.tick.StreamOperation.TheVariants.{Read, Peek, TestEot, Open}
use Rattle.kahn_model.specs.Prefix.{IsPrefixOf}
use Rattle.kahn_model.specs.Behavior.{Behavior, Finished, OutOfTurns, Act, Await, Offer, NoToken, WrongToken, Answer, first_offer, takes, tick_of, lists_after, on_offer, ticks, trace_end}
use Rattle.kahn_model.specs.Network.{Owns, put_on, take_from}
use Rattle.kahn_model.specs.Trace.{act_at, at_streams}
use Rattle.net_core.specs.Placement.{tick_at, trace_end_at, AsksAt, IsAt, TickAt, AreAt}
use Rattle.tapa_base.proofs.Tests.{eq_same as same_test}

found_ticks : (F : Tick → Tick) (o : Offer) (g h : Token → ℕ → List Tick) → ((t : Token) (v : ℕ) → g t v ≡ map F (h t v)) → on_offer o [] [] g ≡ map F (on_offer o [] [] h)
found_ticks F NoToken g h e = refl
found_ticks F WrongToken g h e = refl
found_ticks F (Answer t v) g h e = e t v

found_trace_end : (F : TraceEnd → TraceEnd) (o : Offer) (a b : TraceEnd) (g h : Token → ℕ → TraceEnd) → ((t : Token) (v : ℕ) → g t v ≡ F (h t v)) → on_offer o (F a) (F b) g ≡ F (on_offer o a b h)
found_trace_end F NoToken a b g h e = refl
found_trace_end F WrongToken a b g h e = refl
found_trace_end F (Answer t v) a b g h e = e t v

pub tick_placed : (f : ℕ → ℕ) (how : StreamOperation) (p : ℕ) (t : Token) → tick_of how (f p) t ≡ tick_at f (tick_of how p t)
tick_placed f Read p t = refl
tick_placed f Peek p t = refl
tick_placed f TestEot p t = refl
tick_placed f Open p t = refl

lists_placed : (D : ℕ → Type 0) (f : ℕ → ℕ) (inj : (p q : ℕ) → D p → D q → f p ≡ f q → p ≡ q) (how : StreamOperation) (p : ℕ) → D p → (xs ys : ℕ → List Token) → ((q : ℕ) → D q → ys q ≡ xs (f q)) → (q : ℕ) → D q → lists_after how p ys q ≡ lists_after how (f p) xs (f q)
lists_placed D f inj how p dp xs ys h q dq =
    let b = same_test p q (f p) (f q) (λ e. ap f e) (inj p q dp dq) in
    ap (λ c. if takes how && c then drop 1 (ys q) else ys q) b
    ∙ ap (λ l. if takes how && f p == f q then drop 1 l else l) (h q dq)

pub placed_ticks : (D : ℕ → Type 0) (f : ℕ → ℕ) (inj : (p q : ℕ) → D p → D q → f p ≡ f q → p ≡ q) (a : Behavior) (xs ys : ℕ → List Token) → AsksAt D a → ((q : ℕ) → D q → ys q ≡ xs (f q)) → ticks (at_streams f a) xs ≡ map (tick_at f) (ticks a ys)
placed_ticks D f inj Finished xs ys d h = refl
placed_ticks D f inj OutOfTurns xs ys d h = refl
placed_ticks D f inj (Act a rest) xs ys d h = ap (λ l. Did (act_at f a) ∷ l) (placed_ticks D f inj rest xs ys d h)
placed_ticks D f inj (Await p how rest) xs ys (dp, d) h =
    ap (λ l. on_offer (first_offer how l) [] [] (λ t v. tick_of how (f p) t ∷ ticks (at_streams f (rest v)) (lists_after how (f p) xs))) (sym (h p dp))
    ∙ found_ticks (tick_at f) (first_offer how (ys p)) _ (λ t v. tick_of how p t ∷ ticks (rest v) (lists_after how p ys))
    (λ t v. ap (λ x. x ∷ ticks (at_streams f (rest v)) (lists_after how (f p) xs)) (tick_placed f how p t)
    ∙ ap (λ l. tick_at f (tick_of how p t) ∷ l) (placed_ticks D f inj (rest v) (lists_after how (f p) xs) (lists_after how p ys) (d v) (lists_placed D f inj how p dp xs ys h)))

pub placed_trace_end : (D : ℕ → Type 0) (f : ℕ → ℕ) (inj : (p q : ℕ) → D p → D q → f p ≡ f q → p ≡ q) (a : Behavior) (xs ys : ℕ → List Token) → AsksAt D a → ((q : ℕ) → D q → ys q ≡ xs (f q)) → trace_end (at_streams f a) xs ≡ trace_end_at f (trace_end a ys)
placed_trace_end D f inj Finished xs ys d h = refl
placed_trace_end D f inj OutOfTurns xs ys d h = refl
placed_trace_end D f inj (Act a rest) xs ys d h = placed_trace_end D f inj rest xs ys d h
placed_trace_end D f inj (Await p how rest) xs ys (dp, d) h =
    ap (λ l. on_offer (first_offer how l) (Needs (f p)) (Bad (f p)) (λ t v. trace_end (at_streams f (rest v)) (lists_after how (f p) xs))) (sym (h p dp))
    ∙ found_trace_end (trace_end_at f) (first_offer how (ys p)) (Needs p) (Bad p) _ (λ t v. trace_end (rest v) (lists_after how p ys))
    (λ t v. placed_trace_end D f inj (rest v) (lists_after how (f p) xs) (lists_after how p ys) (d v) (lists_placed D f inj how p dp xs ys h))

-- a job looks at its own lists alone
found_same : {A : Type 0} (o : Offer) (a b : A) (g h : Token → ℕ → A) → ((t : Token) (v : ℕ) → g t v ≡ h t v) → on_offer o a b g ≡ on_offer o a b h
found_same NoToken a b g h e = refl
found_same WrongToken a b g h e = refl
found_same (Answer t v) a b g h e = e t v

lists_same : (D : ℕ → Type 0) (how : StreamOperation) (r : ℕ) (xs ys : ℕ → List Token) → ((s : ℕ) → D s → xs s ≡ ys s) → (s : ℕ) → D s → lists_after how r xs s ≡ lists_after how r ys s
lists_same D how r xs ys h s e = ap (λ l. if takes how && r == s then drop 1 l else l) (h s e)

pub asks_ticks : (D : ℕ → Type 0) (a : Behavior) (xs ys : ℕ → List Token) → AsksAt D a → ((s : ℕ) → D s → xs s ≡ ys s) → ticks a xs ≡ ticks a ys
asks_ticks D Finished xs ys o h = refl
asks_ticks D OutOfTurns xs ys o h = refl
asks_ticks D (Act a rest) xs ys o h = ap (λ l. Did a ∷ l) (asks_ticks D rest xs ys o h)
asks_ticks D (Await s how rest) xs ys (o, os) h =
    ap (λ l. on_offer (first_offer how l) [] [] (λ t v. tick_of how s t ∷ ticks (rest v) (lists_after how s xs))) (h s o)
    ∙ found_same (first_offer how (ys s)) [] [] _ (λ t v. tick_of how s t ∷ ticks (rest v) (lists_after how s ys))
    (λ t v. ap (λ l. tick_of how s t ∷ l) (asks_ticks D (rest v) (lists_after how s xs) (lists_after how s ys) (os v) (lists_same D how s xs ys h)))

pub asks_trace_end : (D : ℕ → Type 0) (a : Behavior) (xs ys : ℕ → List Token) → AsksAt D a → ((s : ℕ) → D s → xs s ≡ ys s) → trace_end a xs ≡ trace_end a ys
asks_trace_end D Finished xs ys o h = refl
asks_trace_end D OutOfTurns xs ys o h = refl
asks_trace_end D (Act a rest) xs ys o h = asks_trace_end D rest xs ys o h
asks_trace_end D (Await s how rest) xs ys (o, os) h =
    ap (λ l. on_offer (first_offer how l) (Needs s) (Bad s) (λ t v. trace_end (rest v) (lists_after how s xs))) (h s o)
    ∙ found_same (first_offer how (ys s)) (Needs s) (Bad s) _ (λ t v. trace_end (rest v) (lists_after how s ys))
    (λ t v. asks_trace_end D (rest v) (lists_after how s xs) (lists_after how s ys) (os v) (lists_same D how s xs ys h))

owns_asks : (p c : ℕ → ℕ) (i : ℕ) (a : Behavior) → Owns p c i a → AsksAt (λ s. c s ≡ i) a
owns_asks p c i Finished o = tt
owns_asks p c i OutOfTurns o = tt
owns_asks p c i (Act a rest) (o, os) = owns_asks p c i rest os
owns_asks p c i (Await s how rest) (o, os) = (o, λ v. owns_asks p c i (rest v) (os v))

pub ticks_own : (p c : ℕ → ℕ) (i : ℕ) (a : Behavior) (xs ys : ℕ → List Token) → Owns p c i a → ((s : ℕ) → c s ≡ i → xs s ≡ ys s) → ticks a xs ≡ ticks a ys
ticks_own p c i a xs ys o h = asks_ticks (λ s. c s ≡ i) a xs ys (owns_asks p c i a o) h

pub trace_end_own : (p c : ℕ → ℕ) (i : ℕ) (a : Behavior) (xs ys : ℕ → List Token) → Owns p c i a → ((s : ℕ) → c s ≡ i → xs s ≡ ys s) → trace_end a xs ≡ trace_end a ys
trace_end_own p c i a xs ys o h = asks_trace_end (λ s. c s ≡ i) a xs ys (owns_asks p c i a o) h

-- each tick of a job is at its ports
ticks_found : (R W : ℕ → Type 0) (o : Offer) (g : Token → ℕ → List Tick) → ((t : Token) (v : ℕ) → AreAt R W (g t v)) → AreAt R W (on_offer o [] [] g)
ticks_found R W NoToken g h = tt
ticks_found R W WrongToken g h = tt
ticks_found R W (Answer t v) g h = h t v

tick_asks : (R W : ℕ → Type 0) (how : StreamOperation) (p : ℕ) (t : Token) → R p → TickAt R W (tick_of how p t)
tick_asks R W Read p t r = r
tick_asks R W Peek p t r = r
tick_asks R W TestEot p t r = r
tick_asks R W Open p t r = r

pub ticks_at : (R W : ℕ → Type 0) (a : Behavior) (xs : ℕ → List Token) → IsAt R W a → AreAt R W (ticks a xs)
ticks_at R W Finished xs d = (tt, tt)
ticks_at R W OutOfTurns xs d = tt
ticks_at R W (Act a rest) xs (d, ds) = (d, ticks_at R W rest xs ds)
ticks_at R W (Await p how rest) xs (d, ds) =
    ticks_found R W (first_offer how (xs p)) (λ t v. tick_of how p t ∷ ticks (rest v) (lists_after how p xs)) (λ t v. (tick_asks R W how p t d, ticks_at R W (rest v) (lists_after how p xs) (ds v)))

pub at_asks : (R W : ℕ → Type 0) (a : Behavior) → IsAt R W a → AsksAt R a
at_asks R W Finished d = tt
at_asks R W OutOfTurns d = tt
at_asks R W (Act a rest) (d, ds) = at_asks R W rest ds
at_asks R W (Await p how rest) (d, ds) = (d, λ v. at_asks R W (rest v) (ds v))

pub are_prefix : (R W : ℕ → Type 0) (ts us : List Tick) → IsPrefixOf ts us → AreAt R W us → AreAt R W ts
are_prefix R W [] us p a = tt
are_prefix R W (t ∷ ts) [] p a = absurd p
are_prefix R W (t ∷ ts) (u ∷ us) (e, p) (a, as') = (subst (TickAt R W) (sym e) a, are_prefix R W ts us p as')

-- what ticks take and put at a port is what they take and put on its stream
take_same : (R W : ℕ → Type 0) (f : ℕ → ℕ) (inj : (p q : ℕ) → R p → R q → f p ≡ f q → p ≡ q) (t : Tick) (p : ℕ) → R p → TickAt R W t → take_from (f p) (tick_at f t) ≡ take_from p t
take_same R W f inj (Did a) p r d = refl
take_same R W f inj (Take q t) p r d = ap (λ b. if b then t ∷ [] else []) (same_test (f q) (f p) q p (inj q p d r) (λ e. ap f e))
take_same R W f inj (See q t) p r d = refl
take_same R W f inj End p r d = refl

pub takes_same : (R W : ℕ → Type 0) (f : ℕ → ℕ) (inj : (p q : ℕ) → R p → R q → f p ≡ f q → p ≡ q) (ts : List Tick) (p : ℕ) → R p → AreAt R W ts → flat_map (take_from (f p)) (map (tick_at f) ts) ≡ flat_map (take_from p) ts
takes_same R W f inj [] p r d = refl
takes_same R W f inj (t ∷ ts) p r (d, ds) =
    ap (λ l. l ++ flat_map (take_from (f p)) (map (tick_at f) ts)) (take_same R W f inj t p r d)
    ∙ ap (λ l. take_from p t ++ l) (takes_same R W f inj ts p r ds)

put_same : (R W : ℕ → Type 0) (f : ℕ → ℕ) (inj : (p q : ℕ) → W p → W q → f p ≡ f q → p ≡ q) (t : Tick) (p : ℕ) → W p → TickAt R W t → put_on (f p) (tick_at f t) ≡ put_on p t
put_same R W f inj (Did (Put q t)) p w d = ap (λ b. if b then t ∷ [] else []) (same_test (f q) (f p) q p (inj q p d w) (λ e. ap f e))
put_same R W f inj (Did Local) p w d = refl
put_same R W f inj (Did (Load a b)) p w d = refl
put_same R W f inj (Did (Store a b c)) p w d = refl
put_same R W f inj (Take q t) p w d = refl
put_same R W f inj (See q t) p w d = refl
put_same R W f inj End p w d = refl

pub puts_same : (R W : ℕ → Type 0) (f : ℕ → ℕ) (inj : (p q : ℕ) → W p → W q → f p ≡ f q → p ≡ q) (ts : List Tick) (p : ℕ) → W p → AreAt R W ts → flat_map (put_on (f p)) (map (tick_at f) ts) ≡ flat_map (put_on p) ts
puts_same R W f inj [] p w d = refl
puts_same R W f inj (t ∷ ts) p w (d, ds) =
    ap (λ l. l ++ flat_map (put_on (f p)) (map (tick_at f) ts)) (put_same R W f inj t p w d)
    ∙ ap (λ l. put_on p t ++ l) (puts_same R W f inj ts p w ds)

-- a stream on which something is put is at a port
put_none : (s r : ℕ) (t : Token) (ts : List Token) → (r ≡ s → ⊥) → (if r == s then t ∷ [] else []) ++ ts ≡ ts
put_none s r t ts d = let x = same_test r s 0 1 (λ e. absurd (d e)) (λ e. absurd (cc)) in ap (λ b. (if b then t ∷ [] else []) ++ ts) x

pub put_found : (R W : ℕ → Type 0) (f : ℕ → ℕ) (ts : List Tick) (s : ℕ) → AreAt R W ts → 0 < length (flat_map (put_on s) (map (tick_at f) ts)) → (p : ℕ) × W p × (f p ≡ s)
put_found R W f [] s d h = absurd (omega arith)
put_found R W f (Did (Put q t) ∷ ts) s (d, ds) h =
    ⊎_elim
    (λ (e : f q ≡ s). (q, d, e))
    (λ (e : f q ≡ s → ⊥). put_found R W f ts s ds (subst (λ (l : List Token). 0 < length l) (put_none s (f q) t (flat_map (put_on s) (map (tick_at f) ts)) e) h))
    (cases_eq (f q) s)
put_found R W f (Did Local ∷ ts) s (d, ds) h = put_found R W f ts s ds h
put_found R W f (Did (Load a b) ∷ ts) s (d, ds) h = put_found R W f ts s ds h
put_found R W f (Did (Store a b c) ∷ ts) s (d, ds) h = put_found R W f ts s ds h
put_found R W f (Take q t ∷ ts) s (d, ds) h = put_found R W f ts s ds h
put_found R W f (See q t ∷ ts) s (d, ds) h = put_found R W f ts s ds h
put_found R W f (End ∷ ts) s (d, ds) h = put_found R W f ts s ds h

pub take_found : (R W : ℕ → Type 0) (f : ℕ → ℕ) (ts : List Tick) (s : ℕ) → AreAt R W ts → 0 < length (flat_map (take_from s) (map (tick_at f) ts)) → (p : ℕ) × R p × (f p ≡ s)
take_found R W f [] s d h = absurd (omega arith)
take_found R W f (Take q t ∷ ts) s (d, ds) h =
    ⊎_elim
    (λ (e : f q ≡ s). (q, d, e))
    (λ (e : f q ≡ s → ⊥). take_found R W f ts s ds (subst (λ (l : List Token). 0 < length l) (put_none s (f q) t (flat_map (take_from s) (map (tick_at f) ts)) e) h))
    (cases_eq (f q) s)
take_found R W f (Did a ∷ ts) s (d, ds) h = take_found R W f ts s ds h
take_found R W f (See q t ∷ ts) s (d, ds) h = take_found R W f ts s ds h
take_found R W f (End ∷ ts) s (d, ds) h = take_found R W f ts s ds h

pub map_prefix : {A B : Type 0} (F : A → B) (xs ys : List A) → IsPrefixOf xs ys → IsPrefixOf (map F xs) (map F ys)
map_prefix F [] ys p = tt
map_prefix F (x ∷ xs) [] p = absurd p
map_prefix F (x ∷ xs) (y ∷ ys) (e, p) = (ap F e, map_prefix F xs ys p)

pub at_get : (R W : ℕ → Type 0) (ts : List Tick) (n : ℕ) (t : Tick) → AreAt R W ts → slice_get ts n ≡ Some t → TickAt R W t
at_get R W [] n t d e = cc
at_get R W (u ∷ ts) zero t (d, ds) e = let q : u ≡ t = cc in subst (TickAt R W) q d
at_get R W (u ∷ ts) (suc n) t (d, ds) e = at_get R W ts n t ds e
