-- What the end of a job says of its ticks on longer lists.
use Rattle.std.proofs.Common.{◌≡◌, ℕ, zero, suc, pred, ◌<◌, ◌≤◌, List, [], ◌∷◌, ◌++◌, length, drop, Some, refl, sym, ap, subst, arith, length-append, length-drop}
use Rattle.std.specs.Prelude.{◌==◌, slice_get, flat_map, if◌then◌else◌}
use Rattle.std.proofs.lemmas.Bool.Decides.{nat_tests}
use Rattle.tapa_base.specs.declared.token.Token.{Token}
use Rattle.tapa_base.specs.declared.token.Token.TheVariants.{Datum, Eot}
use Rattle.kahn_model.specs.Prefix.{IsPrefixOf}
use Rattle.kahn_model.specs.Behavior.{Tick, Did, Take, See, End, TraceEnd, Ended, Needs, Bad, Turns, StreamOperation, Read, Peek, TestEot, Open, Behavior, Finished, OutOfTurns, Act, Await, Offer, NoToken, WrongToken, Answer, judge_token, first_offer, tick_of, lists_after, on_offer, ticks, trace_end, Extends, Lasts}
use Rattle.kahn_model.specs.Network.{take_from}
use Rattle.kahn_model.proofs.Grow.{Grows, after_grows}

-- the tick takes or sees a token of s
abbrev pub IsWait : ℕ → Tick → Type 0
IsWait s (Did a) = ⊥
IsWait s (Take r t) = r ≡ s
IsWait s (See r t) = r ≡ s
IsWait s End = ⊥

-- ts are the ticks on the lists xs, and us those of a job that extends it, on longer lists
abbrev pub IsLate : TraceEnd → List Tick → List Tick → (ℕ → List Token) → ℕ → Type 0
IsLate Ended ts us xs n = us ≡ ts
IsLate (Bad s) ts us xs n = us ≡ ts
IsLate (Needs s) ts us xs n =
    (length (flat_map (take_from s) ts) ≡ length (xs s)) × ((t : Tick) → slice_get us (length ts) ≡ Some t → IsWait s t)
IsLate Turns ts us xs n = n ≤ length ts

-- one more tick in front
late_cons : (m : TraceEnd) (x : Tick) (ts us : List Tick) (xs ys : ℕ → List Token) (n : ℕ) → ((s : ℕ) → length (flat_map (take_from s) ts) ≡ length (ys s) → length (take_from s x ++ flat_map (take_from s) ts) ≡ length (xs s)) → IsLate m ts us ys (pred n) → IsLate m (x ∷ ts) (x ∷ us) xs n
late_cons Ended x ts us xs ys n h l = ap (λ v. x ∷ v) l
late_cons (Bad s) x ts us xs ys n h l = ap (λ v. x ∷ v) l
late_cons (Needs s) x ts us xs ys n h (e, w) = (h s e, w)
late_cons Turns x ts us xs ys n h l = omega arith

took_front : (s r : ℕ) (t : Token) (f l : List Token) → (s ≡ r → 0 < length l) → length f ≡ length (if s == r then drop 1 l else l) → length ((if s == r then t ∷ [] else []) ++ f) ≡ length l
took_front s r t f l h e = grind (arith, nat_tests, length-append {A = Token}, length-drop {A = Token})

took_by : (how : StreamOperation) (s : ℕ) (t : Token) (xs : ℕ → List Token) → 0 < length (xs s) → (ts : List Tick) (r : ℕ) → length (flat_map (take_from r) ts) ≡ length (lists_after how s xs r) → length (take_from r (tick_of how s t) ++ flat_map (take_from r) ts) ≡ length (xs r)
took_by Read s t xs h ts r e = took_front s r t _ (xs r) (λ q. subst (λ z. 0 < length (xs z)) q h) e
took_by Peek s t xs h ts r e = e
took_by TestEot s t xs h ts r e = e
took_by Open s t xs h ts r e = took_front s r t _ (xs r) (λ q. subst (λ z. 0 < length (xs z)) q h) e

wait_tick : (how : StreamOperation) (s : ℕ) (t : Token) → IsWait s (tick_of how s t)
wait_tick Read s t = refl
wait_tick Peek s t = refl
wait_tick TestEot s t = refl
wait_tick Open s t = refl

-- where nothing was there, the next tick is the one that waits
wait_found : (how : StreamOperation) (s : ℕ) (o : Offer) (f : Token → ℕ → List Tick) (t : Tick) → slice_get (on_offer o [] [] (λ u v. tick_of how s u ∷ f u v)) 0 ≡ Some t → IsWait s t
wait_found how s NoToken f t e = cc
wait_found how s WrongToken f t e = cc
wait_found how s (Answer u v) f t e = let same : tick_of how s u ≡ t = cc in subst (IsWait s) same (wait_tick how s u)

late_judged : (how : StreamOperation) (s : ℕ) (o : Offer) (xs : ℕ → List Token) (n : ℕ) (m : Token → ℕ → TraceEnd) (f g : Token → ℕ → List Tick) → 0 < length (xs s) → ((t : Token) (v : ℕ) → IsLate (m t v) (f t v) (g t v) (lists_after how s xs) (pred n)) → (NoToken ≡ o → ⊥) → IsLate (on_offer o (Needs s) (Bad s) m) (on_offer o [] [] (λ t v. tick_of how s t ∷ f t v)) (on_offer o [] [] (λ t v. tick_of how s t ∷ g t v)) xs n
late_judged how s NoToken xs n m f g h l never = absurd (never refl)
late_judged how s WrongToken xs n m f g h l never = refl
late_judged how s (Answer t v) xs n m f g h l never = late_cons (m t v) (tick_of how s t) (f t v) (g t v) xs (lists_after how s xs) n (took_by how s t xs h (f t v)) (l t v)

never_nothing : (how : StreamOperation) (t : Token) → NoToken ≡ judge_token how t → ⊥
never_nothing Read (Datum v) e = cc
never_nothing Read Eot e = cc
never_nothing Peek (Datum v) e = cc
never_nothing Peek Eot e = cc
never_nothing TestEot (Datum v) e = cc
never_nothing TestEot Eot e = cc
never_nothing Open (Datum v) e = cc
never_nothing Open Eot e = cc

-- an operation on stream s, where the lists there are us, and later vs
late_ask : (how : StreamOperation) (s : ℕ) (us vs : List Token) (xs : ℕ → List Token) (n : ℕ) (m : Token → ℕ → TraceEnd) (f g : Token → ℕ → List Tick) → us ≡ xs s → IsPrefixOf us vs → ((t : Token) (v : ℕ) → IsLate (m t v) (f t v) (g t v) (lists_after how s xs) (pred n)) → IsLate (on_offer (first_offer how us) (Needs s) (Bad s) m) (on_offer (first_offer how us) [] [] (λ t v. tick_of how s t ∷ f t v)) (on_offer (first_offer how vs) [] [] (λ t v. tick_of how s t ∷ g t v)) xs n
late_ask how s [] vs xs n m f g e p l = (ap length e, wait_found how s (first_offer how vs) g)
late_ask how s (x ∷ us) [] xs n m f g e p l = absurd p
late_ask how s (x ∷ us) (y ∷ vs) xs n m f g e (q, p) l =
    subst (λ z. IsLate (on_offer (judge_token how x) (Needs s) (Bad s) m) (on_offer (judge_token how x) [] [] (λ t v. tick_of how s t ∷ f t v)) (on_offer (judge_token how z) [] [] (λ t v. tick_of how s t ∷ g t v)) xs n) q
    (late_judged how s (judge_token how x) xs n m f g (subst (λ l. 0 < length l) e (omega arith)) l (never_nothing how x))

pub late : (a b : Behavior) (xs ys : ℕ → List Token) (n : ℕ) → Extends a b → Grows xs ys → Lasts a n → IsLate (trace_end a xs) (ticks a xs) (ticks b ys) xs n
late Finished b xs ys n e p l = subst (λ t. ticks t ys ≡ ticks Finished xs) (sym e) refl
late OutOfTurns b xs ys n e p l = omega arith
late (Act a rest) b xs ys n (rest', e, h) p l =
    subst (λ t. IsLate (trace_end rest xs) (Did a ∷ ticks rest xs) (ticks t ys) xs n) (sym e)
    (late_cons (trace_end rest xs) (Did a) (ticks rest xs) (ticks rest' ys) xs xs n (λ s q. q) (late rest rest' xs ys (pred n) h p l))
late (Await s how rest) b xs ys n (rest', e, h) p l =
    subst (λ t. IsLate (trace_end (Await s how rest) xs) (ticks (Await s how rest) xs) (ticks t ys) xs n) (sym e)
    (late_ask how s (xs s) (ys s) xs n (λ t v. trace_end (rest v) (lists_after how s xs)) (λ t v. ticks (rest v) (lists_after how s xs)) (λ t v. ticks (rest' v) (lists_after how s ys)) refl (p s)
    (λ t v. late (rest v) (rest' v) (lists_after how s xs) (lists_after how s ys) (pred n) (h v) (after_grows how s xs ys p) (l v)))

-- a job that has ended does nothing more, and End is its last tick
ended_cons : (x : Tick) (ts : List Tick) → (x ≡ End → ⊥) → ((j : ℕ) → slice_get ts j ≡ Some End → length ts ≡ suc j) → (j : ℕ) → slice_get (x ∷ ts) j ≡ Some End → length (x ∷ ts) ≡ suc j
ended_cons x ts d h zero e = absurd (d (cc))
ended_cons x ts d h (suc j) e = ap suc (h j e)

ended_found : (how : StreamOperation) (s : ℕ) (o : Offer) (f : Token → ℕ → List Tick) → ((t : Token) (v j : ℕ) → slice_get (f t v) j ≡ Some End → length (f t v) ≡ suc j) → (j : ℕ) → slice_get (on_offer o [] [] f) j ≡ Some End → length (on_offer o [] [] f) ≡ suc j
ended_found how s NoToken f h j e = cc
ended_found how s WrongToken f h j e = cc
ended_found how s (Answer t v) f h j e = h t v j e

pub no_end : (how : StreamOperation) (s : ℕ) (t : Token) → tick_of how s t ≡ End → ⊥
no_end Read s t e = cc
no_end Peek s t e = cc
no_end TestEot s t e = cc
no_end Open s t e = cc

pub end_last : (a : Behavior) (xs : ℕ → List Token) (j : ℕ) → slice_get (ticks a xs) j ≡ Some End → length (ticks a xs) ≡ suc j
end_last Finished xs zero e = refl
end_last Finished xs (suc j) e = cc
end_last OutOfTurns xs j e = cc
end_last (Act a rest) xs j e = ended_cons (Did a) (ticks rest xs) (λ q. cc) (end_last rest xs) j e
end_last (Await s how rest) xs j e =
    ended_found how s (first_offer how (xs s)) _ (λ t v. ended_cons (tick_of how s t) _ (no_end how s t) (end_last (rest v) (lists_after how s xs))) j e
