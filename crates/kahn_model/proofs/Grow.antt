-- The ticks of a job grow with its lists and with the tests that its loops may make.
use Rattle.std.proofs.Common.{◌≡◌, ℕ, zero, suc, ◌≤◌, List, [], ◌∷◌, ◌&&◌, refl, sym, subst, arith}
use Rattle.std.specs.Prelude.{◌==◌, flat_map}
use Rattle.tapa_base.specs.declared.token.Token.{Token}
use Rattle.kahn_model.specs.Prefix.{IsPrefixOf}
use Rattle.kahn_model.specs.Behavior.{Tick, Did, End, StreamOperation, Behavior, Finished, OutOfTurns, Act, Await, Offer, NoToken, WrongToken, Answer, judge_token, first_offer, takes, lists_after, on_offer, ticks, Extends}
use Rattle.kahn_model.specs.Network.{Network, IsNetwork, put_on, stream, round}
use Rattle.kahn_model.proofs.Order.{prefix_flat_map, prefix_if}

-- lists that grow, stream by stream
abbrev pub Grows : (ℕ → List Token) → (ℕ → List Token) → Type 0
Grows xs ys = (s : ℕ) → IsPrefixOf (xs s) (ys s)

pub after_grows : (how : StreamOperation) (s : ℕ) (xs ys : ℕ → List Token) → Grows xs ys → Grows (lists_after how s xs) (lists_after how s ys)
after_grows how s xs ys p r = prefix_if (takes how && s == r) 1 (xs r) (ys r) (p r)

found_same : (o : Offer) (f g : Token → ℕ → List Tick) → ((t : Token) (v : ℕ) → IsPrefixOf (f t v) (g t v)) → IsPrefixOf (on_offer o [] [] f) (on_offer o [] [] g)
found_same NoToken f g h = tt
found_same WrongToken f g h = tt
found_same (Answer t v) f g h = h t v

found_grows : (how : StreamOperation) (us vs : List Token) (f g : Token → ℕ → List Tick) → IsPrefixOf us vs → ((t : Token) (v : ℕ) → IsPrefixOf (f t v) (g t v)) → IsPrefixOf (on_offer (first_offer how us) [] [] f) (on_offer (first_offer how vs) [] [] g)
found_grows how [] vs f g p h = tt
found_grows how (x ∷ us) [] f g p h = absurd p
found_grows how (x ∷ us) (y ∷ vs) f g (e, p) h =
    subst (λ z. IsPrefixOf (on_offer (judge_token how x) [] [] f) (on_offer (judge_token how z) [] [] g)) e (found_same (judge_token how x) f g h)

pub ticks_grow : (a b : Behavior) (xs ys : ℕ → List Token) → Extends a b → Grows xs ys → IsPrefixOf (ticks a xs) (ticks b ys)
ticks_grow Finished b xs ys e p = subst (λ t. IsPrefixOf (End ∷ []) (ticks t ys)) (sym e) (refl, tt)
ticks_grow OutOfTurns b xs ys e p = tt
ticks_grow (Act a rest) b xs ys (rest', e, h) p =
    subst (λ t. IsPrefixOf (Did a ∷ ticks rest xs) (ticks t ys)) (sym e) (refl, ticks_grow rest rest' xs ys h p)
ticks_grow (Await s how rest) b xs ys (rest', e, h) p =
    subst (λ t. IsPrefixOf (ticks (Await s how rest) xs) (ticks t ys)) (sym e)
    (found_grows how (xs s) (ys s) _ _ (p s) (λ t v. (refl, ticks_grow (rest v) (rest' v) (lists_after how s xs) (lists_after how s ys) (h v) (after_grows how s xs ys p))))

pub stream_le : (net : Network) → IsNetwork net → (n m : ℕ) → n ≤ m → Grows (stream net n) (stream net m)
stream_le net ok zero m h s = tt
stream_le net ok (suc n) zero h s = absurd (omega arith)
stream_le net ok (suc n) (suc m) h s =
    prefix_flat_map (put_on s) _ _ (ticks_grow _ _ (stream net n) (stream net m) (ok.grows (net.producer s) (suc n) (suc m) h) (stream_le net ok n m (omega arith)))

pub stream_next : (net : Network) → IsNetwork net → (n s : ℕ) → IsPrefixOf (stream net n s) (stream net (suc n) s)
stream_next net ok n s = stream_le net ok n (suc n) (omega arith) s

pub round_le : (net : Network) → IsNetwork net → (n m : ℕ) → n ≤ m → (i : ℕ) → IsPrefixOf (round net n i) (round net m i)
round_le net ok zero m h i = tt
round_le net ok (suc n) zero h i = absurd (omega arith)
round_le net ok (suc n) (suc m) h i =
    ticks_grow _ _ (stream net n) (stream net m) (ok.grows i (suc n) (suc m) h) (stream_le net ok n m (omega arith))

pub stream_is_round : (net : Network) (n s : ℕ) → stream net n s ≡ flat_map (put_on s) (round net n (net.producer s))
stream_is_round net zero s = refl
stream_is_round net (suc n) s = refl
