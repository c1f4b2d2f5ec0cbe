-- What is left of a job after ticks: a behavior, or nothing after its last tick.
use Rattle.std.proofs.Common.{◌≡◌, ℕ, zero, suc, pred, ◌<◌, List, [], ◌∷◌, ◌++◌, length, drop, Bool, true, false, Option, Some, None, refl, sym, ap, ◌∙◌, subst, arith}
use Rattle.std.specs.Prelude.{flat_map, ◌==◌, if◌then◌else◌}
use Rattle.std.proofs.Math.Path.{fun_ext}
use Rattle.tapa_base.specs.declared.token.Token.{Token}
use Rattle.tapa_base.specs.declared.token.Token.TheVariants.{Datum, Eot}
use Rattle.kahn_model.specs.declared.tick.StreamOperation.{StreamOperation}
use Rattle.kahn_model.specs.declared.tick.StreamOperation.TheVariants.{Read, Peek, TestEot}
use Rattle.kahn_model.specs.declared.tick.Tick.{Tick}
use Rattle.kahn_model.specs.declared.tick.Tick.TheVariants.{Did, Take, See}
use Rattle.kahn_model.specs.Prefix.{IsPrefixOf}
use Rattle.kahn_model.specs.Behavior.{Behavior, Finished, OutOfTurns, Act, Await, Offer, NoToken, Answer, judge_token, first_offer, lists_after, on_offer, tick_of, ticks, Lasts}
use Rattle.kahn_model.specs.Network.{take_from}
use Rattle.kahn_model.specs.Trace.{State}
use Rattle.task_fsm.specs.Machine.{StateForm}
use Rattle.task_fsm.specs.Follows.{Follows}

-- what a tick says of the token that an operation found
abbrev pub offer_by : StreamOperation → Tick → Offer
offer_by how (Take s t) = judge_token how t
offer_by how (See s t) = judge_token how t
offer_by how _ = NoToken

abbrev pub after : Behavior → List Tick → Option Behavior
after b [] = Some b
after Finished (x ∷ ts) = None
after OutOfTurns (x ∷ ts) = Some OutOfTurns
after (Act a rest) (x ∷ ts) = after rest ts
after (Await s how rest) (x ∷ ts) = on_offer (offer_by how x) (Some OutOfTurns) (Some OutOfTurns) (λ t v. after (rest v) ts)

abbrev pub ticks_left : Option Behavior → (ℕ → List Token) → List Tick
ticks_left None ins = []
ticks_left (Some b) ins = ticks b ins

-- the lists without what the ticks took
abbrev pub left : List Tick → (ℕ → List Token) → ℕ → List Token
left ts ins p = drop (length (flat_map (take_from p) ts)) (ins p)

-- a machine in this state, which has ended or not, makes the ticks that are left
abbrev pub Continues : List StateForm → ℕ → State → Bool → Option Behavior → Type 0
Continues P pc σ ended None = ended ≡ true
Continues P pc σ ended (Some OutOfTurns) = Unit {0}
Continues P pc σ ended (Some b) = (ended ≡ false) × ((X : List ℕ) × Follows P X b pc σ)

pub still : (P : List StateForm) (X : List ℕ) (b : Behavior) (pc : ℕ) (σ : State) (ended : Bool) → ended ≡ false → Follows P X b pc σ → Continues P pc σ ended (Some b)
still P X OutOfTurns pc σ ended e f = tt
still P X _ pc σ ended e f = (e, (X, f))

-- ---- one more tick

abbrev pub rest_step : Option Behavior → Tick → Option Behavior
rest_step None x = None
rest_step (Some b) x = after b (x ∷ [])

snoc_offer : (o : Offer) (k : ℕ → Behavior) (ts : List Tick) (x : Tick) → ((v : ℕ) → after (k v) (ts ++ x ∷ []) ≡ rest_step (after (k v) ts) x) → on_offer o (Some OutOfTurns) (Some OutOfTurns) (λ t v. after (k v) (ts ++ x ∷ [])) ≡ rest_step (on_offer o (Some OutOfTurns) (Some OutOfTurns) (λ t v. after (k v) ts)) x
snoc_offer (Answer t v) k ts x h = h v
snoc_offer _ k ts x h = refl

pub after_snoc : (b : Behavior) (ts : List Tick) (x : Tick) → after b (ts ++ x ∷ []) ≡ rest_step (after b ts) x
after_snoc b [] x = refl
after_snoc Finished (y ∷ ts) x = refl
after_snoc OutOfTurns (y ∷ ts) x = refl
after_snoc (Act a rest) (y ∷ ts) x = after_snoc rest ts x
after_snoc (Await s how k) (y ∷ ts) x = snoc_offer (offer_by how y) k ts x (λ v. after_snoc (k v) ts x)

offer_of_tick : (how : StreamOperation) (s : ℕ) (t : Token) → offer_by how (tick_of how s t) ≡ judge_token how t
offer_of_tick Read s t = refl
offer_of_tick _ s t = refl

-- the token of an answer is the one that was judged
pub same_token : (how : StreamOperation) (d t : Token) (v : ℕ) → judge_token how d ≡ Answer t v → t ≡ d
same_token Read Eot t v e = cc
same_token Read (Datum w) t v e = cc
same_token _ Eot t v e = cc
same_token _ (Datum w) t v e = cc

pub same_answer : (how : StreamOperation) (d t : Token) (v : ℕ) → judge_token how d ≡ Answer t v → judge_token how t ≡ Answer t v
same_answer how d t v e = ap (judge_token how) (same_token how d t v e) ∙ e

answer_is : (how : StreamOperation) (l : List Token) (t : Token) (v : ℕ) → first_offer how l ≡ Answer t v → judge_token how t ≡ Answer t v
answer_is how [] t v e = cc
answer_is how (d ∷ l) t v e = same_answer how d t v e

found_is : (how : StreamOperation) (s : ℕ) (t : Token) (v : ℕ) → judge_token how t ≡ Answer t v → offer_by how (tick_of how s t) ≡ Answer t v
found_is how s t v j = offer_of_tick how s t ∙ j

-- after the tick of an answer
pub after_answer : (s : ℕ) (how : StreamOperation) (k : ℕ → Behavior) (t : Token) (v : ℕ) → judge_token how t ≡ Answer t v → after (Await s how k) (tick_of how s t ∷ []) ≡ Some (k v)
after_answer s how k t v j = ap (λ o. on_offer o (Some OutOfTurns) (Some OutOfTurns) (λ t v. Some (k v))) (found_is how s t v j)

-- ---- a job that makes ticks makes what is left on the lists that they leave

drop_none : (n : ℕ) (l : List Token) → l ≡ [] → [] ≡ drop n l
drop_none zero l e = sym e
drop_none (suc n) [] e = refl
drop_none (suc n) (t ∷ l) e = cc

drop_one : (n : ℕ) (l : List Token) → drop (suc n) l ≡ drop n (drop 1 l)
drop_one n [] = drop_none n [] refl
drop_one n (t ∷ l) = refl

drop_taken : (b : Bool) (t : Token) (us l : List Token) → drop (length ((if b then t ∷ [] else []) ++ us)) l ≡ drop (length us) (if b then drop 1 l else l)
drop_taken true t us l = drop_one (length us) l
drop_taken false t us l = refl

left_more : (how : StreamOperation) (s : ℕ) (t : Token) (ts : List Tick) (ins : ℕ → List Token) → left (tick_of how s t ∷ ts) ins ≡ left ts (lists_after how s ins)
left_more Peek s t ts ins = refl
left_more TestEot s t ts ins = refl
left_more _ s t ts ins = fun_ext (λ p. drop_taken (s == p) t (flat_map (take_from p) ts) (ins p))

abbrev awaited : StreamOperation → ℕ → (ℕ → Behavior) → (ℕ → List Token) → Offer → List Tick
awaited how s k ins o = on_offer o [] [] (λ t v. tick_of how s t ∷ ticks (k v) (lists_after how s ins))

split_offer : (s : ℕ) (how : StreamOperation) (k : ℕ → Behavior) (x : Tick) (ts : List Tick) (ins : ℕ → List Token) (o : Offer) → first_offer how (ins s) ≡ o → IsPrefixOf (x ∷ ts) (awaited how s k ins o) → ((v : ℕ) → IsPrefixOf ts (ticks (k v) (lists_after how s ins)) → ticks (k v) (lists_after how s ins) ≡ ts ++ ticks_left (after (k v) ts) (left ts (lists_after how s ins))) → awaited how s k ins o ≡ x ∷ (ts ++ ticks_left (after (Await s how k) (x ∷ ts)) (left (x ∷ ts) ins))
split_offer s how k x ts ins (Answer t v) e p h =
    let j = answer_is how (ins s) t v e in
    let y = tick_of how s t in
    subst (λ z. y ∷ ticks (k v) (lists_after how s ins) ≡ z ∷ (ts ++ ticks_left (after (Await s how k) (z ∷ ts)) (left (z ∷ ts) ins))) (sym p.0)
    (ap (λ l. y ∷ l) (h v p.1)
    ∙ ap (λ i. y ∷ (ts ++ ticks_left (after (k v) ts) i)) (sym (left_more how s t ts ins))
    ∙ ap (λ o. y ∷ (ts ++ ticks_left (on_offer o (Some OutOfTurns) (Some OutOfTurns) (λ t v. after (k v) ts)) (left (y ∷ ts) ins))) (sym (found_is how s t v j)))
split_offer s how k x ts ins _ e p h = absurd p

pub split : (b : Behavior) (ts : List Tick) (ins : ℕ → List Token) → IsPrefixOf ts (ticks b ins) → ticks b ins ≡ ts ++ ticks_left (after b ts) (left ts ins)
split b [] ins p = refl
split Finished (x ∷ []) ins p = ap (λ z. z ∷ []) (sym p.0)
split Finished (x ∷ (y ∷ ts)) ins p = absurd p.1
split OutOfTurns (x ∷ ts) ins p = absurd p
split (Act a rest) (x ∷ ts) ins p =
    subst (λ z. Did a ∷ ticks rest ins ≡ z ∷ (ts ++ ticks_left (after rest ts) (left (z ∷ ts) ins))) (sym p.0)
    (ap (λ l. Did a ∷ l) (split rest ts ins p.1))
split (Await s how k) (x ∷ ts) ins p = split_offer s how k x ts ins (first_offer how (ins s)) refl p (λ v q. split (k v) ts (lists_after how s ins) q)

-- ---- a behavior that is not cut

abbrev pub IsAlive : Option Behavior → Type 0
IsAlive (Some OutOfTurns) = ⊥
IsAlive _ = Unit {0}

lasts_offer : (how : StreamOperation) (l : List Token) (s : ℕ) (k : ℕ → Behavior) (x : Tick) (ts : List Tick) (rest : ℕ → List Tick) (o : Offer) → first_offer how l ≡ o → IsPrefixOf (x ∷ ts) (on_offer o [] [] (λ t v. tick_of how s t ∷ rest v)) → ((v : ℕ) → IsPrefixOf ts (rest v) → IsAlive (after (k v) ts)) → IsAlive (on_offer (offer_by how x) (Some OutOfTurns) (Some OutOfTurns) (λ t v. after (k v) ts))
lasts_offer how l s k x ts rest (Answer t v) e p h =
    let j : offer_by how x ≡ Answer t v = ap (offer_by how) p.0 ∙ found_is how s t v (answer_is how l t v e) in
    subst (λ o. IsAlive (on_offer o (Some OutOfTurns) (Some OutOfTurns) (λ t v. after (k v) ts))) (sym j) (h v p.1)
lasts_offer how l s k x ts rest _ e p h = absurd p

pub alive : (b : Behavior) (ts : List Tick) (ins : ℕ → List Token) (n : ℕ) → Lasts b n → IsPrefixOf ts (ticks b ins) → length ts < n → IsAlive (after b ts)
alive OutOfTurns [] ins n l p h = absurd (omega arith)
alive Finished (x ∷ ts) ins n l p h = tt
alive OutOfTurns (x ∷ ts) ins n l p h = absurd p
alive (Act a rest) (x ∷ ts) ins n l p h = alive rest ts ins (pred n) l p.1 (omega arith)
alive (Await s how k) (x ∷ ts) ins n l p h =
    lasts_offer how (ins s) s k x ts (λ v. ticks (k v) (lists_after how s ins)) (first_offer how (ins s)) refl p (λ v q. alive (k v) ts (lists_after how s ins) (pred n) (l v) q (omega arith))
alive _ [] ins n l p h = tt
