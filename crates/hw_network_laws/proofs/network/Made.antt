-- The ticks that an instance has made, as counts grow.
use Rattle.std.proofs.Common.{◌≡◌, ℕ, zero, suc, ◌≤◌, List, [], ◌∷◌, ◌++◌, take, Some, sym, ap, ◌∙◌, subst, arith, length-take}
use Rattle.std.specs.Prelude.{slice_get, flat_map}
use Rattle.std.proofs.lemmas.List.{length-take-le, append-nil}
use Rattle.std.proofs.lemmas.Grind.{flat_map-append}
use Rattle.kahn_model.specs.declared.tick.Tick.{Tick}
use Rattle.kahn_model.specs.Prefix.{IsPrefixOf}
use Rattle.kahn_model.specs.Network.{Network, IsNetwork, put_on, take_from, round}
use Rattle.kahn_model.specs.Counts.{round_of, ticks_made, written, taken, next, IsFounded}
use Rattle.kahn_model.proofs.Order.{prefix_take, take_prefix, prefix_whole, prefix_get}
use Rattle.kahn_model.proofs.Grow.{round_le}
use Rattle.kahn_model.proofs.Count.{IsBelow, total_grows, made_le}
use Rattle.kahn_model.proofs.Reach.{full, all_made}
use Rattle.kahn_model.proofs.Local.{here, here_prefix, here_all}

-- they begin the job's ticks on what is written
pub made_here : (net : Network) → IsNetwork net → (k : ℕ → ℕ) → IsFounded net k → (i : ℕ) → IsPrefixOf (ticks_made net k i) (here net k i)
made_here net ok k r i =
    let ts = here net k i in
    let us = round net (round_of net k) i in
    let all = here_all net ok k r i in
    let pre = prefix_take (k i) (k i) ts us (omega arith) (here_prefix net ok k (full net ok k r) i) in
    let lt = length-take-le (k i) ts all in
    let lu = length-take (k i) us in
    let same : take (k i) ts ≡ ticks_made net k i = prefix_whole _ _ pre (omega arith) in
    subst (λ l. IsPrefixOf l ts) same (take_prefix (k i) ts)

pub take_more : {A : Type 0} (l : List A) (j : ℕ) (x : A) → slice_get l j ≡ Some x → take (suc j) l ≡ take j l ++ x ∷ []
take_more [] j x e = cc
take_more (y ∷ l) zero x e = let q : y ≡ x = cc in ap (λ z. z ∷ []) q
take_more (y ∷ l) (suc j) x e = ap (λ z. y ∷ z) (take_more l j x e)

-- one more
pub made_more : (net : Network) → IsNetwork net → (k m : ℕ → ℕ) → IsBelow k m → IsFounded net k → IsFounded net m → (i : ℕ) (t : Tick) → m i ≡ suc (k i) → next net k i ≡ Some t → ticks_made net m i ≡ ticks_made net k i ++ t ∷ []
made_more net ok k m h rk rm i t e n =
    let us = round net (round_of net m) i in
    let le : round_of net k ≤ round_of net m = let t = total_grows net.size k m h in omega arith in
    let pre = round_le net ok (round_of net k) (round_of net m) le i in
    let at : slice_get us (k i) ≡ Some t = prefix_get _ us (k i) t pre n in
    let lk = all_made net ok k rk i in
    let lu = length-take (k i) us in
    let same : ticks_made net k i ≡ take (k i) us = prefix_whole _ _ (prefix_take (k i) (k i) _ us (omega arith) pre) (omega arith) in
    ap (λ j. take j us) e ∙ take_more us (k i) t at ∙ ap (λ l. l ++ t ∷ []) (sym same)

-- or none
pub made_stay : (net : Network) → IsNetwork net → (k m : ℕ → ℕ) → IsBelow k m → IsFounded net k → IsFounded net m → (i : ℕ) → m i ≡ k i → ticks_made net m i ≡ ticks_made net k i
made_stay net ok k m h rk rm i e =
    let lk = all_made net ok k rk i in
    let lm = all_made net ok m rm i in
    sym (prefix_whole _ _ (made_le net ok k m h i) (omega arith))

pub written_more : (net : Network) (k m : ℕ → ℕ) (s : ℕ) (t : Tick) → ticks_made net m (net.producer s) ≡ ticks_made net k (net.producer s) ++ t ∷ [] → written net m s ≡ written net k s ++ put_on s t
written_more net k m s t e =
    ap (flat_map (put_on s)) e ∙ flat_map-append (put_on s) (ticks_made net k (net.producer s)) (t ∷ []) ∙ ap (λ l. written net k s ++ l) (append-nil (put_on s t))

pub taken_more : (net : Network) (k m : ℕ → ℕ) (s : ℕ) (t : Tick) → ticks_made net m (net.consumer s) ≡ ticks_made net k (net.consumer s) ++ t ∷ [] → taken net m s ≡ taken net k s ++ take_from s t
taken_more net k m s t e =
    ap (flat_map (take_from s)) e ∙ flat_map-append (take_from s) (ticks_made net k (net.consumer s)) (t ∷ []) ∙ ap (λ l. taken net k s ++ l) (append-nil (take_from s t))
