-- The counts of a clock: each is one that streams without limit reach.
use Rattle.std.proofs.Common.{◌≡◌, ℕ, zero, suc, ◌+◌, ◌<◌, ◌≤◌, List, [], ◌∷◌, ◌++◌, Bool, true, false, ◌&&◌, Option, Some, None, refl, sym, ap, ◌∙◌, subst, ⊎_elim, arith}
use Rattle.std.specs.Prelude.{nat_lt, if◌then◌else◌}
use Rattle.std.proofs.Math.Path.{fun_ext}
use Rattle.std.proofs.lemmas.Bool.{cases_lt, ltb-true}
use Rattle.std.proofs.lemmas.Bool.Decides.{nat_tests}
use Rattle.kahn_model.specs.Behavior.{Tick, Did, Take, See, End}
use Rattle.kahn_model.specs.Network.{Network, IsNetwork}
use Rattle.kahn_model.specs.Counts.{next, HasToken, IsSupplied, with_tick_of, after, AreSupplied, zeros, IsFounded}
use Rattle.kahn_model.specs.Timed.{Clock, ago, tick_moves, next_moves, moves, past_of, count_at}
use Rattle.kahn_model.proofs.Count.{IsBelow, fed_stays, written_le}
use Rattle.tapa_base.proofs.Tests.{both_true as and_parts}

-- one more step at the end
fed_more : (net : Network) (steps : List ℕ) (k : ℕ → ℕ) (i : ℕ) → AreSupplied net steps k → IsSupplied net (after steps k) i → AreSupplied net (steps ++ i ∷ []) k
fed_more net [] k i h f = (f, tt)
fed_more net (j ∷ steps) k i (a, h) f = (a, fed_more net steps (with_tick_of j k) i h f)

pub after_more : (steps : List ℕ) (k : ℕ → ℕ) (i : ℕ) → after (steps ++ i ∷ []) k ≡ with_tick_of i (after steps k)
after_more [] k i = refl
after_more (j ∷ steps) k i = after_more steps (with_tick_of j k) i

founded_push : (net : Network) (k m : ℕ → ℕ) (i : ℕ) → IsFounded net k → IsSupplied net k i → ((j : ℕ) → m j ≡ with_tick_of i k j) → IsFounded net m
founded_push net k m i r f e =
    let same : k ≡ after r.steps zeros = fun_ext r.is_after in
    record {
      steps = r.steps ++ i ∷ [];
      supplied = fed_more net r.steps zeros i r.supplied (subst (λ c. IsSupplied net c i) same f);
      is_after = λ j. e j ∙ ap (λ (c : ℕ → ℕ). with_tick_of i c j) same ∙ sym (ap (λ (c : ℕ → ℕ). c j) (after_more r.steps zeros i));
    }

founded_same : (net : Network) (k m : ℕ → ℕ) → IsFounded net k → ((j : ℕ) → m j ≡ k j) → IsFounded net m
founded_same net k m r e = record { steps = r.steps; supplied = r.supplied; is_after = λ j. e j ∙ r.is_after j }

-- the count in which those of the first j instances that move have moved
abbrev upto : ℕ → (ℕ → ℕ) → (ℕ → Bool) → ℕ → ℕ
upto j k mv i = if nat_lt i j && mv i then suc (k i) else k i

upto_above : (j : ℕ) (k : ℕ → ℕ) (mv : ℕ → Bool) → IsBelow k (upto j k mv)
upto_above j k mv i = grind (arith, nat_tests)

upto_none : (k : ℕ → ℕ) (mv : ℕ → Bool) (i : ℕ) → upto 0 k mv i ≡ k i
upto_none k mv i = grind (arith, nat_tests)

upto_here : (j : ℕ) (k : ℕ → ℕ) (mv : ℕ → Bool) → k j ≡ upto j k mv j
upto_here j k mv = grind (arith, nat_tests)

upto_yes : (j : ℕ) (k : ℕ → ℕ) (mv : ℕ → Bool) → mv j ≡ true → (i : ℕ) → upto (suc j) k mv i ≡ with_tick_of j (upto j k mv) i
upto_yes j k mv e i = grind (arith, nat_tests)

upto_no : (j : ℕ) (k : ℕ → ℕ) (mv : ℕ → Bool) → mv j ≡ false → (i : ℕ) → upto (suc j) k mv i ≡ upto j k mv i
upto_no j k mv e i = grind (arith, nat_tests)

founded_upto : (net : Network) → IsNetwork net → (k : ℕ → ℕ) (mv : ℕ → Bool) → IsFounded net k → ((i : ℕ) → mv i ≡ true → IsSupplied net k i) → (j : ℕ) → IsFounded net (upto j k mv)
founded_upto net ok k mv r f zero = founded_same net k _ r (upto_none k mv)
founded_upto net ok k mv r f (suc j) =
    let h = founded_upto net ok k mv r f j in
    let supplied : mv j ≡ true → IsSupplied net (upto j k mv) j = λ e. fed_stays net ok k (upto j k mv) (upto_above j k mv) j (upto_here j k mv) (f j e) in
    go (mv j) refl h supplied
  where
    go : (b : Bool) → mv j ≡ b → IsFounded net (upto j k mv) → (mv j ≡ true → IsSupplied net (upto j k mv) j) → IsFounded net (upto (suc j) k mv)
    go true e h supplied = founded_push net (upto j k mv) _ j h (supplied e) (upto_yes j k mv e)
    go false e h supplied = founded_same net (upto j k mv) _ h (upto_no j k mv e)

step_up : (b : Bool) (x : ℕ) → x ≤ (if b then suc x else x)
step_up true x = omega arith
step_up false x = omega arith

pub count_up : (net : Network) (clock : Clock) (n : ℕ) → IsBelow (count_at net clock n) (count_at net clock (suc n))
count_up net clock n i = step_up (moves net clock n (past_of net clock n) i) (count_at net clock n i)

pub count_le : (net : Network) (clock : Clock) (n m : ℕ) → n ≤ m → IsBelow (count_at net clock n) (count_at net clock m)
count_le net clock n zero h i = let e : n ≡ 0 = omega arith in subst (λ x. count_at net clock x i ≤ 0) (sym e) (omega arith)
count_le net clock n (suc m) h i =
    ⊎_elim
    (λ (l : m < n). let e : suc m ≡ n = omega arith in subst (λ x. count_at net clock n i ≤ count_at net clock x i) (sym e) (omega arith))
    (λ (l : n ≤ m). let a = count_le net clock n m l i in let b = count_up net clock m i in omega arith)
    (cases_lt m n)

-- what is past is below what is now, and above what is further past
pub past_below : (net : Network) (clock : Clock) (n d : ℕ) → IsBelow (ago (past_of net clock n) d) (count_at net clock n)
past_below net clock zero d i = omega arith
past_below net clock (suc n) zero i = omega arith
past_below net clock (suc n) (suc d) i =
    let h = past_below net clock n d i in
    let up = count_up net clock n i in
    omega arith

pub past_above : (net : Network) (clock : Clock) (n m d : ℕ) → n + d ≤ m → IsBelow (count_at net clock n) (ago (past_of net clock m) d)
past_above net clock n m zero h i = count_le net clock n m (omega arith) i
past_above net clock n zero (suc d) h i = absurd (omega arith)
past_above net clock n (suc m) (suc d) h i = past_above net clock n m d (omega arith) i

-- an instance that moves has a next tick with its token
token_there : (net : Network) → IsNetwork net → (clock : Clock) (n i : ℕ) (t : Tick) → tick_moves net clock n (past_of net clock n) i t ≡ true → HasToken net (count_at net clock n) t
token_there net ok clock n i (Take s t) e =
    let l = ltb-true _ _ e in
    let w = written_le net ok _ _ (past_below net clock n (clock.latency s)) s in omega arith
token_there net ok clock n i (See s t) e =
    let l = ltb-true _ _ e in
    let w = written_le net ok _ _ (past_below net clock n (clock.latency s)) s in omega arith
token_there net ok clock n i (Did a) e = tt
token_there net ok clock n i End e = tt

moves_fed : (net : Network) → IsNetwork net → (clock : Clock) (n i : ℕ) → moves net clock n (past_of net clock n) i ≡ true → IsSupplied net (count_at net clock n) i
moves_fed net ok clock n i e =
    let p = and_parts _ _ e in
    let q = and_parts _ _ p.1 in
    go (next net (count_at net clock n) i) refl (ltb-true i net.size q.0) q.1
  where
    go : (o : Option Tick) → next net (count_at net clock n) i ≡ o → i < net.size → next_moves net clock n (past_of net clock n) i o ≡ true → IsSupplied net (count_at net clock n) i
    go None f l h = cc
    go (Some t) f l h = record { inside = l; tick = t; is_next = f; token = token_there net ok clock n i t h }

-- only instances of the network move
all_inside : (net : Network) (clock : Clock) (n i : ℕ) (past : List (ℕ → ℕ)) → (if moves net clock n past i then suc (ago past 0 i) else ago past 0 i) ≡ upto net.size (ago past 0) (moves net clock n past) i
all_inside net clock n i past = go (nat_lt 0 n) (nat_lt i net.size) (next_moves net clock n past i (next net (ago past 0) i)) (ago past 0 i)
  where
    go : (a b c : Bool) (x : ℕ) → (if a && (b && c) then suc x else x) ≡ (if b && (a && (b && c)) then suc x else x)
    go true true c x = refl
    go true false c x = refl
    go false true c x = refl
    go false false c x = refl

pub clock_founded : (net : Network) → IsNetwork net → (clock : Clock) (n : ℕ) → IsFounded net (count_at net clock n)
clock_founded net ok clock zero = record { steps = []; supplied = tt; is_after = λ i. refl }
clock_founded net ok clock (suc n) =
    founded_same net _ _
    (founded_upto net ok (count_at net clock n) (moves net clock n (past_of net clock n)) (clock_founded net ok clock n) (moves_fed net ok clock n) net.size)
    (λ i. all_inside net clock n i (past_of net clock n))
