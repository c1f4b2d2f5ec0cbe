-- What is left of a job whose instance has made the ticks of a count: its first tick is the next of the count.
use Rattle.std.proofs.Common.{◌≡◌, ℕ, zero, suc, ◌<◌, ◌≤◌, List, [], ◌∷◌, ◌++◌, length, drop, Bool, true, false, ◌&&◌, Option, Some, None, refl, sym, ap, ◌∙◌, subst, arith}
use Rattle.std.specs.Prelude.{slice_get, nat_lt}
use Rattle.std.proofs.lemmas.Bool.{lt-ltb, ltb-true}
use Rattle.kahn_model.specs.declared.tick.Tick.{Tick}
use Rattle.kahn_model.specs.declared.tick.Tick.TheVariants.{Take, See}
use Rattle.tapa_base.specs.declared.token.Token.{Token}
use Rattle.kahn_model.specs.Behavior.{Behavior, Finished, OutOfTurns, Act, Await, Offer, Answer, on_offer, ticks}
use Rattle.kahn_model.specs.Network.{Network, IsNetwork, Owns}
use Rattle.kahn_model.specs.Counts.{round_of, ticks_made, written, taken, next, HasToken, IsSupplied, IsFounded}
use Rattle.kahn_model.specs.Timed.{Clock, tick_moves, next_moves, moves, past_of, count_at}
use Rattle.kahn_model.proofs.Count.{written_le}
use Rattle.kahn_model.proofs.Reach.{all_made, total_has}
use Rattle.kahn_model.proofs.Local.{fed_is_here, here_is_fed}
use Rattle.kahn_model.proofs.Clocked.{clock_founded, past_below}
use Rattle.hw_network_laws.proofs.network.Made.{made_here}
use Rattle.hw_network_laws.proofs.network.Rest.{offer_by, after, ticks_left, left, split, IsAlive, alive}
use Rattle.tapa_base.proofs.Tests.{both_true as and_parts}

-- the streams of what is left are the instance's
abbrev pub OwnsRest : (ℕ → ℕ) → (ℕ → ℕ) → ℕ → Option Behavior → Type 0
OwnsRest p c i None = Unit {0}
OwnsRest p c i (Some b) = Owns p c i b

owns_offer : (p c : ℕ → ℕ) (i : ℕ) (o : Offer) (k : ℕ → Behavior) (ts : List Tick) → ((v : ℕ) → OwnsRest p c i (after (k v) ts)) → OwnsRest p c i (on_offer o (Some OutOfTurns) (Some OutOfTurns) (λ t v. after (k v) ts))
owns_offer p c i (Answer t v) k ts h = h v
owns_offer p c i _ k ts h = tt

pub owns_after : (p c : ℕ → ℕ) (i : ℕ) (b : Behavior) (ts : List Tick) → Owns p c i b → OwnsRest p c i (after b ts)
owns_after p c i b [] h = h
owns_after p c i Finished (x ∷ ts) h = tt
owns_after p c i OutOfTurns (x ∷ ts) h = tt
owns_after p c i (Act a rest) (x ∷ ts) h = owns_after p c i rest ts h.1
owns_after p c i (Await s how k) (x ∷ ts) h = owns_offer p c i (offer_by how x) k ts (λ v. owns_after p c i (k v) ts (h.1 v))

get_append : {A : Type 0} (xs ys : List A) (j : ℕ) → j ≡ length xs → slice_get (xs ++ ys) j ≡ slice_get ys 0
get_append [] ys j e = ap (slice_get ys) e
get_append (x ∷ xs) ys zero e = absurd (omega arith)
get_append (x ∷ xs) ys (suc j) e = get_append xs ys j (omega arith)

-- what is left of the job of instance i at a count, and the tokens that it has not taken
abbrev pub rest_of : Network → (ℕ → ℕ) → ℕ → Option Behavior
rest_of net k i = after (net.job i (round_of net k)) (ticks_made net k i)

abbrev pub ahead : Network → (ℕ → ℕ) → ℕ → ℕ → List Token
ahead net k i = left (ticks_made net k i) (written net k)

pub ahead_is : (net : Network) (k : ℕ → ℕ) (i s : ℕ) → net.consumer s ≡ i → ahead net k i s ≡ drop (length (taken net k s)) (written net k s)
ahead_is net k i s e = subst (λ j. ahead net k j s ≡ drop (length (taken net k s)) (written net k s)) e refl

pub rest_alive : (net : Network) → IsNetwork net → (k : ℕ → ℕ) → IsFounded net k → (i : ℕ) → i < net.size → IsAlive (rest_of net k i)
rest_alive net ok k r i inside =
    let l = all_made net ok k r i in
    let t = total_has net.size i k inside in
    alive (net.job i (round_of net k)) (ticks_made net k i) (written net k) (round_of net k) (ok.lasts i (round_of net k)) (made_here net ok k r i) (omega arith)

abbrev pub first_tick : Network → (ℕ → ℕ) → ℕ → Option Tick
first_tick net k i = slice_get (ticks_left (rest_of net k i) (ahead net k i)) 0

pub first_is : (net : Network) → IsNetwork net → (k : ℕ → ℕ) → IsFounded net k → (i : ℕ) → slice_get (ticks (net.job i (round_of net k)) (written net k)) (k i) ≡ first_tick net k i
first_is net ok k r i =
    let l = all_made net ok k r i in
    let halves = split (net.job i (round_of net k)) (ticks_made net k i) (written net k) (made_here net ok k r i) in
    ap (λ u. slice_get u (k i)) halves ∙ get_append (ticks_made net k i) _ (k i) (omega arith)

-- a tick that takes its token late is one whose token is there
pub token_there : (net : Network) → IsNetwork net → (clock : Clock) (n i : ℕ) (t : Tick) → tick_moves net clock n (past_of net clock n) i t ≡ true → HasToken net (count_at net clock n) t
token_there net ok clock n i (Take s t) e =
    let l = ltb-true _ _ e in
    let w = written_le net ok _ _ (past_below net clock n (clock.latency s)) s in omega arith
token_there net ok clock n i (See s t) e =
    let l = ltb-true _ _ e in
    let w = written_le net ok _ _ (past_below net clock n (clock.latency s)) s in omega arith
token_there net ok clock n i _ e = tt

module _ (net : Network) (ok : IsNetwork net) (clock : Clock) (n i : ℕ) where
  abbrev now : ℕ → ℕ
  now = count_at net clock n

  abbrev pub it_moves : Bool
  it_moves = moves net clock n (past_of net clock n) i

  supplied_by : (o : Option Tick) → next net now i ≡ o → i < net.size → next_moves net clock n (past_of net clock n) i o ≡ true → IsSupplied net now i
  supplied_by None f l h = cc
  supplied_by (Some t) f l h = record { inside = l; tick = t; is_next = f; token = token_there net ok clock n i t h }

  supplied : it_moves ≡ true → IsSupplied net now i
  supplied e =
      let p = and_parts _ _ e in
      let q = and_parts _ _ p.1 in
      supplied_by (next net now i) refl (ltb-true i net.size q.0) q.1

  module _ (late : 1 ≤ n) (inside : i < net.size) where
    -- where there is one, the instance moves exactly where it may
    pub next_is : (t : Tick) → first_tick net now i ≡ Some t → next net now i ≡ Some t
    next_is t e = (here_is_fed net ok now (clock_founded net ok clock n) (round_of net now) i t inside (first_is net ok now (clock_founded net ok clock n) i ∙ e)).0

    pub moves_by : (t : Tick) → first_tick net now i ≡ Some t → it_moves ≡ tick_moves net clock n (past_of net clock n) i t
    moves_by t e =
        ap (λ b. b && (nat_lt i net.size && next_moves net clock n (past_of net clock n) i (next net now i))) (lt-ltb 0 n (omega arith))
        ∙ ap (λ b. b && next_moves net clock n (past_of net clock n) i (next net now i)) (lt-ltb i net.size inside)
        ∙ ap (next_moves net clock n (past_of net clock n) i) (next_is t e)

    -- and where there is none it does not
    pub moves_not : first_tick net now i ≡ None → it_moves ≡ false
    moves_not e = go it_moves refl
      where
        go : (b : Bool) → it_moves ≡ b → b ≡ false
        go false q = refl
        go true q =
            let u = supplied q in
            let at = fed_is_here net ok now (clock_founded net ok clock n) i u in
            let bad : None ≡ Some u.tick = sym e ∙ sym (first_is net ok now (clock_founded net ok clock n) i) ∙ at in cc
