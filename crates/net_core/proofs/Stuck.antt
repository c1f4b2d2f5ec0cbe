-- An instance that stopped makes no step until its own streams change.
use Rattle.std.proofs.Common.{◌≡◌, ℕ, ◌<◌, ◌≤◌, List, [], ◌∷◌, length, take, Some, refl, sym, ap, ◌∙◌, subst, ⊎_elim, arith, length-take}
use Rattle.std.specs.Prelude.{slice_get}
use Rattle.std.proofs.lemmas.Bool.{cases_lt}
use Rattle.std.proofs.lemmas.List.{take_all}
use Rattle.std.proofs.lemmas.Option.{slice_get_within}
use Rattle.tapa_base.specs.declared.token.Token.{Token}
use Rattle.kahn_model.specs.declared.tick.Tick.{Tick}
use Rattle.kahn_model.specs.declared.tick.Tick.TheVariants.{Did, End}
use Rattle.kahn_model.specs.declared.tick.TraceEnd.{TraceEnd}
use Rattle.kahn_model.specs.declared.tick.TraceEnd.TheVariants.{Ended, Needs, Bad, Turns}
use Rattle.kahn_model.specs.Behavior.{Behavior, Finished, OutOfTurns, Act, Await, Offer, NoToken, WrongToken, Answer, first_offer, lists_after, on_offer, ticks, trace_end, Extends}
use Rattle.kahn_model.specs.Network.{Network, IsNetwork, round}
use Rattle.kahn_model.specs.Counts.{round_of, ticks_made, written, IsSupplied, IsFounded, HasEnded}
use Rattle.kahn_model.specs.Outcome.{StandsAt}
use Rattle.kahn_model.proofs.Order.{prefix_refl, prefix_take, prefix_length, prefix_whole}
use Rattle.kahn_model.proofs.Grow.{ticks_grow}
use Rattle.kahn_model.proofs.Late.{IsLate, late}
use Rattle.kahn_model.proofs.Reach.{full, total_has}
use Rattle.kahn_model.proofs.Local.{here, here_prefix, fed_is_here}
use Rattle.kahn_model.proofs.Ends.{has_end}
use Rattle.net_core.specs.Waits.{StopsIn}
use Rattle.net_core.proofs.Placed.{ticks_own, trace_end_own}

-- a job that stops does the same however many tests its loops may make
settled_found : (o : Offer) (a b : TraceEnd) (f : Token → ℕ → List Tick) (g : Token → ℕ → List Tick) (m : Token → ℕ → TraceEnd) (n : Token → ℕ → TraceEnd) → ((t : Token) (v : ℕ) → (m t v ≡ Turns → ⊥) → (g t v ≡ f t v) × (n t v ≡ m t v)) → (on_offer o a b m ≡ Turns → ⊥) → (on_offer o [] [] g ≡ on_offer o [] [] f) × (on_offer o a b n ≡ on_offer o a b m)
settled_found NoToken a b f g m n h d = (refl, refl)
settled_found WrongToken a b f g m n h d = (refl, refl)
settled_found (Answer t v) a b f g m n h d = h t v d

pub settled : (a b : Behavior) (xs : ℕ → List Token) → Extends a b → (trace_end a xs ≡ Turns → ⊥) → (ticks b xs ≡ ticks a xs) × (trace_end b xs ≡ trace_end a xs)
settled Finished b xs e d = (ap (λ t. ticks t xs) e, ap (λ t. trace_end t xs) e)
settled OutOfTurns b xs e d = absurd (d refl)
settled (Act a rest) b xs (rest', e, h) d =
    let s = settled rest rest' xs h d in (ap (λ t. ticks t xs) e ∙ ap (λ l. Did a ∷ l) s.0, ap (λ t. trace_end t xs) e ∙ s.1)
settled (Await s how rest) b xs (rest', e, h) d =
    let p = settled_found (first_offer how (xs s)) (Needs s) (Bad s) _ _ _ _
    (λ t v d'. let q = settled (rest v) (rest' v) (lists_after how s xs) (h v) d' in
    (ap (λ l. Rattle.kahn_model.specs.Behavior.tick_of how s t ∷ l) q.0, q.1)) d in (
      ap (λ t. ticks t xs) e ∙ p.0,
      ap (λ t. trace_end t xs) e ∙ p.1,
    )

-- a job that is cut has made as many ticks as its loops may make tests
cut_late : (net : Network) → IsNetwork net → (n i : ℕ) (xs : ℕ → List Token) → trace_end (net.job i n) xs ≡ Turns → n ≤ length (ticks (net.job i n) xs)
cut_late net ok n i xs e =
    subst (λ m. IsLate m (ticks (net.job i n) xs) (ticks (net.job i n) xs) xs n) e
    (late (net.job i n) (net.job i n) xs xs n (ok.grows i n n (omega arith)) (λ s. prefix_refl (xs s)) (ok.lasts i n))

-- where it stopped, by any number of tests that is more than its ticks
pub stops_any : (net : Network) → IsNetwork net → (n m i : ℕ) (xs : ℕ → List Token) → (trace_end (net.job i n) xs ≡ Turns → ⊥) → length (ticks (net.job i n) xs) < m → (ticks (net.job i m) xs ≡ ticks (net.job i n) xs) × (trace_end (net.job i m) xs ≡ trace_end (net.job i n) xs)
stops_any net ok n m i xs d l =
    ⊎_elim
    (λ (h : n < m). settled (net.job i n) (net.job i m) xs (ok.grows i n m (omega arith)) d)
    (λ (h : m ≤ n).
    let p = prefix_length _ _ (ticks_grow (net.job i m) (net.job i n) xs xs (ok.grows i m n h) (λ s. prefix_refl (xs s))) in
    let s = settled (net.job i m) (net.job i n) xs (ok.grows i m n h) (λ e. let c = cut_late net ok m i xs e in omega arith) in
    (sym s.0, sym s.1))
    (cases_lt n m)

module _ (net : Network) (ok : IsNetwork net) (k : ℕ → ℕ) (r : IsFounded net k) (i : ℕ) (inside : i < net.size) where
  pub stops_here : (m : TraceEnd) → (m ≡ Turns → ⊥) → StopsIn net k i m → StandsAt net k i m
  stops_here m d st =
      let xs = written net k in
      let t = total_has net.size i k inside in
      let l : length (ticks (net.job i st.tests) xs) < round_of net k = let e = st.all in omega arith in
      let s = stops_any net ok st.tests (round_of net k) i xs (λ e. d (sym st.at ∙ e)) l in
      record { all = ap length s.0 ∙ st.all; at = s.1 ∙ st.at }

  pub not_fed : (m : TraceEnd) → (m ≡ Turns → ⊥) → StopsIn net k i m → IsSupplied net k i → ⊥
  not_fed m d st f =
      let s = stops_here m d st in
      let e = s.all in
      let at = fed_is_here net ok k r i f in
      let l = slice_get_within _ (k i) f.tick at in
      omega arith

  -- the ticks made are those found on what is written, where these are no more
  pub made_is : (ts : List Tick) → ts ≡ here net k i → length ts ≡ k i → ticks_made net k i ≡ ts
  made_is ts same e =
      let hs = here net k i in
      let us = round net (round_of net k) i in
      let l0 = ap length same in
      let all : take (k i) hs ≡ hs = take_all (k i) hs (omega arith) in
      let l = ap length all in
      let p = prefix_take (k i) (k i) hs us (omega arith) (here_prefix net ok k (full net ok k r) i) in
      let lu = length-take (k i) us in
      let q : take (k i) hs ≡ take (k i) us = prefix_whole _ _ p (omega arith) in
      sym q ∙ all ∙ sym same

  pub ended : StopsIn net k i Ended → HasEnded net k i
  ended st =
      let s = stops_here Ended (λ q. cc) st in
      let h = has_end (net.job i (round_of net k)) (written net k) s.at in
      (h.0, subst (λ ts. slice_get ts h.0 ≡ Some End) (sym (made_is (here net k i) refl s.all)) h.1)

  -- what a pause says holds until a stream of the instance changes
  pub stays_stopped : (l : ℕ → ℕ) (m : TraceEnd) → l i ≡ k i → ((s : ℕ) → net.consumer s ≡ i → written net l s ≡ written net k s) → StopsIn net k i m → StopsIn net l i m
  stays_stopped l m e w st = record {
    tests = st.tests;
    all = ap length (ticks_own net.producer net.consumer i (net.job i st.tests) (written net l) (written net k) (ok.owns i st.tests) w) ∙ st.all ∙ sym e;
    at = trace_end_own net.producer net.consumer i (net.job i st.tests) (written net l) (written net k) (ok.owns i st.tests) w ∙ st.at;
  }
