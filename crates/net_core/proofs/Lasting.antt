-- An instance that has ended, or has met a token that it may not have, makes no more ticks.
use Rattle.std.proofs.Common.{◌≡◌, ℕ, ◌≤◌, ◌⊎◌, List, [], ◌∷◌, length, max, inl, inr, refl, sym, ap, subst, arith}
use Rattle.tapa_base.specs.declared.token.Token.{Token}
use Rattle.kahn_model.specs.declared.tick.TraceEnd.{TraceEnd}
use Rattle.kahn_model.specs.declared.tick.TraceEnd.TheVariants.{Ended, Needs, Bad, Turns}
use Rattle.kahn_model.specs.declared.tick.StreamOperation.{StreamOperation}
use Rattle.kahn_model.specs.declared.tick.Tick.{Tick}
use Rattle.kahn_model.specs.Prefix.{IsPrefixOf}
use Rattle.kahn_model.specs.Behavior.{Behavior, Finished, OutOfTurns, Act, Await, Offer, NoToken, WrongToken, Answer, judge_token, first_offer, lists_after, on_offer, ticks, trace_end}
use Rattle.kahn_model.specs.Network.{Network, IsNetwork, put_on}
use Rattle.kahn_model.specs.Counts.{round_of, written, IsReachable}
use Rattle.kahn_model.proofs.Order.{prefix_length, prefix_flat_map}
use Rattle.kahn_model.proofs.Grow.{Grows, after_grows, ticks_grow}
use Rattle.kahn_model.proofs.Late.{IsLate, late}
use Rattle.kahn_model.proofs.Count.{IsBelow, made_le}
use Rattle.kahn_model.proofs.Reach.{reach_founded}
use Rattle.kahn_model.proofs.Local.{here_all}
use Rattle.net_core.specs.declared.body.Pause.{Pause}
use Rattle.net_core.specs.declared.body.Pause.TheVariants.{Ended as HasEnded, WantsRead, WantsWrite, BadToken, Fuel}
use Rattle.net_core.specs.Waits.{StopsIn, HoldsPause, IsLast}

pub decide_fuel : (p : Pause) → (p ≡ Fuel) ⊎ (p ≡ Fuel → ⊥)
decide_fuel HasEnded = inr (λ e. cc)
decide_fuel (WantsRead p) = inr (λ e. cc)
decide_fuel (WantsWrite p) = inr (λ e. cc)
decide_fuel (BadToken p) = inr (λ e. cc)
decide_fuel Fuel = inl refl

-- no token that comes later changes these ends
abbrev pub IsFinal : TraceEnd → Type 0
IsFinal Ended = Unit {0}
IsFinal (Needs s) = ⊥
IsFinal (Bad s) = Unit {0}
IsFinal Turns = ⊥

stay_judged : (o : Offer) (s : ℕ) (f g : Token → ℕ → TraceEnd) (E : TraceEnd) → ((t : Token) (v : ℕ) → f t v ≡ E → g t v ≡ E) → on_offer o (Needs s) (Bad s) f ≡ E → on_offer o (Needs s) (Bad s) g ≡ E
stay_judged NoToken s f g E h e = e
stay_judged WrongToken s f g E h e = e
stay_judged (Answer t v) s f g E h e = h t v e

stay_ask : (how : StreamOperation) (s : ℕ) (us vs : List Token) (f g : Token → ℕ → TraceEnd) (E : TraceEnd) → IsFinal E → IsPrefixOf us vs → ((t : Token) (v : ℕ) → f t v ≡ E → g t v ≡ E) → on_offer (first_offer how us) (Needs s) (Bad s) f ≡ E → on_offer (first_offer how vs) (Needs s) (Bad s) g ≡ E
stay_ask how s [] vs f g E final p h e = absurd (subst IsFinal (sym e) final)
stay_ask how s (x ∷ us) [] f g E final p h e = absurd p
stay_ask how s (x ∷ us) (y ∷ vs) f g E final (q, p) h e =
    subst (λ z. on_offer (judge_token how z) (Needs s) (Bad s) g ≡ E) q (stay_judged (judge_token how x) s f g E h e)

pub end_stays : (a : Behavior) (xs ys : ℕ → List Token) → Grows xs ys → (E : TraceEnd) → IsFinal E → trace_end a xs ≡ E → trace_end a ys ≡ E
end_stays Finished xs ys p E final e = e
end_stays OutOfTurns xs ys p E final e = e
end_stays (Act a rest) xs ys p E final e = end_stays rest xs ys p E final e
end_stays (Await s how rest) xs ys p E final e =
    stay_ask how s (xs s) (ys s) _ _ E final (p s) (λ t v. end_stays (rest v) (lists_after how s xs) (lists_after how s ys) (after_grows how s xs ys p) E final) e

late_is : (E : TraceEnd) → IsFinal E → (ts us : List Tick) (xs : ℕ → List Token) (n : ℕ) → IsLate E ts us xs n → us ≡ ts
late_is Ended final ts us xs n h = h
late_is (Needs s) final ts us xs n h = absurd final
late_is (Bad s) final ts us xs n h = h
late_is Turns final ts us xs n h = absurd final

module _ (net : Network) (ok : IsNetwork net) (k m : ℕ → ℕ) (above : IsBelow k m) (rk : IsReachable net k) (rm : IsReachable net m) (j : ℕ) where
  grown : Grows (written net k) (written net m)
  grown s = prefix_flat_map (put_on s) _ _ (made_le net ok k m above (net.producer s))

  stops_for_good : (E : TraceEnd) → IsFinal E → StopsIn net k j E → StopsIn net m j E
  stops_for_good E final h =
      let n = h.tests in
      let same : (q : ℕ) → n ≤ q → ticks (net.job j q) (written net m) ≡ ticks (net.job j n) (written net k) =
      λ q l. late_is E final _ _ (written net k) n (subst (λ e. IsLate e (ticks (net.job j n) (written net k)) (ticks (net.job j q) (written net m)) (written net k) n) h.at (late (net.job j n) (net.job j q) (written net k) (written net m) n (ok.grows j n q l) grown (ok.lasts j n)))
      in
      let r = round_of net m in
      let big = max n r in
      let up = ticks_grow (net.job j r) (net.job j big) (written net m) (written net m) (ok.grows j r big (omega arith)) (λ s. Rattle.kahn_model.proofs.Order.prefix_refl (written net m s)) in
      let a = here_all net ok m (reach_founded net m rm) j in
      let b = prefix_length _ _ up in
      let c = ap length (same big (omega arith)) in
      let d = ap length (same n (omega arith)) in
      let e = h.all in
      let g = above j in
      let stands : m j ≡ k j = omega arith in
      record { tests = n; all = omega arith; at = end_stays (net.job j n) (written net k) (written net m) grown E final h.at }

  pub lasts : (f : ℕ → ℕ) (z : Pause) → IsLast z → HoldsPause net k j f z → HoldsPause net m j f z
  lasts f HasEnded l h = stops_for_good Ended tt h
  lasts f (WantsRead p) l h = absurd l
  lasts f (WantsWrite p) l h = absurd l
  lasts f (BadToken p) l h = stops_for_good (Bad (f p)) tt h
  lasts f Fuel l h = absurd l
