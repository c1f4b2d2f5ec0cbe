-- How a net ends.
use Rattle.std.proofs.Common.{◌≡◌, ℕ, zero, suc, ◌<◌, List, [], ◌∷◌, Some, refl, sym, ◌∙◌, subst, arith, length-take}
use Rattle.std.specs.Prelude.{slice_get}
use Rattle.tapa_base.specs.declared.token.Token.{Token}
use Rattle.kahn_model.specs.declared.tick.Action.TheVariants.{Put}
use Rattle.kahn_model.specs.declared.tick.Tick.{Tick}
use Rattle.kahn_model.specs.declared.tick.Tick.TheVariants.{Did, End}
use Rattle.kahn_model.specs.declared.tick.TraceEnd.{TraceEnd}
use Rattle.kahn_model.specs.declared.tick.StreamOperation.{StreamOperation}
use Rattle.kahn_model.specs.declared.tick.StreamOperation.TheVariants.{Read, Peek, TestEot, Open}
use Rattle.kahn_model.specs.Behavior.{Behavior, Finished, OutOfTurns, Act, Await, Offer, NoToken, WrongToken, Answer, first_offer, tick_of, lists_after, on_offer, ticks, trace_end}
use Rattle.kahn_model.specs.declared.tick.TraceEnd.TheVariants.{Ended, Needs, Bad, Turns}
use Rattle.kahn_model.specs.Network.{Network, IsNetwork, stream, round}
use Rattle.kahn_model.specs.Counts.{total, round_of, ticks_made, next, written, HasRoom, IsAllowed, IsFounded, HasEnded}
use Rattle.kahn_model.proofs.Local.{here, here_is_fed}
use Rattle.kahn_model.proofs.Late.{end_last}
use Rattle.kahn_model.proofs.Order.{prefix_get, take_prefix}
use Rattle.std.proofs.lemmas.Option.{slice_get_within}
use Rattle.net_core.specs.declared.body.Pause.{Pause}
use Rattle.net_core.specs.declared.body.Pause.TheVariants.{Ended as Ends, WantsRead, WantsWrite, BadToken, Fuel}
use Rattle.net_core.specs.Waits.{StopsIn, IsFullFor, HoldsPause, IsToldBy}
use Rattle.net_core.proofs.Stuck.{stops_here, not_fed, made_is, ended}

module _ (net : Network) (ok : IsNetwork net) (k : ℕ → ℕ) (r : IsFounded net k) (i : ℕ) (inside : i < net.size) where
  full_next : (s : ℕ) → (h : IsFullFor net k i s) → next net k i ≡ Some (Did (Put s h.token))
  full_next s h = (here_is_fed net ok k r h.tests i (Did (Put s h.token)) inside h.is_next).0

  full_stops : (s : ℕ) → IsFullFor net k i s → IsAllowed net k i → ⊥
  full_stops s h a =
      let e = full_next s h in
      let n = a.supplied.is_next in
      let same : a.supplied.tick ≡ Did (Put s h.token) = cc in
      let room = subst (HasRoom net k) same a.room in
      let l = h.full in
      omega arith

  -- an instance that stopped makes no step
  pub stopped : (f : ℕ → ℕ) (pause : Pause) → (pause ≡ Fuel → ⊥) → HoldsPause net k i f pause → IsAllowed net k i → ⊥
  stopped f Ends u h a = not_fed net ok k r i inside Ended (λ q. cc) h a.supplied
  stopped f (WantsRead p) u h a = not_fed net ok k r i inside (Needs (f p)) (λ q. cc) h a.supplied
  stopped f (BadToken p) u h a = not_fed net ok k r i inside (Bad (f p)) (λ q. cc) h a.supplied
  stopped f (WantsWrite p) u h a = full_stops (f p) h a
  stopped f Fuel u h a = u refl

  -- and its pause tells what it waits for
  pub told : (f : ℕ → ℕ) (pause : Pause) → (pause ≡ Fuel → ⊥) → HoldsPause net k i f pause → IsToldBy net k i f pause
  told f Ends u h = ended net ok k r i inside h
  told f (WantsRead p) u h = stops_here net ok k r i inside (Needs (f p)) (λ q. cc) h
  told f (BadToken p) u h = stops_here net ok k r i inside (Bad (f p)) (λ q. cc) h
  told f (WantsWrite p) u h = (h.token, full_next (f p) h)
  told f Fuel u h = absurd (u refl)

-- an instance that stops elsewhere has not ended
end_trace_ends_found : (o : Offer) (a b : TraceEnd) (g : Token → ℕ → List Tick) (m : Token → ℕ → TraceEnd) → ((t : Token) (v j : ℕ) → slice_get (g t v) j ≡ Some End → m t v ≡ Ended) → (j : ℕ) → slice_get (on_offer o [] [] g) j ≡ Some End → on_offer o a b m ≡ Ended
end_trace_ends_found NoToken a b g m h j e = cc
end_trace_ends_found WrongToken a b g m h j e = cc
end_trace_ends_found (Answer t v) a b g m h j e = h t v j e

end_trace_ends_cons : (x : Tick) (ts : List Tick) (m : TraceEnd) → (x ≡ End → ⊥) → ((j : ℕ) → slice_get ts j ≡ Some End → m ≡ Ended) → (j : ℕ) → slice_get (x ∷ ts) j ≡ Some End → m ≡ Ended
end_trace_ends_cons x ts m d h zero e = absurd (d (cc))
end_trace_ends_cons x ts m d h (suc j) e = h j e

no_end : (how : StreamOperation) (s : ℕ) (t : Token) → tick_of how s t ≡ End → ⊥
no_end Read s t e = cc
no_end Peek s t e = cc
no_end TestEot s t e = cc
no_end Open s t e = cc

pub end_trace_ends : (a : Behavior) (xs : ℕ → List Token) (j : ℕ) → slice_get (ticks a xs) j ≡ Some End → trace_end a xs ≡ Ended
end_trace_ends Finished xs j e = refl
end_trace_ends OutOfTurns xs j e = cc
end_trace_ends (Act a rest) xs j e = end_trace_ends_cons (Did a) (ticks rest xs) (trace_end rest xs) (λ q. cc) (end_trace_ends rest xs) j e
end_trace_ends (Await s how rest) xs j e =
    end_trace_ends_found (first_offer how (xs s)) (Needs s) (Bad s) _ _ (λ t v. end_trace_ends_cons (tick_of how s t) _ _ (no_end how s t) (end_trace_ends (rest v) (lists_after how s xs))) j e

module _ (net : Network) (ok : IsNetwork net) (k : ℕ → ℕ) (r : IsFounded net k) (i : ℕ) (inside : i < net.size) where
  not_ended_at : (m : TraceEnd) → (m ≡ Turns → ⊥) → (m ≡ Ended → ⊥) → StopsIn net k i m → HasEnded net k i → ⊥
  not_ended_at m t d st (j, e) =
      let s = stops_here net ok k r i inside m t st in
      let same : ticks_made net k i ≡ here net k i = made_is net ok k r i inside (here net k i) refl s.all in
      let at = subst (λ ts. slice_get ts j ≡ Some End) same e in
      d (sym s.at ∙ end_trace_ends (net.job i (round_of net k)) (written net k) j at)

  not_ended_full : (s : ℕ) → IsFullFor net k i s → HasEnded net k i → ⊥
  not_ended_full s h (j, e) =
      let n = full_next net ok k r i inside s h in
      let ts = round net (round_of net k) i in
      let at : slice_get ts j ≡ Some End = prefix_get _ _ j End (take_prefix (k i) ts) e in
      let l = slice_get_within _ j End e in
      let c = length-take (k i) ts in
      let len = end_last (net.job i (round_of net k)) (stream net (total net.size k)) j at in
      let w = slice_get_within ts (k i) (Did (Put s h.token)) n in
      omega arith

  pub not_ended : (f : ℕ → ℕ) (pause : Pause) → (pause ≡ Fuel → ⊥) → (pause ≡ Ends → ⊥) → HoldsPause net k i f pause → HasEnded net k i → ⊥
  not_ended f Ends u d h e = d refl
  not_ended f (WantsRead p) u d h e = not_ended_at (Needs (f p)) (λ q. cc) (λ q. cc) h e
  not_ended f (BadToken p) u d h e = not_ended_at (Bad (f p)) (λ q. cc) (λ q. cc) h e
  not_ended f (WantsWrite p) u d h e = not_ended_full (f p) h e
  not_ended f Fuel u d h e = u refl
