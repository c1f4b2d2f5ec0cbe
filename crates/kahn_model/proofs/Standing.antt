-- An instance of a reachable count has ended, or waits for one thing.
use Rattle.std.proofs.Common.{◌≡◌, ◌<◌, ℕ, zero, suc, List, [], ◌∷◌, length, take, Some, refl, sym, subst, ◌∙◌, arith}
use Rattle.std.specs.Prelude.{slice_get}
use Rattle.std.proofs.lemmas.List.{length-take-le}
use Rattle.std.proofs.lemmas.Option.{slice_get_within}
use Rattle.tapa_base.specs.declared.token.Token.{Token}
use Rattle.kahn_model.specs.Behavior.{Put, Tick, Did, End, TraceEnd, Ended, Needs, Bad, StreamOperation, Behavior, Finished, OutOfTurns, Act, Await, Offer, NoToken, WrongToken, Answer, first_offer, tick_of, lists_after, on_offer, ticks, trace_end}
use Rattle.kahn_model.specs.Network.{Network, IsNetwork, stream, round}
use Rattle.kahn_model.specs.Counts.{total, round_of, written, HasEnded, IsReachable, IsFounded}
use Rattle.kahn_model.specs.Outcome.{StandsAt, WaitsToWrite}
use Rattle.kahn_model.specs.Standing.{Standing, over, to_read, to_write, at_bad, StandsSo}
use Rattle.kahn_model.proofs.Order.{prefix_get, take_prefix}
use Rattle.kahn_model.proofs.Late.{no_end, end_last}
use Rattle.kahn_model.proofs.Local.{fed_is_here}
use Rattle.kahn_model.proofs.Reach.{reach_founded}
use Rattle.kahn_model.proofs.Ends.{here_made}

trace_end_found : (how : StreamOperation) (s : ℕ) (o : Offer) (a b : TraceEnd) (m : Token → ℕ → TraceEnd) (f : Token → ℕ → List Tick) → ((t : Token) (v j : ℕ) → slice_get (f t v) j ≡ Some End → m t v ≡ Ended) → (j : ℕ) → slice_get (on_offer o [] [] (λ t v. tick_of how s t ∷ f t v)) j ≡ Some End → on_offer o a b m ≡ Ended
trace_end_found how s NoToken a b m f h j e = absurd (cc)
trace_end_found how s WrongToken a b m f h j e = absurd (cc)
trace_end_found how s (Answer t v) a b m f h zero e = absurd (no_end how s t (cc))
trace_end_found how s (Answer t v) a b m f h (suc j) e = h t v j e

-- where the end is made, the end says so
trace_end_ended : (a : Behavior) (xs : ℕ → List Token) (j : ℕ) → slice_get (ticks a xs) j ≡ Some End → trace_end a xs ≡ Ended
trace_end_ended Finished xs j e = refl
trace_end_ended OutOfTurns xs j e = absurd (cc)
trace_end_ended (Act a rest) xs zero e = absurd (cc)
trace_end_ended (Act a rest) xs (suc j) e = trace_end_ended rest xs j e
trace_end_ended (Await s how rest) xs j e =
    trace_end_found how s (first_offer how (xs s)) (Needs s) (Bad s) (λ t v. trace_end (rest v) (lists_after how s xs)) (λ t v. ticks (rest v) (lists_after how s xs))
    (λ t v i h. trace_end_ended (rest v) (lists_after how s xs) i h) j e

module _ (net : Network) (ok : IsNetwork net) (k : ℕ → ℕ) (r : IsFounded net k) (i : ℕ) (inside : i < net.size) where
  -- after its end it makes no tick
  over_writes : (s : ℕ) → HasEnded net k i → WaitsToWrite net k i s → ⊥
  over_writes s (j, e) (t, w) =
      let us = round net (round_of net k) i in
      let made = slice_get_within (take (k i) us) j End e in
      let short = length-take-le (k i) us in
      let all : length us ≡ suc j = end_last (net.job i (round_of net k)) (stream net (total net.size k)) j (prefix_get (take (k i) us) us j End (take_prefix (k i) us) e) in
      let there = slice_get_within us (k i) (Did (Put s t)) w in
      omega arith

  over_stands : (m : TraceEnd) → (Ended ≡ m → ⊥) → HasEnded net k i → StandsAt net k i m → ⊥
  over_stands m other (j, e) h =
      let here : slice_get (ticks (net.job i (round_of net k)) (written net k)) j ≡ Some End = subst (λ (ts : List Tick). slice_get ts j ≡ Some End) (here_made net ok k r i h.all) e in
      other (sym (trace_end_ended (net.job i (round_of net k)) (written net k) j here) ∙ h.at)

  writes_stands : (s : ℕ) (m : TraceEnd) → WaitsToWrite net k i s → StandsAt net k i m → ⊥
  writes_stands s m (t, w) h =
      let here = fed_is_here net ok k r i (record { inside = inside; tick = Did (Put s t); is_next = w; token = tt }) in
      let l = slice_get_within (ticks (net.job i (round_of net k)) (written net k)) (k i) (Did (Put s t)) here in
      let a = h.all in
      omega arith

  not_needs : (s : ℕ) → Ended ≡ Needs s → ⊥
  not_needs s e = cc

  not_bad : (s : ℕ) → Ended ≡ Bad s → ⊥
  not_bad s e = cc

  one_standing : (a b : Standing) → StandsSo net k i a → StandsSo net k i b → a ≡ b
  one_standing over over x y = refl
  one_standing over (to_read s) x y = absurd (over_stands (Needs s) (not_needs s) x y)
  one_standing over (to_write s) x y = absurd (over_writes s x y)
  one_standing over (at_bad s) x y = absurd (over_stands (Bad s) (not_bad s) x y)
  one_standing (to_read s) over x y = absurd (over_stands (Needs s) (not_needs s) y x)
  one_standing (to_read s) (to_read r) x y = let a = x.at in let b = y.at in cc
  one_standing (to_read s) (to_write r) x y = absurd (writes_stands r (Needs s) y x)
  one_standing (to_read s) (at_bad r) x y = let a = x.at in let b = y.at in absurd (cc)
  one_standing (to_write s) over x y = absurd (over_writes s y x)
  one_standing (to_write s) (to_read r) x y = absurd (writes_stands s (Needs r) x y)
  one_standing (to_write s) (to_write r) x y = let a = x.1 in let b = y.1 in cc
  one_standing (to_write s) (at_bad r) x y = absurd (writes_stands s (Bad r) x y)
  one_standing (at_bad s) over x y = absurd (over_stands (Bad s) (not_bad s) y x)
  one_standing (at_bad s) (to_read r) x y = let a = x.at in let b = y.at in absurd (cc)
  one_standing (at_bad s) (to_write r) x y = absurd (writes_stands r (Bad s) y x)
  one_standing (at_bad s) (at_bad r) x y = let a = x.at in let b = y.at in cc

pub stand_one_way : (net : Network) → IsNetwork net → (k : ℕ → ℕ) → IsReachable net k → (i : ℕ) → i < net.size → (a b : Standing) → StandsSo net k i a → StandsSo net k i b → a ≡ b
stand_one_way net ok k reach i inside = one_standing net ok k (reach_founded net k reach) i inside
