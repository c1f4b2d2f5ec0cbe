-- What an instance has taken of a stream begins what is written to it.
use Rattle.std.proofs.Common.{◌≡◌, ℕ, List, [], ◌∷◌, ◌++◌, take, drop, Bool, true, false, refl, sym, ap, ◌∙◌, subst, arith}
use Rattle.std.specs.Prelude.{◌==◌, flat_map, if◌then◌else◌}
use Rattle.std.proofs.lemmas.Bool.Decides.{nat_tests}
use Rattle.std.proofs.lemmas.List.{length-take-le}
use Rattle.tapa_base.specs.declared.token.Token.{Token}
use Rattle.tapa_base.specs.declared.token.Token.TheVariants.{Datum, Eot}
use Rattle.kahn_model.specs.Prefix.{IsPrefixOf}
use Rattle.kahn_model.specs.Behavior.{Tick, StreamOperation, Read, Peek, TestEot, Open, Behavior, Finished, OutOfTurns, Act, Await, Offer, NoToken, WrongToken, Answer, judge_token, first_offer, tick_of, lists_after, on_offer, ticks}
use Rattle.kahn_model.specs.Network.{Network, IsNetwork, take_from, round}
use Rattle.kahn_model.specs.Counts.{round_of, ticks_made, written, taken, IsFounded}
use Rattle.kahn_model.proofs.Order.{prefix_trans, prefix_flat_map, prefix_take, take_prefix, prefix_whole}
use Rattle.kahn_model.proofs.Reach.{full, all_made}
use Rattle.kahn_model.proofs.Local.{here, here_all, here_prefix}

-- what a job takes begins its lists
first_is : (how : StreamOperation) (x t : Token) (v : ℕ) → judge_token how x ≡ Answer t v → x ≡ t
first_is Read (Datum w) t v e = cc
first_is Read Eot t v e = cc
first_is Peek (Datum w) t v e = cc
first_is Peek Eot t v e = cc
first_is TestEot (Datum w) t v e = cc
first_is TestEot Eot t v e = cc
first_is Open (Datum w) t v e = cc
first_is Open Eot t v e = cc

front_bool : (b : Bool) (t : Token) (ts l : List Token) → (b ≡ true → (us : List Token) × (l ≡ t ∷ us)) → IsPrefixOf ts (if b then drop 1 l else l) → IsPrefixOf ((if b then t ∷ [] else []) ++ ts) l
front_bool true t ts l h p =
    let w = h refl in subst (λ z. IsPrefixOf (t ∷ ts) z) (sym w.1) (refl, subst (λ z. IsPrefixOf ts (drop 1 z)) w.1 p)
front_bool false t ts l h p = p

test_is : (r s : ℕ) → (r == s) ≡ true → r ≡ s
test_is r s e = grind (arith, nat_tests)

front_by : (how : StreamOperation) (r s : ℕ) (t : Token) (us : List Token) (xs : ℕ → List Token) (ts : List Token) → xs r ≡ t ∷ us → IsPrefixOf ts (lists_after how r xs s) → IsPrefixOf (take_from s (tick_of how r t) ++ ts) (xs s)
front_by Read r s t us xs ts e p = front_bool (r == s) t ts (xs s) (λ b. (us, ap xs (sym (test_is r s b)) ∙ e)) p
front_by Peek r s t us xs ts e p = p
front_by TestEot r s t us xs ts e p = p
front_by Open r s t us xs ts e p = front_bool (r == s) t ts (xs s) (λ b. (us, ap xs (sym (test_is r s b)) ∙ e)) p

takes_found : (how : StreamOperation) (r s : ℕ) (x : Token) (us : List Token) (xs : ℕ → List Token) (o : Offer) (g : Token → ℕ → List Tick) → xs r ≡ x ∷ us → judge_token how x ≡ o → ((t : Token) (v : ℕ) → IsPrefixOf (flat_map (take_from s) (g t v)) (lists_after how r xs s)) → IsPrefixOf (flat_map (take_from s) (on_offer o [] [] (λ t v. tick_of how r t ∷ g t v))) (xs s)
takes_found how r s x us xs NoToken g e j h = tt
takes_found how r s x us xs WrongToken g e j h = tt
takes_found how r s x us xs (Answer t v) g e j h =
    front_by how r s t us xs (flat_map (take_from s) (g t v)) (e ∙ ap (λ z. z ∷ us) (first_is how x t v j)) (h t v)

takes_ask : (how : StreamOperation) (r s : ℕ) (l : List Token) (xs : ℕ → List Token) (g : Token → ℕ → List Tick) → xs r ≡ l → ((t : Token) (v : ℕ) → IsPrefixOf (flat_map (take_from s) (g t v)) (lists_after how r xs s)) → IsPrefixOf (flat_map (take_from s) (on_offer (first_offer how l) [] [] (λ t v. tick_of how r t ∷ g t v))) (xs s)
takes_ask how r s [] xs g e h = tt
takes_ask how r s (x ∷ us) xs g e h = takes_found how r s x us xs (judge_token how x) g e refl h

pub takes_begin : (a : Behavior) (xs : ℕ → List Token) (s : ℕ) → IsPrefixOf (flat_map (take_from s) (ticks a xs)) (xs s)
takes_begin Finished xs s = tt
takes_begin OutOfTurns xs s = tt
takes_begin (Act a rest) xs s = takes_begin rest xs s
takes_begin (Await r how rest) xs s =
    takes_ask how r s (xs r) xs (λ t v. ticks (rest v) (lists_after how r xs)) refl (λ t v. takes_begin (rest v) (lists_after how r xs) s)

module _ (net : Network) (ok : IsNetwork net) (k : ℕ → ℕ) (r : IsFounded net k) where
  -- the ticks made are the first of those found on what is written
  pub made_here : (i : ℕ) → ticks_made net k i ≡ take (k i) (here net k i)
  made_here i =
      let us = round net (round_of net k) i in
      let lm = all_made net ok k r i in
      let h = here_all net ok k r i in
      let lt = length-take-le (k i) (here net k i) h in
      sym (prefix_whole _ _ (prefix_take (k i) (k i) (here net k i) us (omega arith) (here_prefix net ok k (full net ok k r) i)) (omega arith))

  pub taken_begins : (s : ℕ) → IsPrefixOf (taken net k s) (written net k s)
  taken_begins s =
      let c = net.consumer s in
      prefix_trans _ _ _
      (subst (λ l. IsPrefixOf (flat_map (take_from s) l) (flat_map (take_from s) (here net k c))) (sym (made_here c))
      (prefix_flat_map (take_from s) _ _ (take_prefix (k c) (here net k c))))
      (takes_begin (net.job c (round_of net k)) (written net k) s)
