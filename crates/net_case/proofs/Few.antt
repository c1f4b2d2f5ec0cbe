-- How many tokens a stream has at a reachable count.
use Rattle.std.proofs.Common.{◌≡◌, ℕ, ◌-◌, ◌<◌, ◌≤◌, ◌⊎◌, List, [], ◌∷◌, length, inl, inr, refl, sym, ap, subst, ⊎_elim, arith, length-append}
use Rattle.std.specs.Prelude.{flat_map}
use Rattle.std.proofs.lemmas.Bool.{cases_eq}
use Rattle.std.proofs.lemmas.Bool.Decides.{nat_tests}
use Rattle.std.proofs.Math.Path.{fun_ext}
use Rattle.kahn_model.specs.declared.tick.Action.TheVariants.{Local, Put, Load, Store}
use Rattle.kahn_model.specs.declared.tick.Tick.{Tick}
use Rattle.kahn_model.specs.declared.tick.Tick.TheVariants.{Did, Take, See, End}
use Rattle.kahn_model.specs.Network.{Network, IsNetwork, put_on}
use Rattle.kahn_model.specs.Counts.{ticks_made, written, taken, HasRoom, IsAllowed, IsReachable, AreAllowed, after, with_tick_of, zeros}
use Rattle.kahn_model.proofs.Count.{bump_above, taken_le}
use Rattle.kahn_model.proofs.Reach.{reach_founded, all_made}
use Rattle.kahn_model.proofs.Ends.{reach_push}
use Rattle.net_core.proofs.Chunk.{made_more, made_other, written_after}

pub put_one : (s : ℕ) (t : Tick) → length (put_on s t) ≤ 1
put_one s (Did (Put r u)) = ⊎_elim (λ (e : r ≡ s). grind (arith, nat_tests)) (λ (d : r ≡ s → ⊥). grind (arith, nat_tests)) (cases_eq r s)
put_one s (Did Local) = omega arith
put_one s (Did (Load a b)) = omega arith
put_one s (Did (Store a b c)) = omega arith
put_one s (Take q u) = omega arith
put_one s (See q u) = omega arith
put_one s End = omega arith

puts_few : (s : ℕ) (ts : List Tick) → length (flat_map (put_on s) ts) ≤ length ts
puts_few s [] = omega arith
puts_few s (t ∷ ts) =
    let a = put_one s t in
    let b = puts_few s ts in
    let c = length-append (put_on s t) (flat_map (put_on s) ts) in
    omega arith

-- no more tokens were written than ticks were made
pub written_few : (net : Network) → IsNetwork net → (k : ℕ → ℕ) → IsReachable net k → (s : ℕ) → length (written net k s) ≤ k (net.producer s)
written_few net ok k r s =
    let a = puts_few s (ticks_made net k (net.producer s)) in
    let b = all_made net ok k (reach_founded net k r) (net.producer s) in
    omega arith

-- a tick that puts a token finds room for it
put_room : (net : Network) (k : ℕ → ℕ) (s : ℕ) (t : Tick) → HasRoom net k t → (length (flat_map (put_on s) (t ∷ [])) ≡ 0) ⊎ ((length (flat_map (put_on s) (t ∷ [])) ≤ 1) × (length (written net k s) - length (taken net k s) < net.depth s))
put_room net k s (Did (Put r u)) h =
    ⊎_elim
    (λ (e : r ≡ s). inr (let a = puts_few s (Did (Put r u) ∷ []) in omega arith, subst (λ x. length (written net k x) - length (taken net k x) < net.depth x) e h))
    (λ (d : r ≡ s → ⊥). inl (grind (arith, nat_tests)))
    (cases_eq r s)
put_room net k s (Did Local) h = inl refl
put_room net k s (Did (Load a b)) h = inl refl
put_room net k s (Did (Store a b c)) h = inl refl
put_room net k s (Take q u) h = inl refl
put_room net k s (See q u) h = inl refl
put_room net k s End h = inl refl

module _ (net : Network) (ok : IsNetwork net) (s : ℕ) where
  abbrev Few : (ℕ → ℕ) → Type 0
  Few k = length (written net k s) - length (taken net k s) ≤ net.depth s

  few_step : (k : ℕ → ℕ) (i : ℕ) → IsReachable net k → (a : IsAllowed net k i) → Few k → Few (with_tick_of i k)
  few_step k i r a h =
      let m = with_tick_of i k in
      let f = reach_founded net k r in
      let f' = reach_founded net m (reach_push net k i r a) in
      let t = a.supplied.tick in
      let tk = taken_le net ok k m (bump_above i k) s in
      ⊎_elim
      (λ (e : net.producer s ≡ i).
      let w = ap length (written_after net k m i s (t ∷ []) e (made_more net ok k i t a.supplied.inside f a.supplied.is_next)) in
      let l = length-append (written net k s) (flat_map (put_on s) (t ∷ [])) in
      ⊎_elim
      (λ (none : length (flat_map (put_on s) (t ∷ [])) ≡ 0). omega arith)
      (λ (some : (length (flat_map (put_on s) (t ∷ [])) ≤ 1) × (length (written net k s) - length (taken net k s) < net.depth s)). let one = some.0 in let room = some.1 in omega arith)
      (put_room net k s t a.room))
      (λ (d : net.producer s ≡ i → ⊥).
      let w = ap length (ap (flat_map (put_on s)) (made_other net ok k i (net.producer s) f f' d)) in
      omega arith)
      (cases_eq (net.producer s) i)

  few_after : (steps : List ℕ) (k : ℕ → ℕ) → IsReachable net k → Few k → AreAllowed net steps k → Few (after steps k)
  few_after [] k r h a = h
  few_after (i ∷ steps) k r h (a, rest) = few_after steps (with_tick_of i k) (reach_push net k i r a) (few_step k i r a h) rest

  -- a stream has at most so many tokens as its depth
  pub room_few : (k : ℕ → ℕ) → IsReachable net k → length (written net k s) - length (taken net k s) ≤ net.depth s
  room_few k r =
      subst Few (sym (fun_ext r.is_after))
      (few_after r.steps zeros (record { steps = []; allowed = tt; is_after = λ i. refl }) (let e : length (written net zeros s) ≡ 0 = refl in omega arith) r.allowed)
