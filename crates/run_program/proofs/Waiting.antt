-- The lines of what instances wait for, one instance after another.
use Rattle.std.proofs.Common.{◌≡◌, ℕ, suc, ◌+◌, List, [], ◌∷◌, ◌++◌, ◌<◌, length, take, get_or, Option, Some, refl, sym, ap, subst, inl, inr, arith}
use Rattle.tapa_syntax.specs.declared.program.Instance.{Instance}
use Rattle.tapa_syntax.specs.declared.program.Stream.{Stream}
use Rattle.kahn_model.specs.Network.{Network}
use Rattle.net_core.specs.declared.body.Pause.{Pause}
use Rattle.net_core.specs.declared.body.Pause.TheVariants.{Ended, WantsRead, WantsWrite, BadToken, Fuel}
use Rattle.net_core.specs.Waits.{IsToldBy}
use Rattle.run_program.specs.Pauses.{pause_line, in_list, last_pause_lines}
use Rattle.run_program.specs.Run.{AreWaitLines}
use Rattle.std.specs.Prelude.{slice_index}
use Rattle.std.proofs.lemmas.List.{length-take-le}
use Rattle.std.proofs.Math.Seq.{take-suc}

-- what an instance was last told, where that is the pause that the network says
pub last_lines : (streams : List Stream) (x : Instance) (o : Option Pause) (p : Pause) → o ≡ Some p → last_pause_lines streams x o ≡ in_list (pause_line streams x p)
last_lines streams x o p is = ap (last_pause_lines streams x) is

module _ (net : Network) (k : ℕ → ℕ) (streams : List Stream) where
  pub waits_append : (n : ℕ) (xs ys : List Instance) (t u : List (List ℕ)) → AreWaitLines net k streams n xs t → AreWaitLines net k streams (n + length xs) ys u → AreWaitLines net k streams n (xs ++ ys) (t ++ u)
  waits_append n [] ys t u is rest =
      subst (λ (v : List (List ℕ)). AreWaitLines net k streams n ys v) (ap (λ (v : List (List ℕ)). v ++ u) (sym is)) (subst (λ (m : ℕ). AreWaitLines net k streams m ys u) (omega arith) rest)
  waits_append n (x ∷ xs) ys t u both rest =
      let next : AreWaitLines net k streams (suc n + length xs) ys u = subst (λ (m : ℕ). AreWaitLines net k streams m ys u) (omega arith) rest in
      elim both [
        | inl w ↦ inl (w.0, waits_append (suc n) xs ys t u w.1 next)
        | inr w ↦ inr (w.0, w.1 ++ u, ap (λ (v : List (List ℕ)). v ++ u) w.2, w.3, waits_append (suc n) xs ys w.1 u w.4 next)
      ]

  -- the lines of one instance, by its last pause
  pub waits_one : (i : ℕ) (x : Instance) (pause : Pause) → IsToldBy net k i (λ p. slice_index x.streams.items p) pause → AreWaitLines net k streams i (x ∷ []) (in_list (pause_line streams x pause))
  waits_one i x Ended told = inl (told, refl)
  waits_one i x Fuel told = absurd told
  waits_one i x (WantsRead p) told = inr (_, [], refl, (slice_index x.streams.items p, inl (told, refl)), refl)
  waits_one i x (WantsWrite p) told = inr (_, [], refl, (slice_index x.streams.items p, inr (inl (told, refl))), refl)
  waits_one i x (BadToken p) told = inr (_, [], refl, (slice_index x.streams.items p, inr (inr (told, refl))), refl)

  -- one instance more
  pub waits_more : (xs : List Instance) (i : ℕ) (d : Instance) (t : List (List ℕ)) (pause : Pause) → i < length xs → AreWaitLines net k streams 0 (take i xs) t → IsToldBy net k i (λ p. slice_index (get_or xs i d).streams.items p) pause → AreWaitLines net k streams 0 (take (suc i) xs) (t ++ in_list (pause_line streams (get_or xs i d) pause))
  waits_more xs i d t pause h so_far told =
      rw (take-suc xs i d h) (waits_append 0 (take i xs) (get_or xs i d ∷ []) t _ so_far
      (subst (λ (m : ℕ). AreWaitLines net k streams m (get_or xs i d ∷ []) (in_list (pause_line streams (get_or xs i d) pause))) (let l = length-take-le i xs (omega arith) in omega arith) (waits_one i (get_or xs i d) pause told)))
