-- What asking an instance how it stands, by a resume without fuel, leaves.
use Rattle.std.proofs.Common.{◌≡◌, ℕ, ◌<◌, length, Some, sym, ap, ◌∙◌, subst, ⊎_elim, arith}
use Rattle.std.specs.Prelude.{slice_get}
use Rattle.std.proofs.Math.Path.{fun_ext}
use Rattle.std.proofs.lemmas.Bool.Decides.{nat_tests}
use Rattle.tapa_syntax.specs.declared.program.Program.{Program}
use Rattle.kahn_model.specs.Counts.{written, taken}
use Rattle.kahn_model.specs.Outcome.{joined_ticks}
use Rattle.net_core.specs.declared.body.Pause.{Pause}
use Rattle.net_core.specs.declared.body.Pause.TheVariants.{Fuel}
use Rattle.net_core.specs.declared.input.Input.{Input}
use Rattle.net_core.specs.declared.net_state.NetState.{NetState}
use Rattle.net_core.specs.Bindings.{IsFedBySelf, stream_at}
use Rattle.net_core.specs.Bounded.{network_on}
use Rattle.net_core.specs.Waits.{HoldsPause}
use Rattle.net_core.specs.State.{network, count, given, joined_total, IsValid, IsWithin, IsAnswered, HasResumed}
use Rattle.net_core.proofs.Moves.{get_set_same, get_set_other}
use Rattle.net_core.proofs.Lasting.{decide_fuel}

-- a net at the count of another one is within the budget as that is
pub within_same : (old new : NetState) → given new ≡ given old → ((j : ℕ) → count new j ≡ count old j) → (budget left : ℕ) → IsWithin old budget left → IsWithin new budget left
within_same old new g same budget left w = record {
  capped = λ j. let a = w.capped j in let b = same j in omega arith;
  joined = let a = ticks in let b = w.joined in omega arith;
}
  where
    ticks : joined_total new ≡ joined_total old
    ticks = ap (λ (z : Program × Input). joined_ticks (network_on z.0 z.1) (count new)) g ∙ ap (joined_ticks (network old)) (fun_ext same)

module _ (old new : NetState) (v : IsValid old) (i : ℕ) (inside : i < length old.program.instances.items) (pause : Pause) (made : ℕ) (c : HasResumed old new i 0 pause made) where
  none : made ≡ 0
  none = let w = c.within in omega arith

  pub counts_same : (j : ℕ) → count new j ≡ count old j
  counts_same j = let z = none in c.counts j ∙ grind (arith, nat_tests)

  same : count new ≡ count old
  same = fun_ext counts_same

  told_is : c.told ≡ pause
  told_is =
      ⊎_elim (λ (q : c.told ≡ pause). q)
      (λ (q : IsFedBySelf old.program i × (0 < made) × (c.told ≡ Fuel)). let z = q.1 in let n = none in absurd (omega arith)) c.is_told.cases

  -- what holds in the old network holds in the new one, which is the same
  now_holds : (j : ℕ) (x : Pause) → HoldsPause (network old) (count new) j (stream_at old.program j) x → HoldsPause (network new) (count new) j (stream_at new.program j) x
  now_holds j x h = subst (λ (g : Program × Input). HoldsPause (network_on g.0 g.1) (count new) j (stream_at g.0 j) x) (sym c.given) h

  own_holds : HoldsPause (network old) (count new) i (stream_at old.program i) pause
  own_holds =
      ⊎_elim
      (λ (p : pause ≡ Fuel). subst (HoldsPause (network old) (count new) i (stream_at old.program i)) (sym p) (c.fuel_spent p).1)
      (λ (d : pause ≡ Fuel → ⊥). c.own d (λ p r. ap (λ m. written (network old) m (stream_at old.program i p)) same) (λ p r. ap (λ m. taken (network old) m (stream_at old.program i p)) same))
      (decide_fuel pause)

  pub answered_own : IsAnswered new i
  answered_own =
      let l = v.pauses_len in (
        pause,
        ap (λ l. slice_get l i) c.pauses ∙ get_set_same old.pauses i (Some c.told) (omega arith) ∙ ap (λ x. Some (Some x)) told_is,
        now_holds i pause own_holds,
      )

  pub answered_other : (j : ℕ) → (j ≡ i → ⊥) → IsAnswered old j → IsAnswered new j
  answered_other j d q = (
    q.0,
    ap (λ l. slice_get l j) c.pauses ∙ get_set_other old.pauses i j (Some c.told) (λ e. d (sym e)) ∙ q.1,
    now_holds j q.0 (subst (λ (k : ℕ → ℕ). HoldsPause (network old) k j (stream_at old.program j) q.0) (sym same) q.2),
  )
