-- What a case answers where it is over is the outcome.
use Rattle.std.proofs.Common.{◌≡◌, ℕ, ◌<◌, ◌≤◌, ◌⊎◌, Bool, true, false, inl, inr, refl, sym, subst, ⊎_elim, arith}
use Rattle.std.specs.Prelude.{slice_get, Some}
use Rattle.std.proofs.lemmas.Bool.{cases_lt}
use Rattle.kahn_model.specs.declared.tick.Tick.TheVariants.{End}
use Rattle.kahn_model.specs.Network.{Network, IsNetwork}
use Rattle.kahn_model.specs.Counts.{ticks_made, IsAllowed, IsReachable}
use Rattle.kahn_model.specs.Outcome.{IsCapped, IsGreatest, IsJoined, joined_ticks, HaveJoinedEnded, HasJoinedLeft, GoesOn}
use Rattle.kahn_model.specs.Ending.{EndsWithin, GoesPast}
use Rattle.kahn_model.proofs.Order.{prefix_whole}
use Rattle.kahn_model.proofs.Count.{IsBelow, made_le, step_stays}
use Rattle.kahn_model.proofs.Reach.{reach_founded, all_made}
use Rattle.kahn_model.proofs.Ends.{greatest, greatest_by}
use Rattle.kahn_model.proofs.Ended.{ended_later}
use Rattle.kahn_model.proofs.Ending.{joined_left}
use Rattle.kahn_model.proofs.Joined.{joined_up, joined_more}
use Rattle.kahn_model.proofs.Shown.{ends_alike}
use Rattle.net_core.specs.declared.outcome.Outcome.{Outcome}
use Rattle.net_core.specs.declared.outcome.Outcome.TheVariants.{Done, Stopped, Limit}
use Rattle.net_case.specs.Over.{MayStep, IsOver, ClaimAnswers, MeansClaim}

-- whether an instance is joined
by_join : (b : Bool) → (b ≡ false) ⊎ (b ≡ true)
by_join false = inl refl
by_join true = inr refl

module _ (net : Network) (ok : IsNetwork net) (budget : ℕ) (k : ℕ → ℕ) (r : IsReachable net k) (cap : IsCapped net budget k) where
  -- an instance that has made as many ticks in a greater count has made the same
  made_same_at : (m : ℕ → ℕ) → IsReachable net m → IsBelow k m → (i : ℕ) → k i ≡ m i → ticks_made net m i ≡ ticks_made net k i
  made_same_at m rm below i e =
      let a = all_made net ok k (reach_founded net k r) i in
      let b = all_made net ok m (reach_founded net m rm) i in
      sym (prefix_whole _ _ (made_le net ok k m below i) (omega arith))

  not_both : (i : ℕ) → IsJoined net i → net.detached i ≡ true → ⊥
  not_both i j d = cc

  -- where no instance may step and the joined ones have ticks left, the count is the greatest
  greatest_here : ((i : ℕ) → MayStep net budget k i → ⊥) → joined_ticks net k < budget → IsGreatest net budget k
  greatest_here none more = greatest_by net ok budget k r cap (λ i a l. none i (record { allowed = a; joined = λ j. more; detached = λ d. l }))

  module _ (g : ℕ → ℕ) (best : IsGreatest net budget g) where
    up : IsBelow k g
    up i = best.above k r cap i

    -- a step that is allowed here and may not be made is allowed there
    stays : ((i : ℕ) → MayStep net budget k i → ⊥) → joined_ticks net g ≤ budget → (i : ℕ) → IsAllowed net k i → k i ≡ g i
    stays none few i a =
        let above = up i in
        ⊎_elim
        (λ (less : k i < g i).
        ⊎_elim
        (λ (j : net.detached i ≡ false).
        let rises = joined_more net k g i up a.supplied.inside j less in
        absurd (none i (record { allowed = a; joined = λ j'. omega arith; detached = λ d. absurd (not_both i j d) })))
        (λ (d : net.detached i ≡ true).
        let c = best.capped i in
        absurd (none i (record { allowed = a; joined = λ j. absurd (not_both i j d); detached = λ d'. omega arith })))
        (by_join (net.detached i)))
        (λ (same : g i ≤ k i). omega arith)
        (cases_lt (k i) (g i))

    -- a joined instance that has not ended here has not ended there
    left_there : ((i : ℕ) → MayStep net budget k i → ⊥) → joined_ticks net g ≤ budget → HasJoinedLeft net k → HaveJoinedEnded net g → ⊥
    left_there none few left all =
        let l = left.instance in
        let same : k l ≡ g l =
        ⊎_elim
        (λ (more : joined_ticks net k < budget).
        let here = greatest_here none more in
        let a = here.above g best.reachable best.capped l in
        let b = up l in
        omega arith)
        (λ (full : budget ≤ joined_ticks net k).
        ⊎_elim
        (λ (less : k l < g l). let rises = joined_more net k g l up left.inside left.joined less in absurd (omega arith))
        (λ (enough : g l ≤ k l). let b = up l in omega arith)
        (cases_lt (k l) (g l)))
        (cases_lt (joined_ticks net k) budget)
        in
        let e = all l left.inside left.joined in
        left.goes_on (e.0, subst (λ ts. slice_get ts e.0 ≡ Some End) (made_same_at g best.reachable up l same) e.1)

    past_by : ((i : ℕ) → MayStep net budget k i → ⊥) → GoesOn net k → GoesPast net budget
    past_by none on =
        ⊎_elim
        (λ (more : budget < joined_ticks net g). (g, record { greatest = best; more = inl more }))
        (λ (few : joined_ticks net g ≤ budget).
        let i = on.instance in
        let there = step_stays net ok k g up i (stays none few i on.allowed) on.allowed in
        ⊎_elim
        (λ (left : HasJoinedLeft net g). (g, record { greatest = best; more = inr (record { left = left; instance = i; allowed = there }) }))
        (λ (all : HaveJoinedEnded net g). absurd (left_there none few on.left all))
        (joined_left net g))
        (cases_lt budget (joined_ticks net g))

    done_by : joined_ticks net k ≤ budget → HaveJoinedEnded net k → EndsWithin net budget
    done_by few all =
        let ended : HaveJoinedEnded net g = λ i inside j. ended_later net ok k g up i (all i inside j) in
        let same = (ends_alike net ok k g r best.reachable all ended).ticks in
        (g, record { greatest = best; ended = ended; within = omega arith })

    more_by : budget < joined_ticks net k → GoesPast net budget
    more_by more = let a = joined_up net k g up in (g, record { greatest = best; more = inl (omega arith) })

  limit_means : IsOver net budget k → (budget < joined_ticks net k) ⊎ GoesOn net k → GoesPast net budget
  limit_means over h =
      let g = greatest net ok budget in
      ⊎_elim
      (λ (more : budget < joined_ticks net k). more_by g.0 g.1 more)
      (λ (on : GoesOn net k).
      ⊎_elim
      (λ (none : (i : ℕ) → MayStep net budget k i → ⊥). past_by g.0 g.1 none on)
      (λ (all : HaveJoinedEnded net k). absurd (on.left.goes_on (all on.left.instance on.left.inside on.left.joined)))
      over)
      h

  pub over_means : IsOver net budget k → (o : Outcome) → ClaimAnswers net budget k o → MeansClaim net budget k o
  over_means over (Done t) h = (let g = greatest net ok budget in done_by g.0 g.1 h.0 h.1, h.1, h.2)
  over_means over (Stopped t) h = (
    record {
      greatest = greatest_by net ok budget k r cap (λ i a l. h.2 i a);
      over = h.2;
      left = h.1;
      within = h.0;
    },
    h.3,
  )
  over_means over Limit h = limit_means over h
