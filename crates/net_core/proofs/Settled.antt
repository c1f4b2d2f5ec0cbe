-- How driving a net ends.
use Rattle.std.proofs.Common.{◌≡◌, ℕ, ◌-◌, ◌<◌, ◌≤◌, length, Some, inl, inr, sym, ap, ◌∙◌, ⊎_elim, arith}
use Rattle.std.proofs.lemmas.Bool.{cases_lt}
use Rattle.std.proofs.lemmas.Option.{slice_get_within}
use Rattle.kahn_model.specs.Network.{Network}
use Rattle.kahn_model.specs.Counts.{IsFounded, IsAllowed}
use Rattle.kahn_model.specs.Outcome.{IsGreatest, IsJoined, HaveJoinedEnded, HasJoinedLeft}
use Rattle.kahn_model.specs.Ending.{EndsWithin}
use Rattle.kahn_model.proofs.Count.{step_stays}
use Rattle.kahn_model.proofs.Reach.{reach_founded}
use Rattle.kahn_model.proofs.Ends.{greatest, greatest_by}
use Rattle.kahn_model.proofs.Ended.{ended_over, ended_later}
use Rattle.kahn_model.proofs.Joined.{joined_more}
use Rattle.kahn_model.proofs.Shown.{ends_alike}
use Rattle.net_core.specs.declared.body.Pause.TheVariants.{Ended, Fuel}
use Rattle.net_core.specs.declared.outcome.Outcome.TheVariants.{Done, Stopped, Limit}
use Rattle.net_core.specs.declared.net_state.NetState.{NetState}
use Rattle.net_core.specs.Bindings.{stream_at}
use Rattle.net_core.specs.State.{network, count, joined_total, IsValid, IsWithin}
use Rattle.net_core.specs.Settle.{IsQuiet, IsSpent, IsAtRest, IsLimited, EndsAs, HasOutcome, AreTold, AreJoinedTold, AreJoinedEnded, IsSomeJoinedLeft, IsSomeWithFuel, AreNoneWithFuel}
use Rattle.net_core.proofs.Ends.{stopped, told, not_ended}
use Rattle.net_core.proofs.Shown.{detached_is}

module _ (net : NetState) (v : IsValid net) (budget left : ℕ) (within : IsWithin net budget left) where
  abbrev N : Network
  N = network net

  founded : IsFounded N (count net)
  founded = reach_founded N (count net) v.reachable

  inside : (j : ℕ) → j < N.size → j < length net.program.instances.items
  inside j l = let e = v.size in omega arith

  outside : (j : ℕ) → j < length net.program.instances.items → j < N.size
  outside j l = let e = v.size in omega arith

  -- the joined instances have made as many ticks as they may, and one of them goes on
  pub limit_ends : IsLimited net left → EndsAs net budget Limit
  limit_ends l =
      let g = greatest N v.is_network budget in
      let k = g.0 in
      let i = l.instance in
      let above : (j : ℕ) → count net j ≤ k j = g.1.above (count net) v.reachable within.capped in
      let sum = within.joined in
      let none = l.none in
      ⊎_elim
      (λ (less : count net i < k i).
      let more = joined_more N (count net) k i above l.allowed.supplied.inside l.joined less in
      (k, record { greatest = g.1; more = inl (omega arith) }))
      (λ (all : k i ≤ count net i).
      let a = above i in
      let here : IsAllowed N k i = step_stays N v.is_network (count net) k above i (omega arith) l.allowed in
      let on : HasJoinedLeft N k = record { instance = i; inside = l.allowed.supplied.inside; joined = l.joined; goes_on = λ e. ended_over N v.is_network k i e here } in
      (k, record { greatest = g.1; more = inr (record { left = on; instance = i; allowed = here }) }))
      (cases_lt (count net i) (k i))

  few : joined_total net ≤ budget
  few = let sum = within.joined in omega arith

  ticks : budget - left ≡ joined_total net
  ticks = let sum = within.joined in omega arith

  -- ---- where each joined instance answered last that it has ended

  ended_here : AreJoinedEnded net.program net.pauses → HaveJoinedEnded N (count net)
  ended_here h i l joined =
      let j = inside i l in
      let len = v.pauses_len in
      let e = h i (omega arith) (sym (detached_is net.program net.input i) ∙ joined) in
      told N v.is_network (count net) founded i l (stream_at net.program i) Ended (λ q. cc) ((v.paused i Ended e).for_good tt)

  ends_here : HaveJoinedEnded N (count net) → EndsWithin N budget
  ends_here ended =
      let g = greatest N v.is_network budget in
      let up : (j : ℕ) → count net j ≤ g.0 j = g.1.above (count net) v.reachable within.capped in
      let there : HaveJoinedEnded N g.0 = λ i l joined. ended_later N v.is_network (count net) g.0 up i (ended i l joined) in
      let same = (ends_alike N v.is_network (count net) g.0 v.reachable g.1.reachable ended there).ticks in
      let sum = within.joined in
      (g.0, record { greatest = g.1; ended = there; within = omega arith })

  pub done_ends : AreJoinedEnded net.program net.pauses → EndsAs net budget (Done (budget - left))
  done_ends h = let ended = ended_here h in (ends_here ended, ended, ticks)

  pub told_joined : AreJoinedEnded net.program net.pauses → AreJoinedTold net
  told_joined h j l joined =
      let len = v.pauses_len in
      let e = h j (omega arith) (sym (detached_is net.program net.input j) ∙ joined) in
      (Ended, e, ended_here h j (outside j l) joined)

  module _ (rest : (j : ℕ) → j < length net.program.instances.items → IsAtRest net budget j) where
    -- no instance steps below the budget
    none_below : (i : ℕ) → IsAllowed N (count net) i → count net i < budget → ⊥
    none_below i a l =
        let lt : i < N.size = a.supplied.inside in
        ⊎_elim
        (λ (q : IsQuiet net i). stopped N v.is_network (count net) founded i lt (stream_at net.program i) q.pause q.stopped q.holds a)
        (λ (s : IsSpent net budget i). let e = s.spent in omega arith)
        (rest i (inside i lt))

    greatest_here : IsGreatest N budget (count net)
    greatest_here = greatest_by N v.is_network budget (count net) v.reachable within.capped none_below

    told_quiet : (j : ℕ) → j < length net.program.instances.items → IsQuiet net j → HasOutcome net j
    told_quiet j l q = (q.pause, q.last, told N v.is_network (count net) founded j (outside j l) (stream_at net.program j) q.pause q.stopped q.holds)

    quiet_joined : (j : ℕ) → j < length net.program.instances.items → IsJoined N j → IsQuiet net j
    quiet_joined j l joined =
        ⊎_elim
        (λ (q : IsQuiet net j). q)
        (λ (s : IsSpent net budget j). let d = s.detached in absurd (cc))
        (rest j l)

    quiet_all : AreNoneWithFuel net.pauses → (j : ℕ) → j < length net.program.instances.items → IsQuiet net j
    quiet_all none j l =
        ⊎_elim
        (λ (q : IsQuiet net j). q)
        (λ (s : IsSpent net budget j). absurd (none j s.last))
        (rest j l)

    pub told_all : AreNoneWithFuel net.pauses → AreTold net
    told_all none j l = told_quiet j l (quiet_all none j l)

    left_here : IsSomeJoinedLeft net.program net.pauses → HasJoinedLeft N (count net)
    left_here (j, l, d, e) =
        let len = v.pauses_len in
        let lj : j < length net.program.instances.items = omega arith in
        let joined : IsJoined N j = detached_is net.program net.input j ∙ d in
        let q = quiet_joined j lj joined in
        record {
          instance = j;
          inside = outside j lj;
          joined = joined;
          goes_on = not_ended N v.is_network (count net) founded j (outside j lj) (stream_at net.program j) q.pause q.stopped (λ p. e (q.last ∙ ap (λ z. Some (Some z)) p)) q.holds;
        }

    -- a detached instance has made as many ticks as it may and goes on, and a joined one has not ended
    pub spent_ends : IsSomeJoinedLeft net.program net.pauses → IsSomeWithFuel net.pauses → EndsAs net budget Limit
    spent_ends h (j, at) =
        let len = v.pauses_len in
        let w = slice_get_within net.pauses j (Some Fuel) at in
        let lj : j < length net.program.instances.items = omega arith in
        let allowed : IsAllowed N (count net) j =
        ⊎_elim
        (λ (q : IsQuiet net j). let e = q.last in absurd (q.stopped (cc)))
        (λ (s : IsSpent net budget j). s.allowed)
        (rest j lj)
        in
        (count net, record { greatest = greatest_here; more = inr (record { left = left_here h; instance = j; allowed = allowed }) })

    pub stopped_ends : IsSomeJoinedLeft net.program net.pauses → AreNoneWithFuel net.pauses → EndsAs net budget (Stopped (budget - left))
    stopped_ends h none = (
      record {
        greatest = greatest_here;
        over = λ i a.
            let l : i < N.size = a.supplied.inside in
            let q = quiet_all none i (inside i l) in
            stopped N v.is_network (count net) founded i l (stream_at net.program i) q.pause q.stopped q.holds a;
        left = left_here h;
        within = few;
      },
      ticks,
    )
