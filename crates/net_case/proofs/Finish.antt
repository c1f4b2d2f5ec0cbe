-- What holds of every case, and what is answered where nothing is to be handed out.
use Rattle.std.proofs.Common.{◌≡◌, ℕ, ◌<◌, ◌≤◌, List, length, Bool, true, false, Option, Some, inl, inr, refl, sym, ap, ◌∙◌, ⊎_elim, arith}
use Rattle.std.specs.Prelude.{slice_get, is_none, MatchBool, nat_lt, if◌then◌else◌}
use Rattle.std.proofs.lemmas.Bool.Decides.{nat_tests}
use Rattle.std.proofs.lemmas.List.{length-map}
use Rattle.std.proofs.lemmas.Option.{slice_get_within}
use Rattle.tapa_syntax.specs.declared.program.Program.{Program}
use Rattle.kahn_model.specs.declared.tick.Tick.{Tick}
use Rattle.kahn_model.specs.Network.{Network}
use Rattle.kahn_model.specs.Counts.{IsAllowed, HasEnded, IsFounded}
use Rattle.kahn_model.specs.Outcome.{HaveJoinedEnded, HasJoinedLeft}
use Rattle.kahn_model.proofs.Reach.{reach_founded}
use Rattle.net_core.specs.declared.body.Pause.{Pause}
use Rattle.net_core.specs.declared.body.Pause.TheVariants.{Ended, Fuel}
use Rattle.net_core.specs.declared.input.Input.{Input}
use Rattle.net_core.specs.declared.outcome.Outcome.{Outcome}
use Rattle.net_core.specs.declared.outcome.Outcome.TheVariants.{Done, Stopped, Limit}
use Rattle.net_core.specs.Job.{Job}
use Rattle.net_core.specs.Bindings.{stream_at}
use Rattle.net_core.specs.Bounded.{network_on, count_of}
use Rattle.net_core.specs.Settle.{EndsAs, AreTold, AreJoinedTold, IsSettled, AreJoinedEnded, IsSomeJoinedLeft, IsSomeWithFuel, AreNoneWithFuel}
use Rattle.net_core.proofs.Ends.{stopped, told}
use Rattle.net_core.proofs.Shown.{detached_is}
use Rattle.net_case.specs.declared.batch.Process.{Process}
use Rattle.net_case.specs.declared.case_state.CaseState.{CaseState}
use Rattle.net_case.specs.declared.queue.Queue.{Queue}
use Rattle.net_case.specs.Home.{IsQuiet, IsHeldBack, IsCaseAt, outs}
use Rattle.net_case.specs.Over.{MayStep, IsOver, ClaimAnswers}
use Rattle.net_case.specs.State.{net_of, IsOut, IsAtHome, AreAllHome, IsValidCase}
use Rattle.net_case.specs.Claims.{IsFinished, Rests, IsEnd, MustWait}
use Rattle.net_case.proofs.Over.{over_means}
use Rattle.net_case.proofs.Same.{same_case}

pub valid_of : {B : Type 0} {Stands : B → Job → List Tick → Type 0} {program : Program} {input : Input} {budget : ℕ} {homes : List (Option (Process B))} {queues : List Queue} {taken_list offered counts : List ℕ} {pauses : List (Option Pause)} {listed : List Bool} {joined : ℕ} {writers : List ℕ} {fed : List Bool} → IsCaseAt Stands program input budget homes queues taken_list offered counts pauses listed joined writers fed → IsValidCase (record { program = program; input = input; budget = budget; counts = counts; out = outs homes; pauses = pauses })
valid_of {homes} c = record {
  connected = c.connected;
  well_formed = c.well_formed;
  fits = c.fits;
  is_network = c.network.is_network;
  size = c.network.size;
  reachable = c.reachable;
  capped = c.capped;
  few = c.few;
  counts_len = c.counts_len;
  out_len = length-map homes is_none ∙ c.homes_len;
  pauses_len = c.pauses_len;
}

module _ {B : Type 0} {Stands : B → Job → List Tick → Type 0} {program : Program} {input : Input} {budget : ℕ} {homes : List (Option (Process B))} {queues : List Queue} {taken_list offered counts : List ℕ} {pauses : List (Option Pause)} {listed : List Bool} {joined : ℕ} {writers : List ℕ} {fed : List Bool} (c : IsCaseAt Stands program input budget homes queues taken_list offered counts pauses listed joined writers fed) where
  abbrev N : Network
  N = network_on program input

  abbrev k : ℕ → ℕ
  k = count_of counts

  abbrev state : CaseState
  state = record { program = program; input = input; budget = budget; counts = counts; out = outs homes; pauses = pauses }

  founded : IsFounded N k
  founded = reach_founded N k c.reachable

  in_list : (j : ℕ) → j < N.size → j < length program.instances.items
  in_list j l = let e = c.network.size in omega arith

  in_net : (j : ℕ) → j < length program.instances.items → j < N.size
  in_net j l = let e = c.network.size in omega arith

  ended_of : (j : ℕ) → j < N.size → slice_get pauses j ≡ Some (Some Ended) → HasEnded N k j
  ended_of j l e = told N c.network.is_network k founded j l (stream_at program j) Ended (λ q. cc) ((c.paused j Ended e).for_good tt)

  pub joined_ended : AreJoinedEnded program pauses → HaveJoinedEnded N k
  joined_ended h j l q = let a = in_list j l in let e = c.pauses_len in ended_of j l (h j (omega arith) (sym (detached_is program input j) ∙ q))

  pub some_left : IsSomeJoinedLeft program pauses → HasJoinedLeft N k
  some_left (j, l, d, n) =
      let e = c.pauses_len in
      let a : j < length program.instances.items = omega arith in
      record { instance = j; inside = in_net j a; joined = detached_is program input j ∙ d; goes_on = c.unended j a n }

  pub joined_told : AreJoinedEnded program pauses → AreJoinedTold (net_of state)
  joined_told h j l q =
      let e = c.pauses_len in
      let at = h j (omega arith) (sym (detached_is program input j) ∙ q) in
      (Ended, at, ended_of j (in_net j l) at)

  pub done_by : (b : Bool) → MatchBool b (AreJoinedEnded program pauses) (IsSomeJoinedLeft program pauses) → MatchBool b (HaveJoinedEnded N k) (HasJoinedLeft N k)
  done_by true h = joined_ended h
  done_by false h = some_left h

  pub told_by : (b : Bool) → MatchBool b (AreJoinedEnded program pauses) (IsSomeJoinedLeft program pauses) → b ≡ true → AreJoinedTold (net_of state)
  told_by true h e = joined_told h
  told_by false h e = absurd (cc)

  -- ---- where each instance at home is at rest

  pub at_rest_stays : (j : ℕ) → Rests state j → MayStep N budget k j → ⊥
  at_rest_stays j (x, e, r) may =
      ⊎_elim
      (λ (q : IsQuiet N k j (stream_at program j) x). stopped N c.network.is_network k founded j may.allowed.supplied.inside (stream_at program j) x q.stopped q.holds may.allowed)
      (λ (h : IsHeldBack N budget k j x). by (N.detached j) refl h)
      r
    where
      by : (b : Bool) → N.detached j ≡ b → IsHeldBack N budget k j x → ⊥
      by true d h = let u = h.detached d in let v = may.detached d in omega arith
      by false d h = let u = h.joined d in let v = may.joined d in omega arith

  module _ (home : AreAllHome state) (finished : IsFinished state) where
    pub goes_past : budget < joined → ClaimAnswers N budget k Limit
    goes_past l = let e = c.joined_is in inl (omega arith)

    pub is_done : joined ≤ budget → HaveJoinedEnded N k → ClaimAnswers N budget k (Done joined)
    is_done l h = let e = c.joined_is in (omega arith, h, e)

    module _ (left : HasJoinedLeft N k) where
      rest_of : (j : ℕ) → j < length program.instances.items → Rests state j
      rest_of j l =
          ⊎_elim
          (λ (r : (i : ℕ) → IsAtHome state i → i < length counts → Rests state i). r j (home j) (let e = c.counts_len in omega arith))
          (λ (h : HaveJoinedEnded N k). absurd (left.goes_on (h left.instance left.inside left.joined)))
          finished

      pub some_fuel : IsSomeWithFuel pauses → ClaimAnswers N budget k Limit
      some_fuel (j, at) =
          let w = slice_get_within pauses j (Some Fuel) at in
          let e = c.pauses_len in
          let l : j < length program.instances.items = omega arith in
          let r = rest_of j l in
          let same : r.0 ≡ Fuel = let z = sym r.1 ∙ at in cc in
          let allowed : IsAllowed N k j = ⊎_elim (λ (q : IsQuiet N k j (stream_at program j) r.0). absurd (q.stopped same)) (λ (h : IsHeldBack N budget k j r.0). h.allowed) r.2 in
          inr (record { left = left; instance = j; allowed = allowed })

      module _ (none : AreNoneWithFuel pauses) where
        quiet_at : (j : ℕ) → j < length program.instances.items → (x : Pause) × (slice_get pauses j ≡ Some (Some x)) × IsQuiet N k j (stream_at program j) x
        quiet_at j l =
            let r = rest_of j l in
            ⊎_elim
            (λ (q : IsQuiet N k j (stream_at program j) r.0). (r.0, r.1, q))
            (λ (h : IsHeldBack N budget k j r.0). absurd (none j (r.1 ∙ ap (λ z. Some (Some z)) h.fuel)))
            r.2

        pub is_stopped : joined ≤ budget → ClaimAnswers N budget k (Stopped joined)
        is_stopped l =
            let e = c.joined_is in (
              omega arith,
              left,
              (λ i a.
                  let q = quiet_at i (in_list i a.supplied.inside) in
                  stopped N c.network.is_network k founded i a.supplied.inside (stream_at program i) q.0 q.2.stopped q.2.holds a),
              e,
            )

        pub all_told : AreTold (net_of state)
        all_told j l = let q = quiet_at j l in (q.0, q.1, told N c.network.is_network k founded j (in_net j l) (stream_at program j) q.0 q.2.stopped q.2.holds)

    -- nothing is left to do
    pub is_over : IsOver N budget k
    is_over =
        ⊎_elim
        (λ (r : (i : ℕ) → IsAtHome state i → i < length counts → Rests state i). inl (λ i may. at_rest_stays i (r i (home i) (let a = in_list i may.allowed.supplied.inside in let e = c.counts_len in omega arith)) may))
        (λ (h : HaveJoinedEnded N k). inr h)
        finished

    pub ends_so : (o : Outcome) → ClaimAnswers N budget k o → EndsAs (net_of state) budget o
    ends_so (Done t) h = over_means N c.network.is_network budget k c.reachable c.capped is_over (Done t) h
    ends_so (Stopped t) h = over_means N c.network.is_network budget k c.reachable c.capped is_over (Stopped t) h
    ends_so Limit h = over_means N c.network.is_network budget k c.reachable c.capped is_over Limit h

    abbrev pub ending : Bool → Bool → Bool → Outcome
    ending past done on = if past then Limit else (if done then Done joined else (if on then Limit else Stopped joined))

    answer_by : (past done on : Bool) → (past ≡ true → budget < joined) → (past ≡ false → joined ≤ budget) → MatchBool done (HaveJoinedEnded N k) (HasJoinedLeft N k) → MatchBool on (IsSomeWithFuel pauses) (AreNoneWithFuel pauses) → ClaimAnswers N budget k (ending past done on)
    answer_by true done on more few d o = goes_past (more refl)
    answer_by false true on more few d o = is_done (few refl) d
    answer_by false false true more few d o = some_fuel d o
    answer_by false false false more few d o = is_stopped d o (few refl)

    settled_by : (past done on : Bool) → (done ≡ true → AreJoinedTold (net_of state)) → MatchBool done (HaveJoinedEnded N k) (HasJoinedLeft N k) → MatchBool on (IsSomeWithFuel pauses) (AreNoneWithFuel pauses) → IsSettled (net_of state) (ending past done on)
    settled_by true done on t d o = tt
    settled_by false true on t d o = t refl
    settled_by false false true t d o = tt
    settled_by false false false t d o = all_told d o

    pub answers : (done on : Bool) → MatchBool done (HaveJoinedEnded N k) (HasJoinedLeft N k) → MatchBool on (IsSomeWithFuel pauses) (AreNoneWithFuel pauses) → ClaimAnswers N budget k (ending (nat_lt budget joined) done on)
    answers done on d o = answer_by (nat_lt budget joined) done on (λ e. grind (arith, nat_tests)) (λ e. grind (arith, nat_tests)) d o

    pub settles : (done on : Bool) → (done ≡ true → AreJoinedTold (net_of state)) → MatchBool done (HaveJoinedEnded N k) (HasJoinedLeft N k) → MatchBool on (IsSomeWithFuel pauses) (AreNoneWithFuel pauses) → IsSettled (net_of state) (ending (nat_lt budget joined) done on)
    settles done on t d o = settled_by (nat_lt budget joined) done on t d o

    pub is_end : (o : Outcome) → ClaimAnswers N budget k o → IsSettled (net_of state) o → IsEnd state o state
    is_end o a s = record { same = same_case state; home = home; over = is_over; answer = a; outcome = ends_so o a; settled = s }

  -- some instance is out
  pub must_wait : IsFinished state → (i : ℕ) × IsOut state i → MustWait state state
  must_wait finished away = record {
    same = same_case state;
    away = away;
    idle =
        ⊎_elim
        (λ (r : (i : ℕ) → IsAtHome state i → i < length counts → Rests state i). inl (λ i h may. at_rest_stays i (r i h (let a = in_list i may.allowed.supplied.inside in let e = c.counts_len in omega arith)) may))
        (λ (h : HaveJoinedEnded N k). inr h)
        finished;
  }
