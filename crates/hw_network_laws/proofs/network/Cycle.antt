-- One cycle of one instance: its machine makes the next tick of the count, or neither does anything.
use Rattle.std.proofs.Common.{◌≡◌, ℕ, zero, suc, ◌<◌, ◌≤◌, List, [], ◌∷◌, ◌++◌, length, Bool, true, false, ◌&&◌, Option, Some, ◌⊎◌, inl, inr, ⊎_elim, refl, sym, ap, ◌∙◌, subst, arith}
use Rattle.std.specs.Prelude.{slice_get, not, if◌then◌else◌}
use Rattle.kahn_model.specs.declared.tick.Tick.{Tick}
use Rattle.kahn_model.specs.declared.tick.Tick.TheVariants.{End}
use Rattle.kahn_model.specs.Behavior.{Behavior, OutOfTurns}
use Rattle.kahn_model.specs.Network.{Network}
use Rattle.kahn_model.specs.Counts.{round_of, ticks_made, next}
use Rattle.kahn_model.specs.Timed.{Clock, tick_moves, past_of, count_at}
use Rattle.kahn_model.specs.Trace.{State}
use Rattle.kahn_model.proofs.Clocked.{clock_founded, count_up}
use Rattle.task_fsm.specs.Run.{StateStep, step_at, cells_after}
use Rattle.hw_lines.specs.After.{at_after, held_after, ends_by}
use Rattle.hw_lines.specs.Signals.{Streams, History, Part}
use Rattle.hw_lines.specs.Machine.{RunsMachine, steps, step_in, allows, found}
use Rattle.hw_network_laws.proofs.network.Rest.{after, ticks_left, rest_step, after_snoc, IsAlive, Continues}
use Rattle.hw_network_laws.specs.network.Clocked.{IsClocked, AreCarried}
use Rattle.hw_network_laws.proofs.network.Stands.{StandsFor, rest_at, tick_in, step_leaves, cells_are, cells_snoc, end_only, end_is}
use Rattle.hw_network_laws.proofs.network.Made.{made_more, made_stay}
use Rattle.hw_network_laws.proofs.network.Ahead.{OwnsRest, owns_after, rest_of, ahead, rest_alive, first_tick, it_moves, next_is, moves_by, moves_not}
use Rattle.hw_network_laws.proofs.network.Allowed.{IsMade, step_allowed, step_is_next}
use Rattle.hw_network_laws.proofs.network.Seen.{seen}
use Rattle.tapa_base.proofs.Tests.{not_so as false_is, both_true as and_parts}
use Rattle.tapa_base.proofs.Got.{last_at as get_last}

-- before a cycle the machine stands for what its job has left after these ticks
pub record Keeps (job : ℕ → Behavior) (part : Part) (ts : List Tick) (pc : ℕ) (σ : State) (ended : Bool) : Type 0 where
  pub stands : (m : ℕ) → StandsFor part pc σ ended (after (job m) ts)
  pub last : ended ≡ true → (j : ℕ) × (slice_get ts j ≡ Some End)
  pub only : (j : ℕ) → slice_get ts j ≡ Some End → ended ≡ true
  pub cells : σ.cells ≡ cells_after ts part.first.cells

alive_at : (f : ℕ → ℕ) (q : Option Behavior) → IsAlive (rest_at f q) → IsAlive q
alive_at f (Some OutOfTurns) l = l
alive_at f _ l = tt

get_snoc : {A : Type 0} (l : List A) (x y : A) (j : ℕ) → slice_get (l ++ x ∷ []) j ≡ Some y → (slice_get l j ≡ Some y) ⊎ (x ≡ y)
get_snoc [] x y zero e = inr (cc)
get_snoc [] x y (suc j) e = cc
get_snoc (z ∷ l) x y zero e = inl e
get_snoc (z ∷ l) x y (suc j) e = get_snoc l x y j e

clash : (b : Bool) → b ≡ true → b ≡ false → ⊥
clash true e f = cc
clash false e f = cc

module _ (job : ℕ → Behavior) (part : Part) (S : Streams) (answers : ℕ → ℕ → Bool) (n pc : ℕ) (σ : State) (ended : Bool) (ts : List Tick) (k : Keeps job part ts pc σ ended) where
  abbrev x : StateStep
  x = step_at (slice_get part.places pc) pc σ

  abbrev t : Tick
  t = tick_in S part.bound n x

  -- after its step
  pub keeps_more : (not ended && allows S answers part.bound n x) ≡ true → Keeps job part (ts ++ t ∷ []) (at_after x pc) (held_after x σ (found S part.bound n x)) (ends_by x)
  keeps_more go =
      let e : ended ≡ false = false_is ended (and_parts _ _ go).0 in
      let al : allows S answers part.bound n x ≡ true = (and_parts _ _ go).1 in
      record {
        stands = λ m.
            let (q, is, c) = k.stands m in
            let c' : Continues part.places pc σ false q = subst (λ b. Continues part.places pc σ b q) e c in
            subst (λ r. StandsFor part (at_after x pc) (held_after x σ (found S part.bound n x)) (ends_by x) r)
            (ap (λ r. rest_step r t) (sym is) ∙ sym (after_snoc (job m) ts t))
            (step_leaves part S answers n pc σ q al c');
        last = λ f. (length ts, get_last ts t ∙ ap Some (end_is S part.bound n x f));
        only = λ j f. ⊎_elim
            (λ (h : slice_get ts j ≡ Some End). absurd (clash ended (k.only j h) e))
            (λ (h : t ≡ End). end_only S answers part.bound n x al h)
            (get_snoc ts t End j f);
        cells = cells_are part S n pc σ ∙ ap (cells_after (t ∷ [])) k.cells ∙ sym (cells_snoc ts t part.first.cells);
      }

module _ (net : Network) (clock : Clock) (parts : ℕ → Part) (S : Streams) (h : ℕ → History) (ok : IsClocked net clock parts S h) (n i : ℕ) (inside : i < net.size) (so_far : (m : ℕ) → m ≤ suc n → AreCarried net clock S m) where
  abbrev now : ℕ → ℕ
  now = count_at net clock (suc n)

  abbrev made : List Tick
  made = ticks_made net now i

  abbrev does : Bool
  does = steps (parts i) S (clock.answers i) (h i) (suc n)

  abbrev tick : Tick
  tick = tick_in S (parts i).bound (suc n) (step_in (parts i) (h i) (suc n))

  module _ (k : Keeps (net.job i) (parts i) made ((h i).at (suc n)) ((h i).holds (suc n)) ((h i).ended (suc n))) where
    abbrev pub rest : Option Behavior
    rest = rest_of net now i

    pub stood : StandsFor (parts i) ((h i).at (suc n)) ((h i).holds (suc n)) ((h i).ended (suc n)) rest
    stood = k.stands (round_of net now)

    pub alive : IsAlive stood.0
    alive = alive_at (parts i).bound stood.0 (subst IsAlive stood.1 (rest_alive net ok.network now (clock_founded net ok.network clock (suc n)) i inside))

    own : OwnsRest net.producer net.consumer i (rest_at (parts i).bound stood.0)
    own = subst (OwnsRest net.producer net.consumer i) stood.1 (owns_after net.producer net.consumer i (net.job i (round_of net now)) made (ok.network.owns i (round_of net now)))

    is_made : IsMade (ticks_left rest (ahead net now i)) (tick_moves net clock (suc n) (past_of net clock (suc n)) i) (it_moves net ok.network clock (suc n) i)
    is_made = (
      λ t e. moves_by net ok.network clock (suc n) i (omega arith) inside t e,
      λ e. moves_not net ok.network clock (suc n) i (omega arith) inside e,
    )

    -- the machine makes its step exactly where the count makes its tick
    pub does_is : does ≡ it_moves net ok.network clock (suc n) i
    does_is =
        step_allowed (parts i) S (clock.answers i) net.consumer net.producer (suc n) i (ahead net now i) _
        (seen net clock S ok.channels n so_far i)
        ((h i).at (suc n)) ((h i).holds (suc n)) ((h i).ended (suc n)) stood.0 (it_moves net ok.network clock (suc n) i) stood.2 alive own
        (subst (λ r. IsMade (ticks_left r (ahead net now i)) (tick_moves net clock (suc n) (past_of net clock (suc n)) i) (it_moves net ok.network clock (suc n) i)) stood.1 is_made)

    -- and it is that tick
    is_next : does ≡ true → next net now i ≡ Some tick
    is_next e =
        let p = and_parts _ _ e in
        let c : Continues (parts i).places ((h i).at (suc n)) ((h i).holds (suc n)) false stood.0 =
        subst (λ b. Continues (parts i).places ((h i).at (suc n)) ((h i).holds (suc n)) b stood.0) (false_is ((h i).ended (suc n)) p.0) stood.2 in
        let first : first_tick net now i ≡ Some tick =
        subst (λ r. slice_get (ticks_left r (ahead net now i)) 0 ≡ Some tick) (sym stood.1)
        (step_is_next (parts i) S (clock.answers i) net.consumer net.producer (suc n) i (ahead net now i) _
        (seen net clock S ok.channels n so_far i)
        ((h i).at (suc n)) ((h i).holds (suc n)) stood.0 c alive own p.1) in
        next_is net ok.network clock (suc n) i (omega arith) inside tick first

    abbrev then' : ℕ → ℕ
    then' = count_at net clock (suc (suc n))

    count_next : (b : Bool) → does ≡ b → then' i ≡ (if b then suc (now i) else now i)
    count_next b e = ap (λ z. if z then suc (now i) else now i) (sym does_is ∙ e)

    pub made_by : does ≡ true → ticks_made net then' i ≡ made ++ tick ∷ []
    made_by e =
        made_more net ok.network now then' (count_up net clock (suc n)) (clock_founded net ok.network clock (suc n)) (clock_founded net ok.network clock (suc (suc n))) i tick (count_next true e) (is_next e)

    pub made_not : does ≡ false → ticks_made net then' i ≡ made
    made_not e =
        made_stay net ok.network now then' (count_up net clock (suc n)) (clock_founded net ok.network clock (suc n)) (clock_founded net ok.network clock (suc (suc n))) i (count_next false e)

    abbrev run : RunsMachine (parts i) S (clock.answers i) (λ s. net.consumer s ≡ i) (λ s. net.producer s ≡ i) (h i)
    run = ok.runs i inside

    pub keeps_next : Keeps (net.job i) (parts i) (ticks_made net then' i) ((h i).at (suc (suc n))) ((h i).holds (suc (suc n))) ((h i).ended (suc (suc n)))
    keeps_next = go does refl
      where
        go : (b : Bool) → does ≡ b → Keeps (net.job i) (parts i) (ticks_made net then' i) ((h i).at (suc (suc n))) ((h i).holds (suc (suc n))) ((h i).ended (suc (suc n)))
        go true e =
            let X = step_in (parts i) (h i) (suc n) in
            let a : (h i).at (suc (suc n)) ≡ at_after X ((h i).at (suc n)) = run.at n ∙ ap (λ b. if b then at_after X ((h i).at (suc n)) else (h i).at (suc n)) e in
            let σ : (h i).holds (suc (suc n)) ≡ held_after X ((h i).holds (suc n)) (found S (parts i).bound (suc n) X) =
            run.holds n ∙ ap (λ b. if b then held_after X ((h i).holds (suc n)) (found S (parts i).bound (suc n) X) else (h i).holds (suc n)) e in
            let d : (h i).ended (suc (suc n)) ≡ ends_by X = run.ended n ∙ ap (λ b. if b then ends_by X else (h i).ended (suc n)) e in
            let new = keeps_more (net.job i) (parts i) S (clock.answers i) (suc n) ((h i).at (suc n)) ((h i).holds (suc n)) ((h i).ended (suc n)) made k e in
            subst (λ ts. Keeps (net.job i) (parts i) ts ((h i).at (suc (suc n))) ((h i).holds (suc (suc n))) ((h i).ended (suc (suc n)))) (sym (made_by e))
            (subst (λ p. Keeps (net.job i) (parts i) (made ++ tick ∷ []) p ((h i).holds (suc (suc n))) ((h i).ended (suc (suc n)))) (sym a)
            (subst (λ s. Keeps (net.job i) (parts i) (made ++ tick ∷ []) (at_after X ((h i).at (suc n))) s ((h i).ended (suc (suc n)))) (sym σ)
            (subst (λ b. Keeps (net.job i) (parts i) (made ++ tick ∷ []) (at_after X ((h i).at (suc n))) (held_after X ((h i).holds (suc n)) (found S (parts i).bound (suc n) X)) b) (sym d) new)))
        go false e =
            let X = step_in (parts i) (h i) (suc n) in
            let a : (h i).at (suc (suc n)) ≡ (h i).at (suc n) = run.at n ∙ ap (λ b. if b then at_after X ((h i).at (suc n)) else (h i).at (suc n)) e in
            let σ : (h i).holds (suc (suc n)) ≡ (h i).holds (suc n) =
            run.holds n ∙ ap (λ b. if b then held_after X ((h i).holds (suc n)) (found S (parts i).bound (suc n) X) else (h i).holds (suc n)) e in
            let d : (h i).ended (suc (suc n)) ≡ (h i).ended (suc n) = run.ended n ∙ ap (λ b. if b then ends_by X else (h i).ended (suc n)) e in
            subst (λ ts. Keeps (net.job i) (parts i) ts ((h i).at (suc (suc n))) ((h i).holds (suc (suc n))) ((h i).ended (suc (suc n)))) (sym (made_not e))
            (subst (λ p. Keeps (net.job i) (parts i) made p ((h i).holds (suc (suc n))) ((h i).ended (suc (suc n)))) (sym a)
            (subst (λ s. Keeps (net.job i) (parts i) made ((h i).at (suc n)) s ((h i).ended (suc (suc n)))) (sym σ)
            (subst (λ b. Keeps (net.job i) (parts i) made ((h i).at (suc n)) ((h i).holds (suc n)) b) (sym d) k)))
