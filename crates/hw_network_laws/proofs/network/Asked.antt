-- A machine stands at the act that its count makes next, and stands there until it is answered.
use Rattle.std.proofs.Common.{◌≡◌, ℕ, suc, ◌<◌, List, [], ◌∷◌, Bool, true, false, ◌&&◌, Option, Some, None, refl, sym, ap, ◌∙◌, arith}
use Rattle.std.specs.Prelude.{slice_get, nat_lt, if◌then◌else◌}
use Rattle.tapa_base.specs.declared.token.Token.{Token}
use Rattle.kahn_model.specs.declared.tick.Action.{Action}
use Rattle.kahn_model.specs.declared.tick.Action.TheVariants.{Load, Store}
use Rattle.kahn_model.specs.declared.tick.StreamOperation.{StreamOperation}
use Rattle.kahn_model.specs.declared.tick.StreamOperation.TheVariants.{Read}
use Rattle.kahn_model.specs.declared.tick.Tick.{Tick}
use Rattle.kahn_model.specs.declared.tick.Tick.TheVariants.{Did}
use Rattle.kahn_model.specs.Behavior.{Behavior, Finished, OutOfTurns, Act, Await, Offer, Answer, first_offer, on_offer, tick_of, lists_after, ticks}
use Rattle.kahn_model.specs.Counts.{next, IsSupplied}
use Rattle.kahn_model.specs.Network.{Network, IsNetwork}
use Rattle.kahn_model.specs.Timed.{Clock, moves, next_moves, tick_moves, past_of, count_at}
use Rattle.kahn_model.specs.Trace.{State}
use Rattle.kahn_model.proofs.Clocked.{clock_founded, count_up}
use Rattle.kahn_model.proofs.Count.{next_same}
use Rattle.kahn_model.proofs.Local.{fed_is_here}
use Rattle.task_fsm.specs.Machine.{StateForm}
use Rattle.task_fsm.specs.Run.{step_at}
use Rattle.hw_network_laws.specs.network.Asked.{act_of_tick, act_of_step, MachinesStandAtNext, RequestsStay}
use Rattle.circuit_meaning.specs.Pace.{memory_of}
use Rattle.hw_network_laws.proofs.network.Ahead.{ahead, first_is, first_tick, next_is}
use Rattle.hw_network_laws.proofs.network.Cycle.{alive, rest as rest_in, stood}
use Rattle.hw_network_laws.proofs.network.Rest.{Continues, IsAlive, ticks_left}
use Rattle.hw_network_laws.proofs.network.Stands.{matched, rest_at}
use Rattle.hw_network_laws.proofs.network.Together.{whole}

-- ---- the act of what is left

abbrev act_left : Option Behavior → Option Action
act_left None = None
act_left (Some (Act a rest)) = Some a
act_left _ = None

no_act : (how : StreamOperation) (s : ℕ) (t : Token) → act_of_tick (Some (tick_of how s t)) ≡ None
no_act Read s t = refl
no_act _ s t = refl

awaits_none : (how : StreamOperation) (s : ℕ) (o : Offer) (f : ℕ → List Tick) → act_of_tick (slice_get (on_offer o [] [] (λ t v. tick_of how s t ∷ f v)) 0) ≡ None
awaits_none how s (Answer t v) f = no_act how s t
awaits_none how s _ f = refl

first_act : (q : Option Behavior) (ins : ℕ → List Token) → act_of_tick (slice_get (ticks_left q ins) 0) ≡ act_left q
first_act (Some (Await s how k)) ins = awaits_none how s (first_offer how (ins s)) (λ v. ticks (k v) (lists_after how s ins))
first_act _ ins = refl

-- ---- the next tick of a count is the first of what is left, where it is an act

module _ (net : Network) (ok : IsNetwork net) (clock : Clock) (n i : ℕ) (inside : i < net.size) where
  abbrev count : ℕ → ℕ
  count = count_at net clock (suc n)

  act_there : (a : Action) → next net count i ≡ Some (Did a) → first_tick net count i ≡ Some (Did a)
  act_there a e =
      let u : IsSupplied net count i = record { inside = inside; tick = Did a; is_next = e; token = tt } in
      sym (first_is net ok count (clock_founded net ok clock (suc n)) i) ∙ fed_is_here net ok count (clock_founded net ok clock (suc n)) i u

  none_there : (o : Option Tick) → next net count i ≡ o → first_tick net count i ≡ None → act_of_tick o ≡ None
  none_there (Some (Did a)) e f = let bad : Some (Did a) ≡ None = sym (act_there a e) ∙ f in cc
  none_there _ e f = refl

  next_act_by : (o : Option Tick) → first_tick net count i ≡ o → act_of_tick (next net count i) ≡ act_of_tick o
  next_act_by None e = none_there (next net count i) refl e
  next_act_by (Some t) e = ap act_of_tick (next_is net ok clock (suc n) i (omega arith) inside t e)

  next_act : act_of_tick (next net count i) ≡ act_of_tick (first_tick net count i)
  next_act = next_act_by (first_tick net count i) refl

-- ---- and the act of the machine's step

act_here : (f : ℕ → ℕ) (P : List StateForm) (pc : ℕ) (σ : State) (ended : Bool) (q : Option Behavior) → Continues P pc σ ended q → IsAlive q
    → act_left (rest_at f q) ≡ (if ended then None else act_of_step f (step_at (slice_get P pc) pc σ))
act_here f P pc σ ended None c l = sym (ap (λ (b : Bool). if b then None else act_of_step f (step_at (slice_get P pc) pc σ)) c)
act_here f P pc σ ended (Some OutOfTurns) c l = absurd l
act_here f P pc σ ended (Some Finished) (e, (X, g)) l =
    sym (ap (λ (b : Bool). if b then None else act_of_step f (step_at (slice_get P pc) pc σ)) e ∙ ap (act_of_step f) (matched P X Finished pc σ tt g))
act_here f P pc σ ended (Some (Act a rest)) (e, (X, g)) l =
    let m = matched P X (Act a rest) pc σ tt g in
    sym (ap (λ (b : Bool). if b then None else act_of_step f (step_at (slice_get P pc) pc σ)) e ∙ ap (act_of_step f) m.3)
act_here f P pc σ ended (Some (Await s how k)) (e, (X, g)) l =
    let m = matched P X (Await s how k) pc σ tt g in
    sym (ap (λ (b : Bool). if b then None else act_of_step f (step_at (slice_get P pc) pc σ)) e ∙ ap (act_of_step f) m.3)

pub machines_stand_at_next : MachinesStandAtNext
machines_stand_at_next net clock parts S h ok n i inside =
    let w = whole net clock parts S h ok n in
    let keeps = w.1 i inside in
    let s = stood net clock parts S h ok n i inside w.0 keeps in
    let k = count_at net clock (suc n) in
    next_act net ok.network clock n i inside
    ∙ first_act (rest_in net clock parts S h ok n i inside w.0 keeps) (ahead net k i)
    ∙ ap act_left s.1
    ∙ act_here (parts i).bound (parts i).places ((h i).at (suc n)) ((h i).holds (suc n)) ((h i).ended (suc n)) s.0 s.2 (alive net clock parts S h ok n i inside w.0 keeps)

-- ---- a request stays until it is answered

both_off : (a b c : Bool) → c ≡ false → (a && (b && c)) ≡ false
both_off true true c e = e
both_off true false c e = refl
both_off false b c e = refl

module _ (net : Network) (clock : Clock) (n i : ℕ) where
  by_answer : (x : ℕ) (t : Tick) → memory_of t ≡ Some x → tick_moves net clock n (past_of net clock n) i t ≡ clock.answers i x n
  by_answer x (Did (Load y a)) e = let q : y ≡ x = cc in ap (λ z. clock.answers i z n) q
  by_answer x (Did (Store y a v)) e = let q : y ≡ x = cc in ap (λ z. clock.answers i z n) q
  by_answer x _ e = cc

  same_count : (t : Tick) → next net (count_at net clock n) i ≡ Some t → tick_moves net clock n (past_of net clock n) i t ≡ false → count_at net clock (suc n) i ≡ count_at net clock n i
  same_count t e f =
      let still : moves net clock n (past_of net clock n) i ≡ false =
      both_off (nat_lt 0 n) (nat_lt i net.size) _ (ap (next_moves net clock n (past_of net clock n) i) e ∙ f) in
      ap (λ (b : Bool). if b then suc (count_at net clock n i) else count_at net clock n i) still

pub requests_stay : RequestsStay
requests_stay net ok clock n i x t e m silent =
    let same = same_count net clock n i t e (by_answer net clock n i x t m ∙ silent) in
    next_same net ok (count_at net clock n) (count_at net clock (suc n)) (count_up net clock n) i (sym same) t e
