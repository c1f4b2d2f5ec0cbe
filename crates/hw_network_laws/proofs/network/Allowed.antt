-- A machine makes its step in a cycle exactly where the timed counts make the next tick: one lemma for each kind of step.
use Rattle.std.proofs.Common.{◌≡◌, ℕ, List, [], ◌∷◌, Bool, true, false, Option, Some, None, refl, sym, ap, ◌∙◌, subst}
use Rattle.std.specs.Prelude.{slice_get, not, ◌&&◌}
use Rattle.tapa_base.specs.declared.token.Token.{Token}
use Rattle.kahn_model.specs.declared.tick.Action.{Action}
use Rattle.kahn_model.specs.declared.tick.Action.TheVariants.{Local, Put, Load, Store}
use Rattle.kahn_model.specs.declared.tick.StreamOperation.{StreamOperation}
use Rattle.kahn_model.specs.declared.tick.Tick.{Tick}
use Rattle.kahn_model.specs.declared.tick.Tick.TheVariants.{Did, End}
use Rattle.kahn_model.specs.Behavior.{Behavior, Finished, OutOfTurns, Act, Await, Offer, NoToken, WrongToken, Answer, judge_token, first_offer, on_offer, tick_of, lists_after, ticks}
use Rattle.kahn_model.specs.Trace.{State, act_at, at_streams}
use Rattle.task_fsm.specs.Run.{StateStep, step_at}
use Rattle.hw_lines.specs.Signals.{Streams, Part}
use Rattle.hw_lines.specs.Machine.{offered, allows, allows_act}
use Rattle.hw_network_laws.proofs.network.Rest.{ticks_left, IsAlive, Continues}
use Rattle.hw_network_laws.proofs.network.Stands.{rest_at, tick_in, matched}
use Rattle.hw_network_laws.proofs.network.Ahead.{OwnsRest}

-- what a machine sees in cycle n of the tokens that it has not taken, and where each tick may be made
pub record IsSeen (S : Streams) (answers : ℕ → ℕ → Bool) (consumer : ℕ → ℕ) (n i : ℕ) (ins : ℕ → List Token) (may : Tick → Bool) : Type 0 where
  pub front : (s : ℕ) → consumer s ≡ i → S.has s n ≡ true → slice_get (ins s) 0 ≡ Some (S.dout s n)
  pub wait : (how : StreamOperation) (s : ℕ) (t : Token) → may (tick_of how s t) ≡ S.has s n
  pub room : (s : ℕ) (t : Token) → may (Did (Put s t)) ≡ S.rdy s n
  pub load : (m a : ℕ) → may (Did (Load m a)) ≡ answers m n
  pub store : (m a v : ℕ) → may (Did (Store m a v)) ≡ answers m n
  pub local : may (Did Local) ≡ true
  pub end : may End ≡ true

-- the next tick is made where it may be, and where there is none nothing is made
abbrev pub IsMade : List Tick → (Tick → Bool) → Bool → Type 0
IsMade l may mt = ((t : Tick) → slice_get l 0 ≡ Some t → mt ≡ may t) × (slice_get l 0 ≡ None → mt ≡ false)

act_allowed : (S : Streams) (answers : ℕ → ℕ → Bool) (consumer : ℕ → ℕ) (n i : ℕ) (ins : ℕ → List Token) (may : Tick → Bool) → IsSeen S answers consumer n i ins may → (f : ℕ → ℕ) (a : Action) → allows_act S answers f n a ≡ may (Did (act_at f a))
act_allowed S answers consumer n i ins may see f Local = sym see.local
act_allowed S answers consumer n i ins may see f (Put p t) = sym (see.room (f p) t)
act_allowed S answers consumer n i ins may see f (Load m a) = sym (see.load m a)
act_allowed S answers consumer n i ins may see f (Store m a v) = sym (see.store m a v)

first_of : (how : StreamOperation) (l : List Token) (d : Token) → slice_get l 0 ≡ Some d → first_offer how l ≡ judge_token how d
first_of how [] d e = cc
first_of how (t ∷ l) d e = let q : t ≡ d = cc in ap (judge_token how) q

abbrev awaited : StreamOperation → ℕ → (Token → ℕ → List Tick) → Offer → List Tick
awaited how s g o = on_offer o [] [] (λ t v. tick_of how s t ∷ g t v)

-- no token is offered
not_offered : (how : StreamOperation) (s : ℕ) (g : Token → ℕ → List Tick) (may : Tick → Bool) (mt : Bool) (o : Offer) → ((t : Token) → may (tick_of how s t) ≡ false) → IsMade (awaited how s g o) may mt → false ≡ mt
not_offered how s g may mt (Answer t v) w m = sym (m.0 (tick_of how s t) refl ∙ w t)
not_offered how s g may mt _ w m = sym (m.1 refl)

-- a token is offered, right or wrong
is_offered : (how : StreamOperation) (s : ℕ) (g : Token → ℕ → List Tick) (may : Tick → Bool) (mt : Bool) (o : Offer) → ((t : Token) → may (tick_of how s t) ≡ true) → IsMade (awaited how s g o) may mt → on_offer o false false (λ t v. true) ≡ mt
is_offered how s g may mt (Answer t v) w m = sym (m.0 (tick_of how s t) refl ∙ w t)
is_offered how s g may mt _ w m = sym (m.1 refl)

await_allowed : (how : StreamOperation) (s : ℕ) (g : Token → ℕ → List Tick) (may : Tick → Bool) (mt : Bool) (l : List Token) (d : Token) (b : Bool) → (b ≡ true → slice_get l 0 ≡ Some d) → ((t : Token) → may (tick_of how s t) ≡ b) → IsMade (awaited how s g (first_offer how l)) may mt → on_offer (offered b how d) false false (λ t v. true) ≡ mt
await_allowed how s g may mt l d false front w m = not_offered how s g may mt (first_offer how l) w m
await_allowed how s g may mt l d true front w m =
    is_offered how s g may mt (judge_token how d) w (subst (λ o. IsMade (awaited how s g o) may mt) (first_of how l d (front refl)) m)

module _ (part : Part) (S : Streams) (answers : ℕ → ℕ → Bool) (consumer producer : ℕ → ℕ) (n i : ℕ) (ins : ℕ → List Token) (may : Tick → Bool) (see : IsSeen S answers consumer n i ins may) where
  abbrev Agrees : ℕ → State → Bool → Bool → Type 0
  Agrees pc σ ended mt = (not ended && allows S answers part.bound n (step_at (slice_get part.places pc) pc σ)) ≡ mt

  running : (pc : ℕ) (σ : State) (ended mt : Bool) (x : StateStep) → ended ≡ false → step_at (slice_get part.places pc) pc σ ≡ x → allows S answers part.bound n x ≡ mt → Agrees pc σ ended mt
  running pc σ ended mt x e is a = ap (λ b. not b && allows S answers part.bound n (step_at (slice_get part.places pc) pc σ)) e ∙ ap (allows S answers part.bound n) is ∙ a

  pub step_allowed : (pc : ℕ) (σ : State) (ended : Bool) (q : Option Behavior) (mt : Bool) → Continues part.places pc σ ended q → IsAlive q → OwnsRest producer consumer i (rest_at part.bound q) → IsMade (ticks_left (rest_at part.bound q) ins) may mt → (not ended && allows S answers part.bound n (step_at (slice_get part.places pc) pc σ)) ≡ mt
  step_allowed pc σ ended None mt c l own m = ap (λ b. not b && allows S answers part.bound n (step_at (slice_get part.places pc) pc σ)) c ∙ sym (m.1 refl)
  step_allowed pc σ ended (Some Finished) mt (e, (X, f)) l own m =
      running pc σ ended mt _ e (matched part.places X Finished pc σ tt f) (sym (m.0 End refl ∙ see.end))
  step_allowed pc σ ended (Some OutOfTurns) mt c l own m = absurd l
  step_allowed pc σ ended (Some (Act a rest)) mt (e, (X, f)) l own m =
      let (pc', σ', Y, is, next) = matched part.places X (Act a rest) pc σ tt f in
      running pc σ ended mt _ e is (act_allowed S answers consumer n i ins may see part.bound a ∙ sym (m.0 (Did (act_at part.bound a)) refl))
  step_allowed pc σ ended (Some (Await p how k)) mt (e, (X, f)) l own m =
      let (pc', into, Y, is, next) = matched part.places X (Await p how k) pc σ tt f in
      let s = part.bound p in
      running pc σ ended mt _ e is
      (await_allowed how s (λ t v. ticks (at_streams part.bound (k v)) (lists_after how s ins)) may mt (ins s) (S.dout s n) (S.has s n) (see.front s own.0) (see.wait how s) m)

  -- and where it makes it, its tick is the next one
  awaited_tick : (how : StreamOperation) (s : ℕ) (g : Token → ℕ → List Tick) (l : List Token) (d : Token) (b : Bool) → (b ≡ true → slice_get l 0 ≡ Some d) → on_offer (offered b how d) false false (λ t v. true) ≡ true → slice_get (awaited how s g (first_offer how l)) 0 ≡ Some (on_offer (offered b how d) End End (λ t v. tick_of how s t))
  awaited_tick how s g l d false front a = cc
  awaited_tick how s g l d true front a =
      ap (λ o. slice_get (awaited how s g o) 0) (first_of how l d (front refl)) ∙ go (judge_token how d) a
    where
      go : (o : Offer) → on_offer o false false (λ t v. true) ≡ true → slice_get (awaited how s g o) 0 ≡ Some (on_offer o End End (λ t v. tick_of how s t))
      go NoToken a = cc
      go WrongToken a = cc
      go (Answer t v) a = refl

  abbrev Next : Option Behavior → StateStep → Type 0
  Next q x = slice_get (ticks_left (rest_at part.bound q) ins) 0 ≡ Some (tick_in S part.bound n x)

  pub step_is_next : (pc : ℕ) (σ : State) (q : Option Behavior) → Continues part.places pc σ false q → IsAlive q → OwnsRest producer consumer i (rest_at part.bound q) → allows S answers part.bound n (step_at (slice_get part.places pc) pc σ) ≡ true → slice_get (ticks_left (rest_at part.bound q) ins) 0 ≡ Some (tick_in S part.bound n (step_at (slice_get part.places pc) pc σ))
  step_is_next pc σ None c l own a = cc
  step_is_next pc σ (Some Finished) (e, (X, f)) l own a = subst (λ x. Next (Some Finished) x) (sym (matched part.places X Finished pc σ tt f)) refl
  step_is_next pc σ (Some OutOfTurns) c l own a = absurd l
  step_is_next pc σ (Some (Act b rest)) (e, (X, f)) l own a =
      let (pc', σ', Y, is, next) = matched part.places X (Act b rest) pc σ tt f in
      subst (λ x. Next (Some (Act b rest)) x) (sym is) refl
  step_is_next pc σ (Some (Await p how k)) (e, (X, f)) l own a =
      let (pc', into, Y, is, next) = matched part.places X (Await p how k) pc σ tt f in
      let s = part.bound p in
      subst (λ x. Next (Some (Await p how k)) x) (sym is)
      (awaited_tick how s (λ t v. ticks (at_streams part.bound (k v)) (lists_after how s ins)) (ins s) (S.dout s n) (S.has s n) (see.front s own.0) (subst (λ x. allows S answers part.bound n x ≡ true) is a))
