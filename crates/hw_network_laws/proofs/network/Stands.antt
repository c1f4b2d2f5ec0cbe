-- One machine: what its state stands for, and one step of it.
use Rattle.std.proofs.Common.{◌≡◌, ℕ, List, [], ◌∷◌, ◌++◌, Bool, true, false, Option, Some, None, refl, sym, ap, ◌∙◌, subst, arith}
use Rattle.std.specs.Prelude.{slice_get, ◌==◌, ◌&&◌, if◌then◌else◌}
use Rattle.std.proofs.lemmas.Bool.Decides.{nat_tests}
use Rattle.tapa_base.specs.declared.token.Token.{Token}
use Rattle.kahn_model.specs.declared.tick.Action.{Action}
use Rattle.kahn_model.specs.declared.tick.Action.TheVariants.{Local}
use Rattle.kahn_model.specs.declared.tick.StreamOperation.{StreamOperation}
use Rattle.kahn_model.specs.declared.tick.StreamOperation.TheVariants.{Read, Peek, TestEot}
use Rattle.kahn_model.specs.declared.tick.Tick.{Tick}
use Rattle.kahn_model.specs.declared.tick.Tick.TheVariants.{Did, End}
use Rattle.kahn_model.specs.Behavior.{Behavior, Finished, OutOfTurns, Act, Await, Offer, Answer, judge_token, on_offer, takes, tick_of}
use Rattle.kahn_model.specs.Network.{put_on, take_from}
use Rattle.kahn_model.specs.Trace.{State, act_at, at_streams}
use Rattle.task_fsm.specs.Machine.{StateForm, EndAt}
use Rattle.task_fsm.specs.Run.{StateStep, Performs, Awaits, Completes, Halts, step, step_at, put_into, cells_after, cells_by}
use Rattle.task_fsm.specs.Follows.{Follows}
use Rattle.task_fsm.proofs.Runs.{StepCells, step_at_cells, into_cells}
use Rattle.hw_lines.specs.After.{at_after, held_after, ends_by}
use Rattle.hw_lines.specs.Signals.{Streams, Part}
use Rattle.hw_lines.specs.Machine.{offered, offer_in, allows, found, takes_of, puts_by, puts_of}
use Rattle.hw_network_laws.proofs.network.Rest.{after, rest_step, same_answer, same_token, after_answer, IsAlive, Continues, still}

-- a rest at the streams of the ports
abbrev pub rest_at : (ℕ → ℕ) → Option Behavior → Option Behavior
rest_at f None = None
rest_at f (Some b) = Some (at_streams f b)

-- a machine in this state makes the ticks of what is left of a job
abbrev pub StandsFor : Part → ℕ → State → Bool → Option Behavior → Type 0
StandsFor part pc σ ended r = (q : Option Behavior) × (r ≡ rest_at part.bound q) × Continues part.places pc σ ended q

at_form : (o : Option StateForm) (p : StateForm) (pc : ℕ) (σ : State) (x : StateStep) → o ≡ Some p → step p pc σ ≡ x → step_at o pc σ ≡ x
at_form o p pc σ x e f = ap (λ z. step_at z pc σ) e ∙ f

-- the machine's step is the next of the job
abbrev pub Matched : List StateForm → State → Behavior → StateStep → Type 0
Matched P σ Finished x = x ≡ Completes
Matched P σ OutOfTurns x = ⊥
Matched P σ (Act a rest) x = (pc' : ℕ) × (σ' : State) × (X : List ℕ) × (x ≡ Performs a pc' σ') × Follows P X rest pc' σ'
Matched P σ (Await s how k) x = (pc' : ℕ) × (into : Option ℕ) × (X : List ℕ) × (x ≡ Awaits s how pc' into) × ((v : ℕ) → Follows P X (k v) pc' (put_into σ into v))

pub matched : (P : List StateForm) (X : List ℕ) (b : Behavior) (pc : ℕ) (σ : State) → IsAlive (Some b) → Follows P X b pc σ → Matched P σ b (step_at (slice_get P pc) pc σ)
matched P X Finished pc σ l f = at_form (slice_get P pc) EndAt pc σ Completes f refl
matched P X OutOfTurns pc σ l f = absurd l
matched P X (Act a rest) pc σ l (p, pc', σ', at, is, uses, next) = (pc', σ', _, at_form (slice_get P pc) p pc σ (Performs a pc' σ') at is, next)
matched P X (Await s how k) pc σ l (p, pc', into, at, is, keeps, uses, next) = (pc', into, X, at_form (slice_get P pc) p pc σ (Awaits s how pc' into) at is, next)

-- the tick of a step that the inputs of a cycle allow
abbrev pub tick_in : Streams → (ℕ → ℕ) → ℕ → StateStep → Tick
tick_in S f n (Performs a pc σ) = Did (act_at f a)
tick_in S f n (Awaits p how pc into) = on_offer (offer_in S n (f p) how) End End (λ t v. tick_of how (f p) t)
tick_in S f n _ = End

pub offered_answer : (b : Bool) (how : StreamOperation) (d t : Token) (v : ℕ) → offered b how d ≡ Answer t v → judge_token how t ≡ Answer t v
offered_answer true how d t v e = same_answer how d t v e
offered_answer false how d t v e = cc

pub offered_token : (b : Bool) (how : StreamOperation) (d t : Token) (v : ℕ) → offered b how d ≡ Answer t v → t ≡ d
offered_token true how d t v e = same_token how d t v e
offered_token false how d t v e = cc

-- what a step leaves
abbrev Leaves : Part → Streams → ℕ → ℕ → State → Option Behavior → StateStep → Type 0
Leaves part S n pc σ r x = StandsFor part (at_after x pc) (held_after x σ (found S part.bound n x)) (ends_by x) (rest_step r (tick_in S part.bound n x))

await_leaves : (part : Part) (X : List ℕ) (p : ℕ) (how : StreamOperation) (k : ℕ → Behavior) (pc' : ℕ) (into : Option ℕ) (σ : State) (o : Offer) → on_offer o false false (λ t v. true) ≡ true → ((t : Token) (v : ℕ) → o ≡ Answer t v → judge_token how t ≡ Answer t v) → ((v : ℕ) → Follows part.places X (k v) pc' (put_into σ into v)) → StandsFor part pc' (put_into σ into (on_offer o 0 0 (λ t v. v))) false (after (Await (part.bound p) how (λ v. at_streams part.bound (k v))) (on_offer o End End (λ t v. tick_of how (part.bound p) t) ∷ []))
await_leaves part X p how k pc' into σ (Answer t v) q j f =
    (Some (k v), after_answer (part.bound p) how (λ v. at_streams part.bound (k v)) t v (j t v refl), still part.places X (k v) pc' (put_into σ into v) false refl (f v))
await_leaves part X p how k pc' into σ _ q j f = cc

pub step_leaves : (part : Part) (S : Streams) (answers : ℕ → ℕ → Bool) (n pc : ℕ) (σ : State) (q : Option Behavior) → allows S answers part.bound n (step_at (slice_get part.places pc) pc σ) ≡ true → Continues part.places pc σ false q → Leaves part S n pc σ (rest_at part.bound q) (step_at (slice_get part.places pc) pc σ)
step_leaves part S answers n pc σ None a c = cc
step_leaves part S answers n pc σ (Some Finished) a (e, (X, f)) =
    subst (λ x. Leaves part S n pc σ (Some Finished) x) (sym (matched part.places X Finished pc σ tt f)) (None, refl, refl)
step_leaves part S answers n pc σ (Some OutOfTurns) a c = (Some OutOfTurns, refl, tt)
step_leaves part S answers n pc σ (Some (Act b rest)) a (e, (X, f)) =
    let (pc', σ', Y, is, next) = matched part.places X (Act b rest) pc σ tt f in
    subst (λ x. Leaves part S n pc σ (rest_at part.bound (Some (Act b rest))) x) (sym is) (Some rest, refl, still part.places Y rest pc' σ' false refl next)
step_leaves part S answers n pc σ (Some (Await p how k)) a (e, (X, f)) =
    let (pc', into, Y, is, next) = matched part.places X (Await p how k) pc σ tt f in
    subst (λ x. Leaves part S n pc σ (rest_at part.bound (Some (Await p how k))) x) (sym is)
    (await_leaves part Y p how k pc' into σ (offer_in S n (part.bound p) how)
    (subst (λ x. allows S answers part.bound n x ≡ true) is a)
    (λ t v j. offered_answer (S.has (part.bound p) n) how (S.dout (part.bound p) n) t v j) next)

-- what a step puts
puts_act : (f : ℕ → ℕ) (s : ℕ) (a : Action) → puts_by f s a ≡ put_on s (Did (act_at f a))
puts_act f s Local = refl
puts_act f s _ = refl

no_put : (how : StreamOperation) (r s : ℕ) (t : Token) → [] ≡ put_on s (tick_of how r t)
no_put Read r s t = refl
no_put _ r s t = refl

no_put_found : (how : StreamOperation) (r s : ℕ) (o : Offer) → [] ≡ put_on s (on_offer o End End (λ t v. tick_of how r t))
no_put_found how r s (Answer t v) = no_put how r s t
no_put_found how r s _ = refl

pub puts_are : (S : Streams) (f : ℕ → ℕ) (n s : ℕ) (x : StateStep) → puts_of f s x ≡ put_on s (tick_in S f n x)
puts_are S f n s (Performs a pc σ) = puts_act f s a
puts_are S f n s (Awaits p how pc into) = no_put_found how (f p) s (offer_in S n (f p) how)
puts_are S f n s _ = refl

-- what it does to the cells
cells_tick : (how : StreamOperation) (s : ℕ) (t : Token) (cells : List (List ℕ)) → cells_after (tick_of how s t ∷ []) cells ≡ cells
cells_tick Read s t cells = refl
cells_tick _ s t cells = refl

cells_act : (f : ℕ → ℕ) (a : Action) (cells : List (List ℕ)) → cells_by a cells ≡ cells_by (act_at f a) cells
cells_act f Local cells = refl
cells_act f _ cells = refl

cells_await : (σ : State) (r : ℕ) (how : StreamOperation) (into : Option ℕ) (o : Offer) → (put_into σ into (on_offer o 0 0 (λ t v. v))).cells ≡ cells_after (on_offer o End End (λ t v. tick_of how r t) ∷ []) σ.cells
cells_await σ r how into (Answer t v) = into_cells σ into v ∙ sym (cells_tick how r t σ.cells)
cells_await σ r how into _ = into_cells σ into 0

cells_of_step : (S : Streams) (f : ℕ → ℕ) (n : ℕ) (σ : State) (x : StateStep) → StepCells x σ → (held_after x σ (found S f n x)).cells ≡ cells_after (tick_in S f n x ∷ []) σ.cells
cells_of_step S f n σ (Performs a pc σ') h = h ∙ cells_act f a σ.cells
cells_of_step S f n σ (Awaits p how pc into) h = cells_await σ (f p) how into (offer_in S n (f p) how)
cells_of_step S f n σ _ h = refl

pub cells_are : (part : Part) (S : Streams) (n pc : ℕ) (σ : State) → (held_after (step_at (slice_get part.places pc) pc σ) σ (found S part.bound n (step_at (slice_get part.places pc) pc σ))).cells ≡ cells_after (tick_in S part.bound n (step_at (slice_get part.places pc) pc σ) ∷ []) σ.cells
cells_are part S n pc σ = cells_of_step S part.bound n σ (step_at (slice_get part.places pc) pc σ) (step_at_cells (slice_get part.places pc) pc σ)

pub cells_snoc : (ts : List Tick) (x : Tick) (cells : List (List ℕ)) → cells_after (ts ++ x ∷ []) cells ≡ cells_after (x ∷ []) (cells_after ts cells)
cells_snoc [] x cells = refl
cells_snoc (Did a ∷ ts) x cells = cells_snoc ts x (cells_by a cells)
cells_snoc (_ ∷ ts) x cells = cells_snoc ts x cells

-- only the step at an End makes the last tick
end_found : (how : StreamOperation) (r : ℕ) (o : Offer) → on_offer o false false (λ t v. true) ≡ true → on_offer o End End (λ t v. tick_of how r t) ≡ End → ⊥
end_found Read r (Answer t v) a e = cc
end_found how r (Answer t v) a e = cc
end_found how r _ a e = cc

pub end_only : (S : Streams) (answers : ℕ → ℕ → Bool) (f : ℕ → ℕ) (n : ℕ) (x : StateStep) → allows S answers f n x ≡ true → tick_in S f n x ≡ End → ends_by x ≡ true
end_only S answers f n (Awaits p how pc into) al e = absurd (end_found how (f p) (offer_in S n (f p) how) al e)
end_only S answers f n Completes al e = refl
end_only S answers f n _ al e = cc

pub end_is : (S : Streams) (f : ℕ → ℕ) (n : ℕ) (x : StateStep) → ends_by x ≡ true → tick_in S f n x ≡ End
end_is S f n Completes e = refl
end_is S f n _ e = cc

-- and what it takes
same_end : (r s : ℕ) (d : ℕ → Token) (t : Token) → t ≡ d r → (if r == s then d s ∷ [] else []) ≡ (if r == s then t ∷ [] else [])
same_end r s d t e = here r s d ∙ ap (λ x. if r == s then x ∷ [] else []) (sym e)
  where
    here : (r s : ℕ) (d : ℕ → Token) → (if r == s then d s ∷ [] else []) ≡ (if r == s then d r ∷ [] else [])
    here r s d = grind (arith, nat_tests)

takes_found : (how : StreamOperation) (r s : ℕ) (d : ℕ → Token) (o : Offer) → ((t : Token) (v : ℕ) → o ≡ Answer t v → t ≡ d r) → on_offer o false false (λ t v. true) ≡ true → (if takes how && r == s then d s ∷ [] else []) ≡ take_from s (on_offer o End End (λ t v. tick_of how r t))
takes_found Peek r s d (Answer t v) j a = refl
takes_found TestEot r s d (Answer t v) j a = refl
takes_found how r s d (Answer t v) j a = same_end r s d t (j t v refl)
takes_found how r s d _ j a = cc

pub takes_are : (S : Streams) (answers : ℕ → ℕ → Bool) (f : ℕ → ℕ) (n s : ℕ) (x : StateStep) → allows S answers f n x ≡ true → (if takes_of f s x then S.dout s n ∷ [] else []) ≡ take_from s (tick_in S f n x)
takes_are S answers f n s (Awaits p how pc into) al =
    takes_found how (f p) s (λ r. S.dout r n) (offer_in S n (f p) how) (λ t v e. offered_token (S.has (f p) n) how (S.dout (f p) n) t v e) al
takes_are S answers f n s Halts al = cc
takes_are S answers f n s _ al = refl
