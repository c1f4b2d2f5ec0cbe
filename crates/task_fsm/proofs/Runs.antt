-- A machine that follows a job runs as the job on all lists.
use Rattle.std.proofs.Common.{◌≡◌, ℕ, zero, suc, ◌+◌, List, [], ◌∷◌, length, Some, None, refl, sym, ap, ◌∙◌, subst, arith}
use Rattle.std.specs.Prelude.{Bool, true, false, Option, slice_get}
use Rattle.std.proofs.Math.Path.{fun_ext}
use Rattle.tapa_base.specs.declared.token.Token.{Token}
use Rattle.kahn_model.specs.declared.tick.Action.{Action}
use Rattle.kahn_model.specs.declared.tick.Tick.{Tick}
use Rattle.kahn_model.specs.declared.tick.Tick.TheVariants.{Did, End}
use Rattle.kahn_model.specs.declared.tick.TraceEnd.{TraceEnd}
use Rattle.kahn_model.specs.declared.tick.TraceEnd.TheVariants.{Ended, Needs, Bad, Turns}
use Rattle.kahn_model.specs.declared.tick.StreamOperation.{StreamOperation}
use Rattle.kahn_model.specs.declared.tick.StreamOperation.TheVariants.{Read, Peek, TestEot, Open}
use Rattle.kahn_model.specs.Behavior.{Behavior, Finished, OutOfTurns, Act, Await, Offer, NoToken, WrongToken, Answer, ticks, trace_end, tick_of, first_offer, on_offer, lists_after}
use Rattle.kahn_model.specs.Trace.{State, cell}
use Rattle.task_fsm.specs.Follows.{Follows, left_after}
use Rattle.task_fsm.specs.Machine.{StateForm, SetAt, CellAt, TestAt, ReadAt, WriteAt, PeekAt, EotAt, OpenAt, CloseAt, LoadAt, StoreAt, ClearAt, EndAt, TrapAt}
use Rattle.task_fsm.specs.Run.{value, StateStep, Performs, Awaits, Completes, Halts, put_into, is_last, clear_step, cells_by, cells_after, step, step_at, cleared_after, cleared_at, Run, stays, visiting, trap_of, on_step, run, UsesOnly, UsesOnlyAt, AwaitsFrom, EndsBy, tick_list, RunsAs}

-- as many as the list has, and k
abbrev and_more : List Tick → ℕ → ℕ
and_more [] k = k
and_more (t ∷ rest) k = suc (and_more rest k)

more_is : (l : List Tick) (k : ℕ) → and_more l k ≡ length l + k
more_is [] k = omega arith
more_is (t ∷ rest) k = let e = more_is rest k in omega arith

same_run : (P : List StateForm) (pc : ℕ) (τ : State) (S : List ℕ) (ins : ℕ → List Token) (o : Option StateForm) → slice_get P pc ≡ o → (m : ℕ) → run P (suc m) pc τ S ins ≡ on_step (step_at o pc τ) (visiting pc End S (stays pc τ)) (stays pc τ) (λ a pc' σ'. visiting pc (Did a) S (run P m pc' σ' (cleared_at o τ S) ins)) (λ s how pc' into. on_offer (first_offer how (ins s)) (stays pc τ) (stays (trap_of P) τ) (λ t v. visiting pc (tick_of how s t) S (run P m pc' (put_into τ into v) (cleared_at o τ S) (lists_after how s ins))))
same_run P pc τ S ins o e m =
    ap (λ o. on_step (step_at o pc τ) (visiting pc End S (stays pc τ)) (stays pc τ) (λ a pc' σ'. visiting pc (Did a) S (run P m pc' σ' (cleared_at o τ S) ins)) (λ s how pc' into. on_offer (first_offer how (ins s)) (stays pc τ) (stays (trap_of P) τ) (λ t v. visiting pc (tick_of how s t) S (run P m pc' (put_into τ into v) (cleared_at o τ S) (lists_after how s ins))))) e

run_end : (P : List StateForm) (pc : ℕ) (τ : State) (S : List ℕ) (ins : ℕ → List Token) → slice_get P pc ≡ Some EndAt → (m : ℕ) → run P (suc m) pc τ S ins ≡ visiting pc End S (stays pc τ)
run_end P pc τ S ins at m = same_run P pc τ S ins (Some EndAt) at m

run_act : (P : List StateForm) (pc : ℕ) (τ : State) (S : List ℕ) (ins : ℕ → List Token) (p : StateForm) (a : Action) (pc' : ℕ) (τ' : State) → slice_get P pc ≡ Some p → step p pc τ ≡ Performs a pc' τ' → (m : ℕ) → run P (suc m) pc τ S ins ≡ visiting pc (Did a) S (run P m pc' τ' (cleared_after p τ S) ins)
run_act P pc τ S ins p a pc' τ' at is m =
    same_run P pc τ S ins (Some p) at m
    ∙ ap (λ x. on_step x (visiting pc End S (stays pc τ)) (stays pc τ) (λ a pc' σ'. visiting pc (Did a) S (run P m pc' σ' (cleared_after p τ S) ins)) (λ s how pc' into. on_offer (first_offer how (ins s)) (stays pc τ) (stays (trap_of P) τ) (λ t v. visiting pc (tick_of how s t) S (run P m pc' (put_into τ into v) (cleared_after p τ S) (lists_after how s ins))))) is

run_ask : (P : List StateForm) (pc : ℕ) (τ : State) (S : List ℕ) (ins : ℕ → List Token) (p : StateForm) (s : ℕ) (how : StreamOperation) (pc' : ℕ) (into : Option ℕ) (f : Offer) → slice_get P pc ≡ Some p → step p pc τ ≡ Awaits s how pc' into → cleared_after p τ S ≡ S → first_offer how (ins s) ≡ f → (m : ℕ) → run P (suc m) pc τ S ins ≡ on_offer f (stays pc τ) (stays (trap_of P) τ) (λ t v. visiting pc (tick_of how s t) S (run P m pc' (put_into τ into v) S (lists_after how s ins)))
run_ask P pc τ S ins p s how pc' into f at is keeps found m =
    same_run P pc τ S ins (Some p) at m
    ∙ ap (λ x. on_step x (visiting pc End S (stays pc τ)) (stays pc τ) (λ a pc' σ'. visiting pc (Did a) S (run P m pc' σ' (cleared_after p τ S) ins)) (λ s how pc' into. on_offer (first_offer how (ins s)) (stays pc τ) (stays (trap_of P) τ) (λ t v. visiting pc (tick_of how s t) S (run P m pc' (put_into τ into v) (cleared_after p τ S) (lists_after how s ins))))) is
    ∙ ap (λ X. on_offer (first_offer how (ins s)) (stays pc τ) (stays (trap_of P) τ) (λ t v. visiting pc (tick_of how s t) S (run P m pc' (put_into τ into v) X (lists_after how s ins)))) keeps
    ∙ ap (λ x. on_offer x (stays pc τ) (stays (trap_of P) τ) (λ t v. visiting pc (tick_of how s t) S (run P m pc' (put_into τ into v) S (lists_after how s ins)))) found

ends_more : (P : List StateForm) (m : TraceEnd) (f : ℕ → Run) (pc : ℕ) (t : Tick) (S : List ℕ) → EndsBy P m f → EndsBy P m (λ k. visiting pc t S (f k))
ends_more P Ended f pc t S h = h
ends_more P (Needs s) f pc t S h = h
ends_more P (Bad s) f pc t S h = h
ends_more P Turns f pc t S h = h

-- one visit before
one_more : (P : List StateForm) (job rest : Behavior) (ins outs : ℕ → List Token) (f : ℕ → Run) (pc : ℕ) (t : Tick) (S : List ℕ) → UsesOnlyAt S (slice_get P pc) → ticks job ins ≡ t ∷ ticks rest outs → trace_end job ins ≡ trace_end rest outs → RunsAs P rest outs f → RunsAs P job ins (λ k. visiting pc t S (f k))
one_more P job rest ins outs f pc t S uses et em r = record {
  first = ap (λ l. t ∷ l) r.first ∙ sym et;
  more = λ k d. ap (λ l. record { place = pc; tick = t; cleared = S } ∷ l) (r.more k (λ e. d (em ∙ e)));
  clean = (uses, r.clean);
  finish = subst (λ m. EndsBy P m (λ k. visiting pc t S (f k))) (sym em) (ends_more P (trace_end rest outs) f pc t S r.finish);
}

uses_at : (P : List StateForm) (pc : ℕ) (S : List ℕ) (p : StateForm) → slice_get P pc ≡ Some p → UsesOnly S p → UsesOnlyAt S (slice_get P pc)
uses_at P pc S p at u = subst (λ o. UsesOnlyAt S o) (sym at) u

asks_at : (P : List StateForm) (pc : ℕ) (τ : State) (p : StateForm) (s : ℕ) (how : StreamOperation) (pc' : ℕ) (into : Option ℕ) → slice_get P pc ≡ Some p → step p pc τ ≡ Awaits s how pc' into → AwaitsFrom s (step_at (slice_get P pc) pc τ)
asks_at P pc τ p s how pc' into at is = subst (λ o. AwaitsFrom s (step_at o pc τ)) (sym at) (subst (λ x. AwaitsFrom s x) (sym is) refl)

abbrev Runs : List StateForm → Behavior → ℕ → State → List ℕ → (ℕ → List Token) → Type 0
Runs P job pc τ S ins = RunsAs P job ins (λ k. run P (and_more (ticks job ins) k) pc τ S ins)

ask_runs : (P : List StateForm) (S : List ℕ) (s : ℕ) (how : StreamOperation) (rest : ℕ → Behavior) (pc : ℕ) (τ : State) (ins : ℕ → List Token) (p : StateForm) (pc' : ℕ) (into : Option ℕ) (f : Offer) → slice_get P pc ≡ Some p → step p pc τ ≡ Awaits s how pc' into → cleared_after p τ S ≡ S → UsesOnly S p → first_offer how (ins s) ≡ f → ((v : ℕ) → Runs P (rest v) pc' (put_into τ into v) S (lists_after how s ins)) → Runs P (Await s how rest) pc τ S ins
ask_runs P S s how rest pc τ ins p pc' into NoToken at is keeps uses found on =
    let et : ticks (Await s how rest) ins ≡ [] = ap (λ x. on_offer x [] [] (λ t v. tick_of how s t ∷ ticks (rest v) (lists_after how s ins))) found in
    let em : trace_end (Await s how rest) ins ≡ Needs s = ap (λ x. on_offer x (Needs s) (Bad s) (λ t v. trace_end (rest v) (lists_after how s ins))) found in
    let by : (k : ℕ) → run P k pc τ S ins ≡ stays pc τ =
    λ k. elim k as (λ k. run P k pc τ S ins ≡ stays pc τ) [ zero ↦ refl | suc m ↦ run_ask P pc τ S ins p s how pc' into NoToken at is keeps found m ] in
    let base : RunsAs P (Await s how rest) ins (λ k. stays pc τ) = record {
      first = sym et;
      more = λ k d. refl;
      clean = tt;
      finish = subst (λ m. EndsBy P m (λ k. stays pc τ)) (sym em) (λ k. asks_at P pc τ p s how pc' into at is);
    } in
    subst (λ l. RunsAs P (Await s how rest) ins (λ k. run P (and_more l k) pc τ S ins)) (sym et)
    (subst (λ (f : ℕ → Run). RunsAs P (Await s how rest) ins f) (sym (fun_ext by)) base)
ask_runs P S s how rest pc τ ins p pc' into WrongToken at is keeps uses found on =
    let et : ticks (Await s how rest) ins ≡ [] = ap (λ x. on_offer x [] [] (λ t v. tick_of how s t ∷ ticks (rest v) (lists_after how s ins))) found in
    let em : trace_end (Await s how rest) ins ≡ Bad s = ap (λ x. on_offer x (Needs s) (Bad s) (λ t v. trace_end (rest v) (lists_after how s ins))) found in
    let by : (k : ℕ) → run P (suc k) pc τ S ins ≡ stays (trap_of P) τ = λ k. run_ask P pc τ S ins p s how pc' into WrongToken at is keeps found k in
    let none : (k : ℕ) → (run P k pc τ S ins).visits ≡ [] =
    λ k. elim k as (λ k. (run P k pc τ S ins).visits ≡ []) [ zero ↦ refl | suc m ↦ ap (λ (r : Run). r.visits) (by m) ] in
    let base : RunsAs P (Await s how rest) ins (λ k. run P k pc τ S ins) = record {
      first = sym et;
      more = λ k d. none k;
      clean = tt;
      finish = subst (λ m. EndsBy P m (λ k. run P k pc τ S ins)) (sym em) (asks_at P pc τ p s how pc' into at is, λ k. ap (λ (r : Run). r.last) (by k));
    } in
    subst (λ l. RunsAs P (Await s how rest) ins (λ k. run P (and_more l k) pc τ S ins)) (sym et) base
ask_runs P S s how rest pc τ ins p pc' into (Answer t v) at is keeps uses found on =
    let outs = lists_after how s ins in
    let et : ticks (Await s how rest) ins ≡ tick_of how s t ∷ ticks (rest v) outs = ap (λ x. on_offer x [] [] (λ t v. tick_of how s t ∷ ticks (rest v) outs)) found in
    let em : trace_end (Await s how rest) ins ≡ trace_end (rest v) outs = ap (λ x. on_offer x (Needs s) (Bad s) (λ t v. trace_end (rest v) outs)) found in
    let by : (k : ℕ) → run P (suc (and_more (ticks (rest v) outs) k)) pc τ S ins ≡ visiting pc (tick_of how s t) S (run P (and_more (ticks (rest v) outs) k) pc' (put_into τ into v) S outs) =
    λ k. run_ask P pc τ S ins p s how pc' into (Answer t v) at is keeps found (and_more (ticks (rest v) outs) k) in
    let base = one_more P (Await s how rest) (rest v) ins outs (λ k. run P (and_more (ticks (rest v) outs) k) pc' (put_into τ into v) S outs) pc (tick_of how s t) S (uses_at P pc S p at uses) et em (on v) in
    subst (λ l. RunsAs P (Await s how rest) ins (λ k. run P (and_more l k) pc τ S ins)) (sym et)
    (subst (λ (f : ℕ → Run). RunsAs P (Await s how rest) ins f) (sym (fun_ext by)) base)

runs_from : (P : List StateForm) (job : Behavior) (S : List ℕ) (pc : ℕ) (τ : State) (ins : ℕ → List Token) → Follows P S job pc τ → Runs P job pc τ S ins
runs_from P Finished S pc τ ins at =
    subst (λ (f : ℕ → Run). RunsAs P Finished ins f) (sym (fun_ext (λ k. run_end P pc τ S ins at k)))
    (record {
      first = refl;
      more = λ k d. refl;
      clean = (uses_at P pc S EndAt at tt, tt);
      finish = λ k. at;
    })
runs_from P OutOfTurns S pc τ ins f = record { first = refl; more = λ k d. absurd (d refl); clean = tt; finish = f }
runs_from P (Act a rest) S pc τ ins (p, pc', τ', at, is, uses, next) =
    subst (λ (f : ℕ → Run). RunsAs P (Act a rest) ins f) (sym (fun_ext (λ k. run_act P pc τ S ins p a pc' τ' at is (and_more (ticks rest ins) k))))
    (one_more P (Act a rest) rest ins ins (λ k. run P (and_more (ticks rest ins) k) pc' τ' (cleared_after p τ S) ins) pc (Did a) S (uses_at P pc S p at uses) refl refl (runs_from P rest (cleared_after p τ S) pc' τ' ins next))
runs_from P (Await s how rest) S pc τ ins (p, pc', into, at, is, keeps, uses, next) =
    ask_runs P S s how rest pc τ ins p pc' into (first_offer how (ins s)) at is keeps uses refl
    (λ v. runs_from P (rest v) S pc' (put_into τ into v) (lists_after how s ins) (next v))

pub runs : (P : List StateForm) (job : Behavior) (S : List ℕ) (pc : ℕ) (τ : State) (ins : ℕ → List Token) → Follows P S job pc τ → RunsAs P job ins (λ k. run P (length (ticks job ins) + k) pc τ S ins)
runs P job S pc τ ins f =
    subst (λ (g : ℕ → ℕ). RunsAs P job ins (λ k. run P (g k) pc τ S ins)) (fun_ext (λ k. more_is (ticks job ins) k)) (runs_from P job S pc τ ins f)

-- a step changes the cells by its act discarded
abbrev pub StepCells : StateStep → State → Type 0
StepCells (Performs a pc σ) τ = σ.cells ≡ cells_by a τ.cells
StepCells (Awaits s how pc into) τ = Unit {0}
StepCells Completes τ = Unit {0}
StepCells Halts τ = Unit {0}

pub into_cells : (τ : State) (into : Option ℕ) (v : ℕ) → (put_into τ into v).cells ≡ τ.cells
into_cells τ None v = refl
into_cells τ (Some r) v = refl

clear_cells : (b : Bool) (a c pc next : ℕ) (τ : State) → StepCells (clear_step b a c pc next τ) τ
clear_cells true a c pc next τ = refl
clear_cells false a c pc next τ = refl

step_cells : (p : StateForm) (pc : ℕ) (τ : State) → StepCells (step p pc τ) τ
step_cells (SetAt r e next) pc τ = refl
step_cells (CellAt a i e next) pc τ = refl
step_cells (TestAt e y n) pc τ = refl
step_cells (ReadAt s into next) pc τ = tt
step_cells (WriteAt s e next) pc τ = refl
step_cells (PeekAt s into next) pc τ = tt
step_cells (EotAt s into next) pc τ = tt
step_cells (OpenAt s next) pc τ = tt
step_cells (CloseAt s next) pc τ = refl
step_cells (LoadAt m i into next) pc τ = into_cells τ into (cell τ.cells m (value i τ))
step_cells (StoreAt m i e next) pc τ = refl
step_cells (ClearAt a c next) pc τ = clear_cells (is_last τ a c) a c pc next τ
step_cells EndAt pc τ = tt
step_cells TrapAt pc τ = tt

pub step_at_cells : (o : Option StateForm) (pc : ℕ) (τ : State) → StepCells (step_at o pc τ) τ
step_at_cells None pc τ = tt
step_at_cells (Some p) pc τ = step_cells p pc τ

-- a run's cells are those after its ticks
abbrev Keeps : State → Run → Type 0
Keeps τ r = r.holds.cells ≡ cells_after (tick_list r.visits) τ.cells

tick_cells : (how : StreamOperation) (s : ℕ) (t : Token) (l : List Tick) (cells : List (List ℕ)) → cells_after (tick_of how s t ∷ l) cells ≡ cells_after l cells
tick_cells Read s t l cells = refl
tick_cells Peek s t l cells = refl
tick_cells TestEot s t l cells = refl
tick_cells Open s t l cells = refl

found_cells : (f : Offer) (τ : State) (S : List ℕ) (P : List StateForm) (s : ℕ) (how : StreamOperation) (pc pc' : ℕ) (into : Option ℕ) (go : Token → ℕ → Run) → ((t : Token) (v : ℕ) → Keeps (put_into τ into v) (go t v)) → Keeps τ (on_offer f (stays pc τ) (stays (trap_of P) τ) (λ t v. visiting pc (tick_of how s t) S (go t v)))
found_cells NoToken τ S P s how pc pc' into go h = refl
found_cells WrongToken τ S P s how pc pc' into go h = refl
found_cells (Answer t v) τ S P s how pc pc' into go h = h t v ∙ ap (cells_after (tick_list (go t v).visits)) (into_cells τ into v) ∙ sym (tick_cells how s t (tick_list (go t v).visits) τ.cells)

by_step : (x : StateStep) (P : List StateForm) (pc : ℕ) (τ : State) (S : List ℕ) (ins : ℕ → List Token) (go : ℕ → State → (ℕ → List Token) → Run) → StepCells x τ → ((pc' : ℕ) (σ' : State) (outs : ℕ → List Token) → Keeps σ' (go pc' σ' outs)) → Keeps τ (on_step x (visiting pc End S (stays pc τ)) (stays pc τ) (λ a pc' σ'. visiting pc (Did a) S (go pc' σ' ins)) (λ s how pc' into. on_offer (first_offer how (ins s)) (stays pc τ) (stays (trap_of P) τ) (λ t v. visiting pc (tick_of how s t) S (go pc' (put_into τ into v) (lists_after how s ins)))))
by_step (Performs a pc' σ') P pc τ S ins go e h = h pc' σ' ins ∙ ap (cells_after (tick_list (go pc' σ' ins).visits)) e
by_step (Awaits s how pc' into) P pc τ S ins go e h =
    found_cells (first_offer how (ins s)) τ S P s how pc pc' into (λ t v. go pc' (put_into τ into v) (lists_after how s ins)) (λ t v. h pc' (put_into τ into v) (lists_after how s ins))
by_step Completes P pc τ S ins go e h = refl
by_step Halts P pc τ S ins go e h = refl

pub run_cells : (P : List StateForm) (m pc : ℕ) (τ : State) (S : List ℕ) (ins : ℕ → List Token) → Keeps τ (run P m pc τ S ins)
run_cells P zero pc τ S ins = refl
run_cells P (suc m) pc τ S ins =
    let o = slice_get P pc in
    let X = cleared_at o τ S in
    by_step (step_at o pc τ) P pc τ S ins (λ pc' σ' outs. run P m pc' σ' X outs) (step_at_cells o pc τ) (λ pc' σ' outs. run_cells P m pc' σ' X outs)

-- where the machine is after some ticks, it follows what is left of the job
abbrev pub IsLeft : List StateForm → Behavior → Run → Type 0
IsLeft P job r = (S : List ℕ) × Follows P S job r.last r.holds

abbrev pub IsNotOver : Behavior → Type 0
IsNotOver OutOfTurns = ⊥
IsNotOver _ = Unit {0}

ask_after : (P : List StateForm) (k s : ℕ) (how : StreamOperation) (rest : ℕ → Behavior) (S : List ℕ) (pc : ℕ) (τ : State) (ins : ℕ → List Token) (p : StateForm) (pc' : ℕ) (into : Option ℕ) (f : Offer) → slice_get P pc ≡ Some p → step p pc τ ≡ Awaits s how pc' into → cleared_after p τ S ≡ S → first_offer how (ins s) ≡ f → IsNotOver (on_offer f OutOfTurns OutOfTurns (λ t v. left_after k (rest v) (lists_after how s ins))) → ((v : ℕ) → IsNotOver (left_after k (rest v) (lists_after how s ins)) → IsLeft P (left_after k (rest v) (lists_after how s ins)) (run P k pc' (put_into τ into v) S (lists_after how s ins))) → IsLeft P (on_offer f OutOfTurns OutOfTurns (λ t v. left_after k (rest v) (lists_after how s ins))) (run P (suc k) pc τ S ins)
ask_after P k s how rest S pc τ ins p pc' into NoToken at is keeps found d on = absurd d
ask_after P k s how rest S pc τ ins p pc' into WrongToken at is keeps found d on = absurd d
ask_after P k s how rest S pc τ ins p pc' into (Answer t v) at is keeps found d on =
    subst (λ (r : Run). IsLeft P (left_after k (rest v) (lists_after how s ins)) r) (sym (run_ask P pc τ S ins p s how pc' into (Answer t v) at is keeps found k)) (on v d)

pub follows_after : (P : List StateForm) (k : ℕ) (job : Behavior) (S : List ℕ) (pc : ℕ) (τ : State) (ins : ℕ → List Token) → Follows P S job pc τ → IsNotOver (left_after k job ins) → IsLeft P (left_after k job ins) (run P k pc τ S ins)
follows_after P zero job S pc τ ins f d = (S, f)
follows_after P (suc k) Finished S pc τ ins f d = absurd d
follows_after P (suc k) OutOfTurns S pc τ ins f d = absurd d
follows_after P (suc k) (Act a rest) S pc τ ins (p, pc', τ', at, is, uses, next) d =
    subst (λ (r : Run). IsLeft P (left_after k rest ins) r) (sym (run_act P pc τ S ins p a pc' τ' at is k))
    (follows_after P k rest (cleared_after p τ S) pc' τ' ins next d)
follows_after P (suc k) (Await s how rest) S pc τ ins (p, pc', into, at, is, keeps, uses, next) d =
    ask_after P k s how rest S pc τ ins p pc' into (first_offer how (ins s)) at is keeps refl d (λ v e. follows_after P k (rest v) S pc' (put_into τ into v) (lists_after how s ins) (next v) e)
