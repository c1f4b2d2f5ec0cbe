-- What it means that a machine follows a job, and the residual of both after some ticks.
use Rattle.std.specs.Prelude.{◌≡◌, ℕ, zero, suc, List, Option, Some, slice_get}
use Rattle.tapa_base.specs.declared.token.Token.{Token}
use Rattle.kahn_model.specs.Behavior.{Behavior, Finished, OutOfTurns, Act, Await, first_offer, on_offer, lists_after}
use Rattle.kahn_model.specs.Trace.{State}
use Rattle.task_fsm.specs.Machine.{StateForm, EndAt, TrapAt}
use Rattle.task_fsm.specs.Run.{Performs, Awaits, put_into, step, cleared_after, UsesOnly}

-- from state pc and with the values τ, the machine makes the ticks of the job
abbrev pub Follows : List StateForm → List ℕ → Behavior → ℕ → State → Type 0
Follows P S Finished pc τ = slice_get P pc ≡ Some EndAt
Follows P S OutOfTurns pc τ = slice_get P pc ≡ Some TrapAt → ⊥
Follows P S (Act a rest) pc τ =
    (p : StateForm) × (pc' : ℕ) × (τ' : State) × (slice_get P pc ≡ Some p) × (step p pc τ ≡ Performs a pc' τ') × UsesOnly S p × Follows P (cleared_after p τ S) rest pc' τ'
Follows P S (Await s how rest) pc τ =
    (p : StateForm) × (pc' : ℕ) × (into : Option ℕ) × (slice_get P pc ≡ Some p) × (step p pc τ ≡ Awaits s how pc' into) × (cleared_after p τ S ≡ S) × UsesOnly S p
    × ((v : ℕ) → Follows P S (rest v) pc' (put_into τ into v))

-- the residual of a job after this number of its ticks on lists
abbrev pub left_after : ℕ → Behavior → (ℕ → List Token) → Behavior
left_after zero job ins = job
left_after (suc k) Finished ins = OutOfTurns
left_after (suc k) OutOfTurns ins = OutOfTurns
left_after (suc k) (Act a rest) ins = left_after k rest ins
left_after (suc k) (Await s how rest) ins =
    on_offer (first_offer how (ins s)) OutOfTurns OutOfTurns (λ t v. left_after k (rest v) (lists_after how s ins))
