-- Where a machine is after its step, what it holds then, and whether it has ended.
use Rattle.std.specs.Prelude.{ℕ, Bool, true, false}
use Rattle.kahn_model.specs.Trace.{State}
use Rattle.task_fsm.specs.Run.{StateStep, Performs, Awaits, Completes, Halts, put_into}

abbrev pub at_after : StateStep → ℕ → ℕ
at_after (Performs a pc σ) old = pc
at_after (Awaits s how pc into) old = pc
at_after Completes old = old
at_after Halts old = old

-- given the value of the token that it waits for
abbrev pub held_after : StateStep → State → ℕ → State
held_after (Performs a pc σ) old v = σ
held_after (Awaits s how pc into) old v = put_into old into v
held_after Completes old v = old
held_after Halts old v = old

abbrev pub ends_by : StateStep → Bool
ends_by (Performs a pc σ) = false
ends_by (Awaits s how pc into) = false
ends_by Completes = true
ends_by Halts = false
