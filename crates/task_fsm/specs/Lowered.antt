-- What it means that a machine is that of a leaf.
use Rattle.std.specs.Prelude.{◌≡◌, ℕ, ◌+◌, ◌-◌, ◌<◌, ◌≤◌, List, [], ◌++◌, length, replicate, Some, slice_get}
use Rattle.tapa_syntax.specs.declared.program.Leaf.{Leaf}
use Rattle.tapa_base.specs.declared.token.Token.{Token}
use Rattle.kahn_model.specs.Behavior.{ticks}
use Rattle.kahn_model.specs.Prefix.{IsPrefixOf}
use Rattle.kahn_model.specs.Trace.{State, job_of, cells_of}
use Rattle.tapa_syntax.specs.LeafKinds.{kinds_of}
use Rattle.task_fsm.specs.declared.machine.Fsm.{Fsm}
use Rattle.task_fsm.specs.Machine.{TrapAt, forms_of}
use Rattle.tapa_syntax.specs.TickPlaces.{size_of_list}
use Rattle.task_fsm.specs.Ranges.{ranges_of, AreInRange}
use Rattle.task_fsm.specs.Temporaries.{temporaries_of}
use Rattle.task_fsm.specs.Run.{trap_of, run, cells_after, IsMachineOf}
use Rattle.task_fsm.specs.Follows.{Follows}
use Rattle.task_fsm.specs.MachineKinds.{machine_kinds, AreTypedStates}

-- the variables, arrays and cells of a job at its start
pub record IsStart (leaf : Leaf) (σ : State) : Type 0 where
  pub vars : length σ.vars ≡ length leaf.vars.items
  pub arrays : length σ.arrays ≡ length leaf.arrays.items
  pub cells : (a : ℕ) → a < length leaf.arrays.items → 1 ≤ cells_of σ a

-- a machine with k registers more
abbrev pub with_temporaries : ℕ → State → State
with_temporaries k σ = record σ { vars = σ.vars ++ replicate k 0 }

pub record IsLowered (leaf : Leaf) (fsm : Fsm) : Type 0 where
  -- from every start the machine makes the job's ticks, one state a tick, whatever tokens come
  pub machine :
      (σ : State) → IsStart leaf σ → IsMachineOf (λ n. job_of (kinds_of leaf) leaf.code.items σ n) (forms_of fsm.states.items)
      (with_temporaries (length fsm.regs.items - length leaf.vars.items) σ)
  -- from every start the machine follows the job for each tree of answers
  pub follows :
      (σ : State) → IsStart leaf σ → (n : ℕ) → Follows (forms_of fsm.states.items) [] (job_of (kinds_of leaf) leaf.code.items σ n) 0
      (with_temporaries (length fsm.regs.items - length leaf.vars.items) σ)
  -- the cells of its memories are those after the job's Stores
  pub cells :
      (σ : State) → IsStart leaf σ → (n : ℕ) (ins : ℕ → List Token)
      → (run (forms_of fsm.states.items) (length (ticks (job_of (kinds_of leaf) leaf.code.items σ n) ins) + 0) 0
      (with_temporaries (length fsm.regs.items - length leaf.vars.items) σ) [] ins).holds.cells ≡ cells_after
      (ticks (job_of (kinds_of leaf) leaf.code.items σ n) ins) σ.cells
  -- each expression has its kind
  pub typed : AreTypedStates (machine_kinds leaf fsm) (forms_of fsm.states.items)
  -- a state for each tick place, the end and the trap, and a register for each variable and temporary
  pub states : length fsm.states.items ≡ size_of_list leaf.code.items + 2
  pub registers : length fsm.regs.items ≡ length leaf.vars.items + temporaries_of leaf.code.items
  -- each state names only registers, arrays, streams, memories and states that exist, and none goes to the trap
  pub in_range : AreInRange (ranges_of leaf fsm) (forms_of fsm.states.items)
  pub trap : slice_get (forms_of fsm.states.items) (trap_of (forms_of fsm.states.items)) ≡ Some TrapAt
  pub regs : IsPrefixOf leaf.vars.items fsm.regs.items
  pub name : fsm.name ≡ leaf.name
  pub scalars : fsm.scalars.items ≡ leaf.scalars.items
  pub arrays : fsm.arrays.items ≡ leaf.arrays.items
