-- Where a task's module is in the next cycle, and what its registers hold then.
use Rattle.std.specs.Prelude.{◌≡◌, ℕ, suc, ◌-◌, ◌<◌, List, [], ◌∷◌, length, nat_lt, ◌==◌, if◌then◌else◌, slice_index}
use Rattle.kahn_model.specs.Trace.{State, at_zero}
use Rattle.vlog_tree.specs.declared.tree.Atom.{Atom}
use Rattle.vlog_tree.specs.Form.{ModuleTree}
use Rattle.vlog_tree.specs.Labels.{rst}
use Rattle.vlog_tree.specs.Table.{Name}
use Rattle.vlog_tree.specs.Cycle.{Cycle, Follows, atom_value}
use Rattle.hw_build.specs.Elements.{built}
use Rattle.hw_build.specs.Fitting.{AreFitting}
use Rattle.hw_build.specs.Choices.{Entry}
use Rattle.task_fsm.specs.Machine.{StateForm, SetAt, CellAt, TestAt, ReadAt, WriteAt, PeekAt, EotAt, OpenAt, CloseAt, LoadAt, StoreAt, ClearAt, EndAt, TrapAt}
use Rattle.task_fsm.specs.Ranges.{Ranges}
use Rattle.task_fsm.specs.Run.{value}
use Rattle.hw_lines.specs.declared.nets.Choice.TheVariants.{ToState, ToEnd, Set, NextValue, Clear}
use Rattle.hw_lines.specs.declared.nets.Net.{Net}
use Rattle.hw_lines.specs.declared.nets.Net.TheVariants.{State as StateNet, Ended, Variable, Has, Rdy, Ack, Datum, Eot}
use Rattle.hw_lines.specs.Nets.{name}
use Rattle.hw_lines.specs.Shape.{Shape, array_cells, form_at}
use Rattle.hw_lines.specs.Effects.{entries, first_value}
use Rattle.hw_lines.specs.Texts.{root, task_elements, reset_of}
use Rattle.hw_task_laws.specs.acts.Reads.{IsIn}

-- a state that waits for a net goes on where it is 1
abbrev pub waits : Cycle → Net → (next k : ℕ) → ℕ
waits c w next k = if c.net (name w) == 1 then next else k

abbrev pub place_after : Shape → Cycle → ℕ → State → StateForm → ℕ
place_after S c k σ (SetAt r e next) = next
place_after S c k σ (CellAt a i e next) = next
place_after S c k σ (TestAt e y n) = at_zero (value e σ) n y
place_after S c k σ (ReadAt s into next) = waits c (Datum s) next k
place_after S c k σ (WriteAt s e next) = waits c (Rdy s) next k
place_after S c k σ (PeekAt s into next) = waits c (Datum s) next k
place_after S c k σ (EotAt s into next) = waits c (Has s) next k
place_after S c k σ (OpenAt s next) = waits c (Eot s) next k
place_after S c k σ (CloseAt s next) = waits c (Rdy s) next k
place_after S c k σ (LoadAt m i into next) = waits c (Ack m) next k
place_after S c k σ (StoreAt m i e next) = waits c (Ack m) next k
place_after S c k σ (ClearAt a counter next) = if nat_lt (slice_index σ.vars counter) (array_cells S a - 1) then k else next
place_after S c k σ EndAt = k
place_after S c k σ TrapAt = k

-- the choice among next states has it
abbrev pub StateMoves : Type 0
StateMoves =
    (S : Shape) (title : Name) (run : ℕ → Cycle) (f : Follows (built title (task_elements S)) run) (R : Ranges) (σ : State) (n k : ℕ) → IsIn S R f.sizes (run n) k σ
    → (run n).net (root S ToState) ≡ place_after S (run n) k σ (form_at S k)

-- and the register of the state has it in the next cycle
abbrev pub StateGoesOn : Type 0
StateGoesOn =
    (S : Shape) (title : Name) (run : ℕ → Cycle) → Follows (built title (task_elements S)) run → (ms : List ModuleTree) → AreFitting ms (task_elements S) → (n : ℕ)
    → (run (suc n)).net (name StateNet) ≡ (if (run n).net rst == 1 then 0 else (run n).net (root S ToState))

-- a register that some states set, and one that none does, by the net at which it gets its first value
abbrev pub set_next : List Entry → Cycle → Name → Name → Atom → Name → Name → ℕ
set_next [] c reset x first set next = if c.net reset == 1 then atom_value c first else c.net x
set_next (e ∷ es) c reset x first set next = if c.net reset == 1 then atom_value c first else if c.net set == 1 then c.net next else c.net x

abbrev pub RegistersGoOn : Type 0
RegistersGoOn =
    (S : Shape) (title : Name) (run : ℕ → Cycle) → Follows (built title (task_elements S)) run → (ms : List ModuleTree) → AreFitting ms (task_elements S) → (n r : ℕ)
    → r < length S.registers
    → (run (suc n)).net (name (Variable r))
    ≡ set_next (entries S (Set r)) (run n) (reset_of r (entries S (Clear r))) (name (Variable r)) (first_value S r) (root S (Set r)) (root S (NextValue r))
