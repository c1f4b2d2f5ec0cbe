-- What a machine's states name is there: registers, arrays and memories, streams in the direction in which the leaf has
-- them, and states that are not the trap.
use Rattle.std.specs.Prelude.{◌≡◌, ℕ, ◌-◌, ◌<◌, List, [], ◌∷◌, length, Bool, true, false, Option, Some, None}
use Rattle.tapa_syntax.specs.declared.program.Leaf.{Leaf}
use Rattle.tapa_syntax.specs.LeafKinds.{writes_of}
use Rattle.task_fsm.specs.declared.machine.Fsm.{Fsm}
use Rattle.task_fsm.specs.Machine.{Expression, Number, Reg, CellOf, Converted, Applied, Flipped, Inverse, Both, Either, Chosen, StateForm, SetAt, CellAt, TestAt, ReadAt}
use Rattle.task_fsm.specs.Machine.{WriteAt, PeekAt, EotAt, OpenAt, CloseAt, LoadAt, StoreAt, ClearAt, EndAt, TrapAt}

-- how many registers, arrays, memories and states before the trap there are, and which streams are written
pub record Ranges : Type 0 where
  pub registers : ℕ
  pub arrays : ℕ
  pub memories : ℕ
  pub states : ℕ
  pub writes : ℕ → Option Bool

-- the trap is the last state
abbrev pub ranges_of : Leaf → Fsm → Ranges
ranges_of leaf fsm = record {
  registers = length fsm.regs.items;
  arrays = length leaf.arrays.items;
  memories = length leaf.memories.items;
  states = length fsm.states.items - 1;
  writes = writes_of leaf.streams.items;
}

abbrev pub NamesWithin : Ranges → Expression → Type 0
NamesWithin r (Number kind n) = Unit {0}
NamesWithin r (Reg x) = x < r.registers
NamesWithin r (CellOf a i) = (a < r.arrays) × NamesWithin r i
NamesWithin r (Converted source target e) = NamesWithin r e
NamesWithin r (Applied op kind a b) = NamesWithin r a × NamesWithin r b
NamesWithin r (Flipped kind e) = NamesWithin r e
NamesWithin r (Inverse e) = NamesWithin r e
NamesWithin r (Both a b) = NamesWithin r a × NamesWithin r b
NamesWithin r (Either a b) = NamesWithin r a × NamesWithin r b
NamesWithin r (Chosen e a b) = NamesWithin r e × NamesWithin r a × NamesWithin r b

-- the register that gets a value, if there is one
abbrev pub IsRegister : Ranges → Option ℕ → Type 0
IsRegister r None = Unit {0}
IsRegister r (Some x) = x < r.registers

abbrev pub IsInRange : Ranges → StateForm → Type 0
IsInRange r (SetAt x e next) = (x < r.registers) × NamesWithin r e × (next < r.states)
IsInRange r (CellAt a i e next) = (a < r.arrays) × NamesWithin r i × NamesWithin r e × (next < r.states)
IsInRange r (TestAt e y n) = NamesWithin r e × (y < r.states) × (n < r.states)
IsInRange r (ReadAt s into next) = (r.writes s ≡ Some false) × IsRegister r into × (next < r.states)
IsInRange r (WriteAt s e next) = (r.writes s ≡ Some true) × NamesWithin r e × (next < r.states)
IsInRange r (PeekAt s into next) = (r.writes s ≡ Some false) × IsRegister r into × (next < r.states)
IsInRange r (EotAt s into next) = (r.writes s ≡ Some false) × IsRegister r into × (next < r.states)
IsInRange r (OpenAt s next) = (r.writes s ≡ Some false) × (next < r.states)
IsInRange r (CloseAt s next) = (r.writes s ≡ Some true) × (next < r.states)
IsInRange r (LoadAt m i into next) = (m < r.memories) × NamesWithin r i × IsRegister r into × (next < r.states)
IsInRange r (StoreAt m i e next) = (m < r.memories) × NamesWithin r i × NamesWithin r e × (next < r.states)
IsInRange r (ClearAt a counter next) = (a < r.arrays) × (counter < r.registers) × (next < r.states)
IsInRange r EndAt = Unit {0}
IsInRange r TrapAt = Unit {0}

abbrev pub AreInRange : Ranges → List StateForm → Type 0
AreInRange r [] = Unit {0}
AreInRange r (p ∷ rest) = IsInRange r p × AreInRange r rest
