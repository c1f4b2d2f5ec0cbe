-- The kinds of a machine's expressions: each register, array and stream has one, and each value that a state sets,
-- stores, writes or tests has the kind of its target.
use Rattle.std.specs.Prelude.{◌≡◌, ℕ, ◌<◌, ◌≤◌, List, [], ◌∷◌, Option, Some, None, slice_index_or}
use Rattle.tapa_base.specs.declared.kind.Kind.{Kind}
use Rattle.tapa_base.specs.declared.kind.Kind.TheVariants.{Bool, U32, U64}
use Rattle.tapa_base.specs.declared.op.Op.{Op}
use Rattle.tapa_base.specs.declared.op.Op.TheVariants.{Div, Rem, Eq, Ne, Lt, Le, Gt, Ge}
use Rattle.tapa_base.specs.Kinds.{values_of}
use Rattle.tapa_syntax.specs.declared.program.Leaf.{Leaf}
use Rattle.tapa_syntax.specs.LeafKinds.{Kinds, kinds_of}
use Rattle.tapa_syntax.specs.Typed.{right_kind}
use Rattle.tapa_base.specs.declared.token.Token.{Token}
use Rattle.kahn_model.specs.Behavior.{Answer, judge_token}
use Rattle.kahn_model.specs.Fits.{IsTokenOf, ActionFits}
use Rattle.kahn_model.specs.Trace.{State, cell, cells_of}
use Rattle.task_fsm.specs.declared.machine.Fsm.{Fsm}
use Rattle.task_fsm.specs.Machine.{Expression, Number, Reg, CellOf, Converted, Applied, Flipped, Inverse, Both, Either, Chosen, StateForm, SetAt, CellAt, TestAt, ReadAt}
use Rattle.task_fsm.specs.Machine.{WriteAt, PeekAt, EotAt, OpenAt, CloseAt, LoadAt, StoreAt, ClearAt, EndAt, TrapAt}
use Rattle.task_fsm.specs.Run.{value, StateStep, Performs, Awaits, Completes, Halts, put_into}

-- the kinds of a leaf with these registers instead of its variables
abbrev pub with_registers : Kinds → List Kind → Kinds
with_registers K regs = record K { vars = λ r. slice_index_or regs r U64 }

abbrev pub machine_kinds : Leaf → Fsm → Kinds
machine_kinds leaf fsm = with_registers (kinds_of leaf) fsm.regs.items

-- an expression of numbers alone, which has one value in all states
abbrev pub IsFixed : Expression → Type 0
IsFixed (Number kind n) = Unit {0}
IsFixed (Reg x) = ⊥
IsFixed (CellOf a i) = ⊥
IsFixed (Converted source target e) = IsFixed e
IsFixed (Applied o j l r) = IsFixed l × IsFixed r
IsFixed (Flipped j e) = IsFixed e
IsFixed (Inverse e) = IsFixed e
IsFixed (Both l r) = IsFixed l × IsFixed r
IsFixed (Either l r) = IsFixed l × IsFixed r
IsFixed (Chosen e a b) = IsFixed e × IsFixed a × IsFixed b

-- a divisor is a constant that is not 0
abbrev pub IsDivisor : Op → Expression → Type 0
IsDivisor Div e = IsFixed e × ((σ : State) → 0 < value e σ)
IsDivisor Rem e = IsFixed e × ((σ : State) → 0 < value e σ)
IsDivisor o e = Unit {0}

-- an operator in kind j gives values of kind k: 0 and 1, as comparisons give, are values of every kind
abbrev pub GivesKind : Op → Kind → Kind → Type 0
GivesKind Eq j k = Unit {0}
GivesKind Ne j k = Unit {0}
GivesKind Lt j k = Unit {0}
GivesKind Le j k = Unit {0}
GivesKind Gt j k = Unit {0}
GivesKind Ge j k = Unit {0}
GivesKind o j k = j ≡ k

-- an expression of a machine whose registers, arrays, memories and streams have these kinds has this kind
abbrev pub IsOfKind : Kinds → Expression → Kind → Type 0
IsOfKind K (Number j n) k = (j ≡ k) × (n < values_of k)
IsOfKind K (Reg x) k = K.vars x ≡ k
IsOfKind K (CellOf a i) k = (K.arrays a ≡ k) × IsOfKind K i U64
IsOfKind K (Converted source target e) k = (target ≡ k) × IsOfKind K e source
IsOfKind K (Applied o j l r) k = GivesKind o j k × IsOfKind K l j × IsOfKind K r (right_kind o j) × IsDivisor o r
IsOfKind K (Flipped j e) k = (j ≡ k) × IsOfKind K e j
IsOfKind K (Inverse e) k = (Bool ≡ k) × IsOfKind K e Bool
IsOfKind K (Both l r) k = (Bool ≡ k) × IsOfKind K l Bool × IsOfKind K r Bool
IsOfKind K (Either l r) k = (Bool ≡ k) × IsOfKind K l Bool × IsOfKind K r Bool
IsOfKind K (Chosen e a b) k = IsOfKind K e Bool × IsOfKind K a k × IsOfKind K b k

-- the register that gets a value, if there is one, has its kind
abbrev pub IsTarget : Kinds → Option ℕ → Kind → Type 0
IsTarget K None k = Unit {0}
IsTarget K (Some r) k = K.vars r ≡ k

abbrev pub IsTypedState : Kinds → StateForm → Type 0
IsTypedState K (SetAt r e next) = IsOfKind K e (K.vars r)
IsTypedState K (CellAt a i e next) = IsOfKind K i U64 × IsOfKind K e (K.arrays a)
IsTypedState K (TestAt e y n) = IsOfKind K e Bool
IsTypedState K (ReadAt s into next) = IsTarget K into (K.streams s)
IsTypedState K (WriteAt s e next) = IsOfKind K e (K.streams s)
IsTypedState K (PeekAt s into next) = IsTarget K into (K.streams s)
IsTypedState K (EotAt s into next) = IsTarget K into Bool
IsTypedState K (OpenAt s next) = Unit {0}
IsTypedState K (CloseAt s next) = Unit {0}
IsTypedState K (LoadAt m i into next) = IsOfKind K i U64 × IsTarget K into (K.memories m)
IsTypedState K (StoreAt m i e next) = IsOfKind K i U64 × IsOfKind K e (K.memories m)
IsTypedState K (ClearAt a counter next) = K.vars counter ≡ U32
IsTypedState K EndAt = Unit {0}
IsTypedState K TrapAt = Unit {0}

abbrev pub AreTypedStates : Kinds → List StateForm → Type 0
AreTypedStates K [] = Unit {0}
AreTypedStates K (p ∷ rest) = IsTypedState K p × AreTypedStates K rest

-- each register and each cell holds a value of its kind, and no array has more cells than a task may have
pub record HoldsValues (K : Kinds) (σ : State) : Type 0 where
  pub vars : (x : ℕ) → slice_index_or σ.vars x 0 < values_of (K.vars x)
  pub arrays : (a i : ℕ) → cell σ.arrays a i < values_of (K.arrays a)
  pub cells : (m i : ℕ) → cell σ.cells m i < values_of (K.memories m)
  pub few : (a : ℕ) → cells_of σ a ≤ 4096

-- a step of a machine in such a state leads to such a state, and what it puts and stores is a value of its kind
abbrev pub StepFits : Kinds → State → StateStep → Type 0
StepFits K σ (Performs a pc σ') = ActionFits K.streams K.memories a × HoldsValues K σ'
StepFits K σ (Awaits s how pc into) = (t : Token) (v : ℕ) → IsTokenOf (K.streams s) t → judge_token how t ≡ Answer t v → HoldsValues K (put_into σ into v)
StepFits K σ Completes = Unit {0}
StepFits K σ Halts = Unit {0}
