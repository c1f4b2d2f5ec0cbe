-- The wires of an expression show its value, where its registers and the answers of its reads show theirs.
use Rattle.std.specs.Prelude.{◌≡◌, ℕ, suc, ◌<◌, List, [], ◌∷◌, Some, slice_index}
use Rattle.tapa_base.specs.declared.kind.Kind.{Kind}
use Rattle.tapa_base.specs.Kinds.{bits_of}
use Rattle.tapa_syntax.specs.LeafKinds.{Kinds}
use Rattle.kahn_model.specs.Trace.{State, cell}
use Rattle.vlog_tree.specs.declared.tree.Atom.TheVariants.{Net}
use Rattle.vlog_tree.specs.Table.{Name}
use Rattle.vlog_tree.specs.Cycle.{Cycle, Sizes}
use Rattle.task_fsm.specs.Machine.{Expression}
use Rattle.task_fsm.specs.MachineKinds.{IsFixed, IsOfKind, HoldsValues}
use Rattle.task_fsm.specs.Ranges.{Ranges, NamesWithin}
use Rattle.task_fsm.specs.Run.{value}
use Rattle.hw_lines.specs.declared.nets.Net.TheVariants.{Variable, Answer}
use Rattle.hw_lines.specs.Nets.{name}
use Rattle.hw_lines.specs.Fixed.{fixed}
use Rattle.hw_lines.specs.Wires.{ArrayRead, reads_in, compiled}
use Rattle.hw_task_laws.specs.wires.Shows.{Shows, AreSaid}

-- what is computed before anything is printed is the value
abbrev pub FixedIsValue : Type 0
FixedIsValue = (e : Expression) (σ : State) (v : ℕ) → fixed e ≡ Some v → value e σ ≡ v

-- and an expression of numbers alone is computed
abbrev pub NumbersAreFixed : Type 0
NumbersAreFixed = (K : Kinds) (e : Expression) (k : Kind) (σ : State) → IsOfKind K e k → HoldsValues K σ → IsFixed e → fixed e ≡ Some (value e σ)

-- the registers of a machine show their values
abbrev pub RegistersShown : Sizes → Cycle → Kinds → ℕ → State → Type 0
RegistersShown s c K n σ = (x : ℕ) → x < n → Shows s c (Net (name (Variable x))) (bits_of (K.vars x)) (slice_index σ.vars x)

-- each of some reads, of which the first has number m
abbrev pub Numbered : (ℕ → ArrayRead → Type 0) → ℕ → List ArrayRead → Type 0
Numbered P m [] = Unit {0}
Numbered P m (r ∷ reads) = P m r × Numbered P (suc m) reads

-- the answer of a read shows the cell
abbrev pub AnswerShown : Sizes → Cycle → Kinds → State → ℕ → ArrayRead → Type 0
AnswerShown s c K σ p r = Shows s c (Net (name (Answer p r.array))) (bits_of (K.arrays r.array)) (cell σ.arrays r.array (value r.index σ))

abbrev pub AnswersShown : Sizes → Cycle → Kinds → State → ℕ → List ArrayRead → Type 0
AnswersShown s c K σ m reads = Numbered (AnswerShown s c K σ) m reads

abbrev pub ShowsValue : Type 0
ShowsValue =
    (s : Sizes) (c : Cycle) (K : Kinds) (R : Ranges) (σ : State) → HoldsValues K σ → RegistersShown s c K R.registers σ → (e : Expression) (k : Kind) (front : Name) (m n : ℕ)
    → IsOfKind K e k → NamesWithin R e → AnswersShown s c K σ m (reads_in m e) → AreSaid s c (compiled front m n k e).elements
    → Shows s c (compiled front m n k e).atom (bits_of k) (value e σ)
