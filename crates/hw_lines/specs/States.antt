-- What the wires of one state are: its decode, its value and its index, and what its tick waits for.
use Rattle.std.specs.Prelude.{ℕ, ◌+◌, ◌-◌, List, [], ◌∷◌, ◌++◌, Bool, true, false, Option, Some, None}
use Rattle.tapa_base.specs.declared.kind.Kind.{Kind}
use Rattle.tapa_base.specs.declared.kind.Kind.TheVariants as kind
use Rattle.tapa_base.specs.Kinds.{bits_of}
use Rattle.vlog_tree.specs.declared.tree.Atom.{Atom}
use Rattle.vlog_tree.specs.declared.tree.Atom.TheVariants.{Net as NetAtom, Literal}
use Rattle.vlog_tree.specs.declared.tree.BinaryOp.TheVariants.{Plus, And, Equals, Less}
use Rattle.vlog_tree.specs.declared.tree.Value.TheVariants.{Binary, Choose, Concat}
use Rattle.hw_build.specs.Elements.{Element, Wire}
use Rattle.task_fsm.specs.Machine.{Expression, Number, StateForm, SetAt, CellAt, TestAt, ReadAt, WriteAt, PeekAt, EotAt, OpenAt, CloseAt, LoadAt, StoreAt, ClearAt, EndAt, TrapAt}
use Rattle.hw_lines.specs.Nets.{Net, Variable, Has, Rdy, Ack, Datum, Eot, At, Go, Inside, Into, Packed, Next, Value, State, name, value_front, index_front}
use Rattle.hw_lines.specs.Shape.{Shape, array_kind, array_cells, stream_kind, register_kind, memory_kind, state_bits, form_at}
use Rattle.hw_lines.specs.Drivers.{wires_of}
use Rattle.hw_lines.specs.Wires.{ArrayRead, Compiled, reads_in, read_count, compiled}

abbrev pub net : Net → Atom
net x = NetAtom (name x)

-- the index and the value of a state; a state without one has a number instead, which makes no wire
abbrev pub nothing : Expression
nothing = Number kind.Bool 0

abbrev pub index_of : StateForm → Expression
index_of (CellAt a i e next) = i
index_of (LoadAt m i into next) = i
index_of (StoreAt m i e next) = i
index_of _ = nothing

abbrev pub value_of : StateForm → Expression
value_of (SetAt r e next) = e
value_of (CellAt a i e next) = e
value_of (TestAt e y n) = e
value_of (WriteAt s e next) = e
value_of (StoreAt m i e next) = e
value_of _ = nothing

abbrev pub value_kind : Shape → StateForm → Kind
value_kind S (SetAt r e next) = register_kind S r
value_kind S (CellAt a i e next) = array_kind S a
value_kind S (WriteAt s e next) = stream_kind S s
value_kind S (StoreAt m i e next) = memory_kind S m
value_kind S _ = kind.Bool

-- their wires: the reads of the index come first
abbrev pub index_wires : Shape → ℕ → Compiled
index_wires S k = compiled (index_front k) 0 0 kind.U64 (index_of (form_at S k))

abbrev pub value_wires : Shape → ℕ → Compiled
value_wires S k = compiled (value_front k) (read_count (index_of (form_at S k))) 0 (value_kind S (form_at S k)) (value_of (form_at S k))

abbrev pub reads_at : Shape → ℕ → List ArrayRead
reads_at S k = reads_in 0 (index_of (form_at S k)) ++ reads_in (read_count (index_of (form_at S k))) (value_of (form_at S k))

-- what a state's tick waits for
abbrev pub awaited : StateForm → Option Net
awaited (ReadAt s into next) = Some (Datum s)
awaited (PeekAt s into next) = Some (Datum s)
awaited (EotAt s into next) = Some (Has s)
awaited (OpenAt s next) = Some (Eot s)
awaited (WriteAt s e next) = Some (Rdy s)
awaited (CloseAt s next) = Some (Rdy s)
awaited (LoadAt m i into next) = Some (Ack m)
awaited (StoreAt m i e next) = Some (Ack m)
awaited _ = None

abbrev pub is_some_register : Option ℕ → Bool
is_some_register None = false
is_some_register (Some r) = true

-- whether something is done by its tick alone
abbrev pub needs_go : StateForm → Bool
needs_go (ReadAt s into next) = true
needs_go (OpenAt s next) = true
needs_go (PeekAt s into next) = is_some_register into
needs_go (EotAt s into next) = is_some_register into
needs_go (LoadAt m i into next) = is_some_register into
needs_go _ = false

abbrev pub go_of : ℕ → Option Net → Bool → List Element
go_of k None late = []
go_of k (Some w) false = []
go_of k (Some w) true = Wire 1 (name (Go k)) (Binary (net (At k)) And (net w)) ∷ []

abbrev pub number_of : Shape → ℕ → Atom
number_of S k = Literal (state_bits S) k

-- the next state, where it isn't the same in all cycles
abbrev pub next_of : Shape → ℕ → Atom → (yes' no' : ℕ) → List Element
next_of S k test y n = Wire (state_bits S) (name (Next k)) (Choose test (number_of S y) (number_of S n)) ∷ []

abbrev pub next_wires : Shape → ℕ → StateForm → List Element
next_wires S k (TestAt e y n) = next_of S k (value_wires S k).atom y n
next_wires S k (ClearAt a c next) = next_of S k (net (Value k 0)) k next
next_wires S k (ReadAt s into next) = next_of S k (net (Datum s)) next k
next_wires S k (PeekAt s into next) = next_of S k (net (Datum s)) next k
next_wires S k (EotAt s into next) = next_of S k (net (Has s)) next k
next_wires S k (OpenAt s next) = next_of S k (net (Eot s)) next k
next_wires S k (WriteAt s e next) = next_of S k (net (Rdy s)) next k
next_wires S k (CloseAt s next) = next_of S k (net (Rdy s)) next k
next_wires S k (LoadAt m i into next) = next_of S k (net (Ack m)) next k
next_wires S k (StoreAt m i e next) = next_of S k (net (Ack m)) next k
next_wires S k (SetAt r e next) = []
next_wires S k (CellAt a i e next) = []
next_wires S k EndAt = []
next_wires S k TrapAt = []

abbrev pub next_atom : Shape → ℕ → StateForm → Atom
next_atom S k (SetAt r e next) = number_of S next
next_atom S k (CellAt a i e next) = number_of S next
next_atom S k EndAt = number_of S k
next_atom S k TrapAt = number_of S k
next_atom S k _ = net (Next k)

-- an index of some bits that is one of an array's
abbrev pub into_of : Shape → ℕ → ℕ → Atom → ℕ → List Element
into_of S k a index bits =
    Wire 1 (name (Inside k)) (Binary index Less (Literal bits (array_cells S a))) ∷ Wire 1 (name (Into k)) (Binary (net (At k)) And (net (Inside k))) ∷ []

-- a Clear's counter: whether more cells follow, one more, and what comes next
abbrev pub counting : Shape → ℕ → ℕ → ℕ → List Element
counting S k a c =
    wires_of (value_front k) 0
    ((1, Binary (net (Variable c)) Less (Literal 32 (array_cells S a - 1))) ∷ (32, Binary (net (Variable c)) Plus (Literal 32 1)) ∷
    (32, Choose (net (Value k 0)) (net (Value k 1)) (Literal 32 0)) ∷ [])

-- the token of a datum: the top bit, 0, says that it ends no transaction
abbrev pub packed : Shape → ℕ → ℕ → Atom → List Element
packed S k s a = Wire (bits_of (stream_kind S s) + 1) (name (Packed k)) (Concat (Literal 1 0 ∷ a ∷ [])) ∷ []

abbrev pub more_wires : Shape → ℕ → StateForm → List Element
more_wires S k (CellAt a i e next) = into_of S k a (index_wires S k).atom 64
more_wires S k (ClearAt a c next) = into_of S k a (net (Variable c)) 32 ++ counting S k a c
more_wires S k (WriteAt s e next) = packed S k s (value_wires S k).atom
more_wires S k _ = []

abbrev pub state_wires : Shape → ℕ → List Element
state_wires S k =
    (index_wires S k).elements ++ (value_wires S k).elements ++ more_wires S k (form_at S k) ++ go_of k (awaited (form_at S k)) (needs_go (form_at S k)) ++ next_wires S k (form_at S k)

abbrev pub decoded : Shape → ℕ → List Element
decoded S k = Wire 1 (name (At k)) (Binary (net State) Equals (number_of S k)) ∷ []
