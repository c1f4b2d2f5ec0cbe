-- The module of a task by its elements.
use Rattle.std.specs.Prelude.{◌+◌, ◌-◌, ◌∷◌, ◌++◌, ◌==◌, if◌then◌else◌}
use Rattle.std.specs.Prelude.{ℕ, zero, suc, max, List, [], length, codes, Option, Some, None, Bool, true, false, slice_get, slice_index}
use Rattle.tapa_base.specs.declared.kind.Kind.TheVariants.{U64}
use Rattle.tapa_base.specs.Kinds.{bits_of}
use Rattle.tapa_syntax.specs.declared.program.End.{End}
use Rattle.vlog_tree.specs.declared.tree.Atom.{Atom}
use Rattle.vlog_tree.specs.declared.tree.Atom.TheVariants.{Net as NetAtom, Literal}
use Rattle.vlog_tree.specs.declared.tree.BinaryOp.TheVariants.{And, Or, Less}
use Rattle.vlog_tree.specs.declared.tree.Value.{Value}
use Rattle.vlog_tree.specs.declared.tree.Value.TheVariants.{Plain, Invert, Binary, Choose, Cell}
use Rattle.vlog_tree.specs.declared.tree.Step.{Step}
use Rattle.vlog_tree.specs.Form.{ModuleTree}
use Rattle.vlog_tree.specs.Labels.{rst}
use Rattle.vlog_tree.specs.Table.{Name}
use Rattle.vlog_module_laws.specs.Forms.{reset_block, set_block}
use Rattle.hw_build.specs.Elements.{Element, Input, Output, Wire, Register, Memory, Block, built, reset_or, stored}
use Rattle.hw_build.specs.Scope.{each}
use Rattle.hw_build.specs.Choices.{Entry, any_elements, pick_elements, choice}
use Rattle.task_fsm.specs.declared.machine.Fsm.{Fsm}
use Rattle.tapa_base.specs.declared.kind.Kind.{Kind}
use Rattle.hw_lines.specs.Nets.{Net, State, Ended, Done, Reset, Scalar, Variable, Array, Has, Dout, Taken, Din, Wr, Rdy, Ack, Rdata, Addr, Wdata, We, Plain as PlainNet, Datum}
use Rattle.hw_lines.specs.Nets.{Eot, At, ReadIndex, ReadInside, ReadOn, Raw, Answer, Choice, ToState, ToEnd, Clear, Set, NextValue, Stores, WriteIndex, WriteData, Reads, ArrayIndex, Puts, Token}
use Rattle.hw_lines.specs.Nets.{Takes, Address, StoreEnable, Data, name, front, read_front}
use Rattle.hw_lines.specs.Shape.{Shape, shape_of, array_kind, array_cells, stream_kind, register_kind, memory_kind, index_bits, state_count, state_bits}
use Rattle.hw_lines.specs.Wires.{ArrayRead, Compiled, compiled}
use Rattle.hw_lines.specs.States.{net, reads_at, state_wires, decoded}
use Rattle.hw_lines.specs.Effects.{eot_of, first_value, entries}

abbrev pub by_end : List Element → List Element → Bool → List Element
by_end written read b = if b then written else read

-- ---- ports, registers and memories

abbrev pub scalar_port : Shape → ℕ → List Element
scalar_port S i = Input (bits_of (register_kind S (slice_index S.scalars i))) (name (Scalar i)) ∷ []

abbrev pub is_written : Option End → Bool
is_written None = false
is_written (Some e) = e.writes

abbrev pub writes : Shape → ℕ → Bool
writes S s = is_written (slice_get S.streams s)

abbrev pub stream_inputs : Shape → ℕ → List Element
stream_inputs S s = by_end (Input 1 (name (Rdy s)) ∷ []) (Input 1 (name (Has s)) ∷ Input (bits_of (stream_kind S s) + 1) (name (Dout s)) ∷ []) (writes S s)

abbrev pub memory_inputs : Shape → ℕ → List Element
memory_inputs S m = Input 1 (name (Ack m)) ∷ Input (bits_of (memory_kind S m)) (name (Rdata m)) ∷ []

abbrev pub inputs : Shape → List Element
inputs S = each (scalar_port S) (length S.scalars) ++ each (stream_inputs S) (length S.streams) ++ each (memory_inputs S) (length S.memories)

abbrev pub variable : Shape → ℕ → List Element
variable S r = Register (bits_of (register_kind S r)) (name (Variable r)) ∷ []

abbrev pub array : Shape → ℕ → List Element
array S a = Memory (bits_of (array_kind S a)) (name (Array a)) (array_cells S a) ∷ []

abbrev pub held : Shape → List Element
held S = (Register (state_bits S) (name State) ∷ Register 1 (name Ended) ∷ []) ++ each (variable S) (length S.registers) ++ each (array S) (length S.arrays)

-- ---- the nets at the reader's end of a stream

abbrev pub offers : Shape → ℕ → List Element
offers S s =
    Wire 1 (name (PlainNet s)) (Invert (eot_of S s)) ∷ Wire 1 (name (Datum s)) (Binary (net (Has s)) And (net (PlainNet s))) ∷ Wire 1 (name (Eot s)) (Binary (net (Has s)) And (eot_of S s)) ∷ []

abbrev pub offered : Shape → ℕ → List Element
offered S s = by_end [] (offers S s) (writes S s)

-- ---- reads of arrays, by their numbers

abbrev pub read_index : ℕ → ℕ → ArrayRead → Compiled
read_index p k r = compiled (read_front k p) r.first 0 U64 r.index

abbrev pub asked_of : Shape → ℕ → ℕ → Option ArrayRead → List Element
asked_of S p k None = []
asked_of S p k (Some r) =
    (read_index p k r).elements
    ++ (Wire 1 (name (ReadInside k p)) (Binary (read_index p k r).atom Less (Literal 64 (array_cells S r.array)))
    ∷ Wire 1 (name (ReadOn k p)) (Binary (net (At k)) And (net (ReadInside k p))) ∷ [])

abbrev pub asked : Shape → ℕ → ℕ → List Element
asked S p k = asked_of S p k (slice_get (reads_at S k) p)

-- the cell that is read, where the index is one of the array's
abbrev pub answered : Shape → ℕ → ℕ → List Element
answered S p a =
    any_elements (front (Reads p a)) (entries S (Reads p a)) ++ pick_elements (index_bits S a) (front (ArrayIndex p a)) (entries S (ArrayIndex p a))
    ++ (Wire (bits_of (array_kind S a)) (name (Raw p a)) (Cell (name (Array a)) (choice (front (ArrayIndex p a)) (entries S (ArrayIndex p a))))
    ∷ Wire (bits_of (array_kind S a)) (name (Answer p a)) (Choose (NetAtom (choice (front (Reads p a)) (entries S (Reads p a)))) (net (Raw p a)) (Literal (bits_of (array_kind S a)) 0)) ∷ [])

abbrev pub unless_none : List Entry → List Element → List Element
unless_none [] elements = []
unless_none (e ∷ es) elements = elements

abbrev pub reads_of : Shape → ℕ → List Element
reads_of S p = each (asked S p) (state_count S) ++ each (λ a. unless_none (entries S (Reads p a)) (answered S p a)) (length S.arrays)

-- the most reads of a state
abbrev pub most : (ℕ → ℕ) → ℕ → ℕ
most f zero = 0
most f (suc n) = max (most f n) (f n)

abbrev pub read_numbers : Shape → ℕ
read_numbers S = most (λ k. length (reads_at S k)) (state_count S)

-- ---- choices

abbrev pub any : Shape → Choice → List Element
any S c = any_elements (front c) (entries S c)

abbrev pub pick : Shape → ℕ → Choice → List Element
pick S w c = pick_elements w (front c) (entries S c)

-- the result of a choice, and 0 where there is nothing to choose
abbrev pub result_of : ℕ → Name → List Entry → Value
result_of w f [] = Plain (Literal w 0)
result_of w f (e ∷ es) = Plain (NetAtom (choice f (e ∷ es)))

abbrev pub result : Shape → ℕ → Choice → Value
result S w c = result_of w (front c) (entries S c)

abbrev pub root : Shape → Choice → Name
root S c = choice (front c) (entries S c)

-- whether a register gets its first value, where a state clears it
abbrev pub reset_by : ℕ → List Entry → List Element
reset_by r [] = []
reset_by r (e ∷ es) = Wire 1 (name (Reset r)) (Binary (NetAtom rst) Or (NetAtom (choice (front (Clear r)) (e ∷ es)))) ∷ []

abbrev pub variable_choices : Shape → ℕ → List Element
variable_choices S r = any S (Clear r) ++ reset_by r (entries S (Clear r)) ++ any S (Set r) ++ pick S (bits_of (register_kind S r)) (NextValue r)

abbrev pub array_choices : Shape → ℕ → List Element
array_choices S a = any S (Stores a) ++ pick S (index_bits S a) (WriteIndex a) ++ pick S (bits_of (array_kind S a)) (WriteData a)

abbrev pub choices : Shape → List Element
choices S = pick S (state_bits S) ToState ++ any S ToEnd ++ each (variable_choices S) (length S.registers) ++ each (array_choices S) (length S.arrays)

-- ---- outputs

abbrev pub written : Shape → ℕ → List Element
written S s =
    any S (Puts s) ++ pick S (bits_of (stream_kind S s) + 1) (Token s)
    ++ (Output 1 (name (Wr s)) (result S 1 (Puts s)) ∷ Output (bits_of (stream_kind S s) + 1) (name (Din s)) (result S (bits_of (stream_kind S s) + 1) (Token s)) ∷ [])

abbrev pub taken : Shape → ℕ → List Element
taken S s = any S (Takes s) ++ (Output 1 (name (Taken s)) (result S 1 (Takes s)) ∷ [])

abbrev pub stream_outputs : Shape → ℕ → List Element
stream_outputs S s = by_end (written S s) (taken S s) (writes S s)

abbrev pub memory_outputs : Shape → ℕ → List Element
memory_outputs S m =
    pick S 64 (Address m) ++ any S (StoreEnable m) ++ pick S (bits_of (memory_kind S m)) (Data m)
    ++ (Output 64 (name (Addr m)) (result S 64 (Address m)) ∷ Output (bits_of (memory_kind S m)) (name (Wdata m))
    (result S (bits_of (memory_kind S m)) (Data m)) ∷ Output 1 (name (We m)) (result S 1 (StoreEnable m)) ∷ [])

abbrev pub outputs : Shape → List Element
outputs S = (Output 1 (name Done) (Plain (net Ended)) ∷ []) ++ each (stream_outputs S) (length S.streams) ++ each (memory_outputs S) (length S.memories)

-- ---- blocks

-- a register that nothing sets keeps its first value
abbrev pub register_block : Name → Name → Atom → List Entry → Name → Atom → List Step
register_block reset x first [] set next = set_block reset x first
register_block reset x first (e ∷ es) set next = reset_block reset set x first next

-- the net at which a register gets its first value
abbrev pub reset_of : ℕ → List Entry → Name
reset_of r [] = rst
reset_of r (e ∷ es) = name (Reset r)

abbrev pub variable_block : Shape → ℕ → List Element
variable_block S r =
    Block (register_block (reset_of r (entries S (Clear r))) (name (Variable r)) (first_value S r) (entries S (Set r)) (root S (Set r)) (NetAtom (root S (NextValue r)))) ∷ []

abbrev pub array_block : Shape → ℕ → List Element
array_block S a = unless_none (entries S (Stores a)) (Block (stored (name (Array a)) (root S (Stores a)) (root S (WriteIndex a)) (NetAtom (root S (WriteData a)))) ∷ [])

abbrev pub blocks : Shape → List Element
blocks S =
    (Block (reset_or (name State) (Literal (state_bits S) 0) (NetAtom (root S ToState)))
    ∷ Block (register_block rst (name Ended) (Literal 1 0) (entries S ToEnd) (root S ToEnd) (Literal 1 1)) ∷ [])
    ++ each (variable_block S) (length S.registers) ++ each (array_block S) (length S.arrays)

-- ---- the module

abbrev pub task_elements : Shape → List Element
task_elements S =
    inputs S ++ held S ++ each (decoded S) (state_count S) ++ each (offered S) (length S.streams) ++ each (reads_of S) (read_numbers S)
    ++ each (state_wires S) (state_count S) ++ choices S ++ outputs S ++ blocks S

abbrev pub task_name : Name → Name
task_name x = codes "t_" ++ x

abbrev pub task_tree : Fsm → List Kind → List End → ModuleTree
task_tree machine memories streams = built (task_name machine.name) (task_elements (shape_of machine memories streams))
