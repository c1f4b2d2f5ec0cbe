-- What each state does: the registers, the cells and the outputs that get values, with the conditions under which they do.
use Rattle.std.specs.Prelude.{ℕ, zero, suc, ◌+◌, ◌-◌, ◌^◌, List, [], ◌∷◌, length, Bool, false, Option, Some, None, slice_get, slice_index, ◌==◌, if◌then◌else◌}
use Rattle.tapa_base.specs.Kinds.{bits_of}
use Rattle.vlog_tree.specs.declared.tree.Atom.{Atom}
use Rattle.vlog_tree.specs.declared.tree.Atom.TheVariants.{Net as NetAtom, Part, Literal}
use Rattle.task_fsm.specs.Machine.{StateForm, SetAt, CellAt, TestAt, ReadAt, WriteAt, PeekAt, EotAt, OpenAt, CloseAt, LoadAt, StoreAt, ClearAt, EndAt, TrapAt}
use Rattle.hw_build.specs.Scope.{each}
use Rattle.hw_build.specs.Choices.{Entry}
use Rattle.hw_lines.specs.Nets.{Net, Scalar, Variable, Dout, Rdata, At, Go, Into, Packed, Value, ReadOn, name, read_front, Choice, ToState, ToEnd, Clear, Set, NextValue, Stores, WriteIndex, WriteData}
use Rattle.hw_lines.specs.Nets.{Reads, ArrayIndex, Puts, Token, Takes, Address, StoreEnable, Data}
use Rattle.hw_lines.specs.Shape.{Shape, array_kind, array_cells, stream_kind, register_kind, index_bits, state_count, form_at}
use Rattle.hw_lines.specs.Drivers.{low_bits}
use Rattle.hw_lines.specs.Wires.{ArrayRead, compiled}
use Rattle.tapa_base.specs.declared.kind.Kind.TheVariants.{U64}
use Rattle.hw_lines.specs.States.{net, index_wires, value_wires, reads_at, next_atom}

abbrev pub entry : Net → Atom → List Entry
entry c a = record { condition = name c; value = a } ∷ []

-- for one thing of its sort alone
abbrev pub at : ℕ → ℕ → List Entry → List Entry
at x y entries = if x == y then entries else []

abbrev pub into_register : Option ℕ → ℕ → List Entry → List Entry
into_register None r entries = []
into_register (Some x) r entries = at x r entries

-- the datum of a token, and whether it is an end of a transaction
abbrev pub datum_of : Shape → ℕ → Atom
datum_of S s = Part (name (Dout s)) (bits_of (stream_kind S s) - 1) 0

abbrev pub eot_of : Shape → ℕ → Atom
eot_of S s = Part (name (Dout s)) (bits_of (stream_kind S s)) (bits_of (stream_kind S s))

abbrev pub end_token : Shape → ℕ → Atom
end_token S s = Literal (bits_of (stream_kind S s) + 1) (2 ^ bits_of (stream_kind S s))

-- what register r gets
abbrev pub gives : Shape → ℕ → ℕ → StateForm → List Entry
gives S r k (SetAt x e next) = at x r (entry (At k) (value_wires S k).atom)
gives S r k (ReadAt s into next) = into_register into r (entry (Go k) (datum_of S s))
gives S r k (PeekAt s into next) = into_register into r (entry (Go k) (datum_of S s))
gives S r k (EotAt s into next) = into_register into r (entry (Go k) (eot_of S s))
gives S r k (LoadAt m i into next) = into_register into r (entry (Go k) (net (Rdata m)))
gives S r k (ClearAt a c next) = at c r (entry (At k) (net (Value k 2)))
gives S r k _ = []

-- The last scalar parameter of this register, if there is one, and 0 otherwise: the value that it has first.
abbrev pub first_by : Shape → ℕ → ℕ → Atom
first_by S r zero = Literal (bits_of (register_kind S r)) 0
first_by S r (suc i) = if slice_index S.scalars i == r then net (Scalar i) else first_by S r i

abbrev pub first_value : Shape → ℕ → Atom
first_value S r = first_by S r (length S.scalars)

-- whether an atom is this number, and whether two atoms are one number
abbrev pub is_number : ℕ → Atom → Bool
is_number n (NetAtom x) = false
is_number n (Part x high low) = false
is_number n (Literal w m) = n == m

abbrev pub is_same_number : Atom → Atom → Bool
is_same_number (NetAtom x) b = false
is_same_number (Part x high low) b = false
is_same_number (Literal w n) b = is_number n b

-- the entries whose value is a number, and the others
abbrev pub with_number : Atom → List Entry → List Entry
with_number a [] = []
with_number a (e ∷ entries) = if is_same_number e.value a then e ∷ with_number a entries else with_number a entries

abbrev pub without_number : Atom → List Entry → List Entry
without_number a [] = []
without_number a (e ∷ entries) = if is_same_number e.value a then without_number a entries else e ∷ without_number a entries

-- A state that gives a register the number that it has first clears it, and any other that gives it a value sets it.
abbrev pub clears : Shape → ℕ → ℕ → StateForm → List Entry
clears S r k form = with_number (first_value S r) (gives S r k form)

abbrev pub sets : Shape → ℕ → ℕ → StateForm → List Entry
sets S r k form = without_number (first_value S r) (gives S r k form)

-- array a: where, under the condition of a net of the state, and what
abbrev pub places : Shape → Net → ℕ → ℕ → StateForm → List Entry
places S x a k (CellAt b i e next) = at b a (entry x (low_bits (index_bits S a) (index_wires S k).atom))
places S x a k (ClearAt b c next) = at b a (entry x (low_bits (index_bits S a) (net (Variable c))))
places S x a k _ = []

abbrev pub contents : Shape → ℕ → ℕ → StateForm → List Entry
contents S a k (CellAt b i e next) = at b a (entry (At k) (value_wires S k).atom)
contents S a k (ClearAt b c next) = at b a (entry (At k) (Literal (bits_of (array_kind S a)) 0))
contents S a k _ = []

-- the read of a number, if it is one of array a
abbrev pub spot_of : Shape → Net → ℕ → ℕ → ℕ → Option ArrayRead → List Entry
spot_of S x p a k None = []
spot_of S x p a k (Some r) = at r.array a (entry x (low_bits (index_bits S a) (compiled (read_front k p) r.first 0 U64 r.index).atom))

abbrev pub spots : Shape → Net → ℕ → ℕ → ℕ → List Entry
spots S x p a k = spot_of S x p a k (slice_get (reads_at S k) p)

-- stream s
abbrev pub tokens : Shape → ℕ → ℕ → StateForm → List Entry
tokens S s k (WriteAt x e next) = at x s (entry (At k) (net (Packed k)))
tokens S s k (CloseAt x next) = at x s (entry (At k) (end_token S s))
tokens S s k _ = []

abbrev pub takings : Shape → ℕ → ℕ → StateForm → List Entry
takings S s k (ReadAt x into next) = at x s (entry (Go k) (Literal 1 1))
takings S s k (OpenAt x next) = at x s (entry (Go k) (Literal 1 1))
takings S s k _ = []

-- memory m
abbrev pub askings : Shape → ℕ → ℕ → StateForm → List Entry
askings S m k (LoadAt x i into next) = at x m (entry (At k) (index_wires S k).atom)
askings S m k (StoreAt x i e next) = at x m (entry (At k) (index_wires S k).atom)
askings S m k _ = []

abbrev pub savings : Shape → ℕ → ℕ → StateForm → List Entry
savings S m k (StoreAt x i e next) = at x m (entry (At k) (value_wires S k).atom)
savings S m k _ = []

abbrev pub endings : ℕ → StateForm → List Entry
endings k EndAt = entry (At k) (Literal 1 1)
endings k _ = []

-- What a state gives a choice. The place in an array is that of the state's index, whether it is one of the array's or not; that it is one
-- is asked for what is read or stored there.
abbrev pub effect : Shape → Choice → ℕ → List Entry
effect S ToState k = entry (At k) (next_atom S k (form_at S k))
effect S ToEnd k = endings k (form_at S k)
effect S (Clear r) k = clears S r k (form_at S k)
effect S (Set r) k = sets S r k (form_at S k)
effect S (NextValue r) k = sets S r k (form_at S k)
effect S (Stores a) k = places S (Into k) a k (form_at S k)
effect S (WriteIndex a) k = places S (At k) a k (form_at S k)
effect S (WriteData a) k = contents S a k (form_at S k)
effect S (Reads p a) k = spots S (ReadOn k p) p a k
effect S (ArrayIndex p a) k = spots S (At k) p a k
effect S (Puts s) k = tokens S s k (form_at S k)
effect S (Token s) k = tokens S s k (form_at S k)
effect S (Takes s) k = takings S s k (form_at S k)
effect S (Address m) k = askings S m k (form_at S k)
effect S (StoreEnable m) k = savings S m k (form_at S k)
effect S (Data m) k = savings S m k (form_at S k)

-- and all states together
abbrev pub entries : Shape → Choice → List Entry
entries S c = each (effect S c) (state_count S)
