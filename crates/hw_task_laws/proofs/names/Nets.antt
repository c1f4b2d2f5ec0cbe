-- The nets of each part of a task's module.
use Rattle.std.proofs.Common.{◌≡◌, ℕ, ◌+◌, ◌-◌, ◌^◌, ◌<◌, ◌≤◌, Bool, true, false, List, [], ◌∷◌, ◌++◌, length, Option, Some, None, refl, arith}
use Rattle.std.specs.Prelude.{slice_get}
use Rattle.tapa_base.specs.declared.kind.Kind.TheVariants as kind
use Rattle.tapa_base.specs.Kinds.{bits_of}
use Rattle.vlog_tree.specs.declared.tree.Atom.{Atom}
use Rattle.vlog_tree.specs.declared.tree.Atom.TheVariants.{Literal}
use Rattle.vlog_tree.specs.declared.tree.BinaryOp.TheVariants.{Plus, Less}
use Rattle.vlog_tree.specs.declared.tree.Value.TheVariants.{Plain as PlainValue, Binary, Choose}
use Rattle.hw_build.specs.Elements.{Element, Input, Output, Register}
use Rattle.hw_build.specs.Scope.{each}
use Rattle.hw_build.specs.Choices.{Entry}
use Rattle.hw_build.specs.Fits.{declared_names}
use Rattle.task_fsm.specs.Machine.{StateForm, SetAt, CellAt, WriteAt, ClearAt, EndAt, TrapAt}
use Rattle.hw_lines.specs.declared.nets.Choice.{Choice}
use Rattle.hw_lines.specs.declared.nets.Net.{Net}
use Rattle.hw_lines.specs.declared.nets.Choice.TheVariants.{ToState, ToEnd, Set, NextValue, Stores, WriteIndex, WriteData, Reads, ArrayIndex, Puts, Token, Takes, Address, StoreEnable, Data, Clear}
use Rattle.hw_lines.specs.declared.nets.Net.TheVariants.{State, Ended, Done, Scalar, Variable, Array, Has, Dout, Taken, Din, Wr, Rdy, Ack, Rdata, Addr, Wdata, We, Plain, Datum, Eot, At, Go, Inside, Into, Packed, Next, Value, Index, ReadIndex, ReadInside, ReadOn, Raw, Answer, Node, Reset}
use Rattle.hw_lines.specs.Nets.{numbers, name, front, value_front, index_front, read_front}
use Rattle.hw_lines.specs.Names.{AreSmall}
use Rattle.hw_lines.specs.Shape.{Shape, array_kind, array_cells, register_kind, index_bits, stream_kind, memory_kind, state_count, state_bits, form_at}
use Rattle.hw_lines.specs.Drivers.{Driver}
use Rattle.hw_lines.specs.Wires.{ArrayRead, read_count, compiled}
use Rattle.hw_lines.specs.States.{net, index_of, value_of, value_kind, index_wires, reads_at, awaited, needs_go, go_of, next_wires, into_of, counting, more_wires, state_wires, decoded}
use Rattle.hw_lines.specs.Effects.{entries}
use Rattle.hw_lines.specs.Texts.{by_end, scalar_port, writes, stream_inputs, memory_inputs, inputs, variable, array, held, offered, read_index, asked_of, asked, answered, unless_none, reads_of, read_numbers, any, pick, result, variable_choices, array_choices, choices, written, taken, stream_outputs, memory_outputs, outputs, reset_by}
use Rattle.hw_lines.proofs.Spelled.{nodes_numbered}
use Rattle.hw_task_laws.proofs.names.Rows.{compiled_row, drivers_row, any_row, pick_row}
use Rattle.hw_task_laws.proofs.names.Bounds.{IsBounded}
use Rattle.hw_task_laws.proofs.names.Named.{part_of, inner_of, AreNumbered, In_part, Names, is_sorted, names_both, names_each, names_none, names_one, names_more, names_row}

abbrev pub Any : Net → Type 0
Any y = Unit {0}

abbrev pub Nets : (Net → Type 0) → ℕ → ℕ → List Element → Type 0
Nets Q low high es = Names declared_names Q low high es

-- ---- fronts

index_numbered : (k : ℕ) → AreNumbered (index_front k) (λ i. Index k i)
unfolding name index_front
index_numbered k = record { is = λ i. refl; last = λ i. refl }

value_numbered : (k : ℕ) → AreNumbered (value_front k) (λ i. Value k i)
unfolding name value_front
value_numbered k = record { is = λ i. refl; last = λ i. refl }

read_numbered : (k p : ℕ) → AreNumbered (read_front k p) (λ i. ReadIndex k p i)
unfolding name read_front
read_numbered k p = record { is = λ i. refl; last = λ i. refl }

node_numbered : (c : Choice) → AreNumbered (front c) (λ i. Node c i)
node_numbered c = record { is = λ i. nodes_numbered c i; last = λ i. refl }

-- below a bound
pub low_of : (k n : ℕ) → k < n → n ≤ 2 ^ 64 → k < 2 ^ 64
low_of k n h l = omega (arith, h, l)

-- ---- choices of the elements between

by_end_nets : (Q : Net → Type 0) (low high : ℕ) (xs ys : List Element) (b : Bool) → Nets Q low high xs → Nets Q low high ys → Nets Q low high (by_end xs ys b)
by_end_nets Q low high xs ys true h k = h
by_end_nets Q low high xs ys false h k = k

unless_nets : (Q : Net → Type 0) (low high : ℕ) (es : List Entry) (xs : List Element) → Nets Q low high xs → Nets Q low high (unless_none es xs)
unless_nets Q low high [] xs h = names_none declared_names Q low high [] refl
unless_nets Q low high (e ∷ es) xs h = h

module _ (S : Shape) (B : IsBounded S) where
  -- ---- ports, registers and memories

  scalar_nets : (k : ℕ) → k < length S.scalars → Nets (In_part Any part_of k) 0 1 (scalar_port S k)
  scalar_nets k l = names_one declared_names (In_part Any part_of k) 0 1 _ (Scalar k) refl (tt, refl) (low_of k (length S.scalars) l B.scalars, tt) refl

  stream_nets : (k : ℕ) → k < length S.streams → Nets (In_part Any part_of k) 1 4 (stream_inputs S k)
  stream_nets k l =
      let small = low_of k (length S.streams) l B.streams in
      by_end_nets (In_part Any part_of k) 1 4 _ _ (writes S k)
      (names_one declared_names (In_part Any part_of k) 1 4 (Input 1 (name (Rdy k))) (Rdy k) refl (tt, refl) (small, tt) refl)
      (names_more declared_names (In_part Any part_of k) 2 3 3 4 1 4 (Input 1 (name (Has k))) _
      (names_one declared_names (In_part Any part_of k) 2 3 (Input 1 (name (Has k))) (Has k) refl (tt, refl) (small, tt) refl)
      (names_one declared_names (In_part Any part_of k) 3 4 (Input (bits_of (stream_kind S k) + 1) (name (Dout k))) (Dout k) refl (tt, refl) (small, tt) refl) refl)

  memory_nets : (k : ℕ) → k < length S.memories → Nets (In_part Any part_of k) 4 6 (memory_inputs S k)
  memory_nets k l =
      let small = low_of k (length S.memories) l B.memories in
      names_more declared_names (In_part Any part_of k) 4 5 5 6 4 6 (Input 1 (name (Ack k))) _
      (names_one declared_names (In_part Any part_of k) 4 5 (Input 1 (name (Ack k))) (Ack k) refl (tt, refl) (small, tt) refl)
      (names_one declared_names (In_part Any part_of k) 5 6 (Input (bits_of (memory_kind S k)) (name (Rdata k))) (Rdata k) refl (tt, refl) (small, tt) refl) refl

  pub input_nets : Nets Any 0 6 (inputs S)
  input_nets =
      let scalars = each (scalar_port S) (length S.scalars) in
      let streams = each (stream_inputs S) (length S.streams) in
      names_both declared_names Any 0 4 4 6 0 6 (scalars ++ streams) (each (memory_inputs S) (length S.memories))
      (names_both declared_names Any 0 1 1 4 0 4 scalars streams (names_each declared_names Any part_of 0 1 (scalar_port S) (length S.scalars) scalar_nets) (names_each declared_names Any part_of 1 4 (stream_inputs S) (length S.streams) stream_nets) refl)
      (names_each declared_names Any part_of 4 6 (memory_inputs S) (length S.memories) memory_nets) refl

  variable_nets : (k : ℕ) → k < length S.registers → Nets (In_part Any part_of k) 12 13 (variable S k)
  variable_nets k l = names_one declared_names (In_part Any part_of k) 12 13 _ (Variable k) refl (tt, refl) (low_of k (length S.registers) l B.registers, tt) refl

  array_nets : (k : ℕ) → k < length S.arrays → Nets (In_part Any part_of k) 13 14 (array S k)
  array_nets k l = names_one declared_names (In_part Any part_of k) 13 14 _ (Array k) refl (tt, refl) (low_of k (length S.arrays) l B.arrays, tt) refl

  pub held_nets : Nets Any 10 14 (held S)
  held_nets =
      let variables = each (variable S) (length S.registers) in
      let arrays = each (array S) (length S.arrays) in
      names_more declared_names Any 10 11 11 14 10 14 (Register (state_bits S) (name State)) _
      (names_one declared_names Any 10 11 (Register (state_bits S) (name State)) State refl tt tt refl)
      (names_more declared_names Any 11 12 12 14 11 14 (Register 1 (name Ended)) _
      (names_one declared_names Any 11 12 (Register 1 (name Ended)) Ended refl tt tt refl)
      (names_both declared_names Any 12 13 13 14 12 14 variables arrays (names_each declared_names Any part_of 12 13 (variable S) (length S.registers) variable_nets) (names_each declared_names Any part_of 13 14 (array S) (length S.arrays) array_nets) refl) refl) refl

  -- ---- decodes and offers

  decode_nets : (k : ℕ) → k < state_count S → Nets (In_part Any part_of k) 20 21 (decoded S k)
  decode_nets k l = names_one declared_names (In_part Any part_of k) 20 21 _ (At k) refl (tt, refl) (low_of k (state_count S) l B.states, tt) refl

  pub decodes_nets : Nets Any 20 21 (each (decoded S) (state_count S))
  decodes_nets = names_each declared_names Any part_of 20 21 (decoded S) (state_count S) decode_nets

  offer_nets : (k : ℕ) → k < length S.streams → Nets (In_part Any part_of k) 30 33 (offered S k)
  offer_nets k l =
      let small = low_of k (length S.streams) l B.streams in
      let Q = In_part Any part_of k in
      by_end_nets Q 30 33 [] _ (writes S k) (names_none declared_names Q 30 33 [] refl)
      (names_more declared_names Q 30 31 31 33 30 33 _ _ (names_one declared_names Q 30 31 _ (Plain k) refl (tt, refl) (small, tt) refl)
      (names_more declared_names Q 31 32 32 33 31 33 _ _ (names_one declared_names Q 31 32 _ (Datum k) refl (tt, refl) (small, tt) refl)
      (names_one declared_names Q 32 33 _ (Eot k) refl (tt, refl) (small, tt) refl) refl) refl)

  pub offers_nets : Nets Any 30 33 (each (offered S) (length S.streams))
  offers_nets = names_each declared_names Any part_of 30 33 (offered S) (length S.streams) offer_nets

  -- ---- reads

  any_nets : (Q : Net → Type 0) (low high : ℕ) (c : Choice) → ((i : ℕ) → i < 2 ^ 64 → Q (Node c i) × AreSmall (numbers (Node c i))) → ((i : ℕ) → is_sorted low high (Node c i) ≡ true) → Nets Q low high (any S c)
  any_nets Q low high c so sorted = names_row Q low high (front c) (any S c) (λ i. Node c i) (any_row (front c) (entries S c)) (node_numbered c) so sorted

  pick_nets : (Q : Net → Type 0) (low high w : ℕ) (c : Choice) → ((i : ℕ) → i < 2 ^ 64 → Q (Node c i) × AreSmall (numbers (Node c i))) → ((i : ℕ) → is_sorted low high (Node c i) ≡ true) → Nets Q low high (pick S w c)
  pick_nets Q low high w c so sorted = names_row Q low high (front c) (pick S w c) (λ i. Node c i) (pick_row w (front c) (entries S c)) (node_numbered c) so sorted

  module _ (p : ℕ) (small_p : p < 2 ^ 64) where
    abbrev InRead : Net → Type 0
    InRead = In_part Any part_of p

    asked_nets_of : (k : ℕ) → k < state_count S → (o : Option ArrayRead) → Nets (In_part InRead inner_of k) 40 43 (asked_of S p k o)
    asked_nets_of k l None = names_none declared_names (In_part InRead inner_of k) 40 43 [] refl
    asked_nets_of k l (Some r) =
        let small = low_of k (state_count S) l B.states in
        let Q = In_part InRead inner_of k in
        names_both declared_names Q 40 41 41 43 40 43 (read_index p k r).elements _
        (names_row Q 40 41 (read_front k p) (read_index p k r).elements (λ i. ReadIndex k p i) (compiled_row (read_front k p) r.first 0 kind.U64 r.index).wires (read_numbered k p)
        (λ i h. (((tt, refl), refl), (small, (small_p, (h, tt))))) (λ i. refl))
        (names_more declared_names Q 41 42 42 43 41 43 _ _ (names_one declared_names Q 41 42 _ (ReadInside k p) refl ((tt, refl), refl) (small, (small_p, tt)) refl)
        (names_one declared_names Q 42 43 _ (ReadOn k p) refl ((tt, refl), refl) (small, (small_p, tt)) refl) refl) refl

    asked_nets : (k : ℕ) → k < state_count S → Nets (In_part InRead inner_of k) 40 43 (asked S p k)
    asked_nets k l = asked_nets_of k l (slice_get (reads_at S k) p)

    answered_nets : (a : ℕ) → a < length S.arrays → Nets (In_part InRead inner_of a) 43 47 (unless_none (entries S (Reads p a)) (answered S p a))
    answered_nets a l =
        let small = low_of a (length S.arrays) l B.arrays in
        let Q = In_part InRead inner_of a in
        unless_nets Q 43 47 (entries S (Reads p a)) (answered S p a)
        (names_both declared_names Q 43 45 45 47 43 47 (any S (Reads p a) ++ pick S (index_bits S a) (ArrayIndex p a)) _
        (names_both declared_names Q 43 44 44 45 43 45 (any S (Reads p a)) (pick S (index_bits S a) (ArrayIndex p a))
        (any_nets Q 43 44 (Reads p a) (λ i h. (((tt, refl), refl), (small_p, (small, (h, tt))))) (λ i. refl))
        (pick_nets Q 44 45 (index_bits S a) (ArrayIndex p a) (λ i h. (((tt, refl), refl), (small_p, (small, (h, tt))))) (λ i. refl)) refl)
        (names_more declared_names Q 45 46 46 47 45 47 _ _ (names_one declared_names Q 45 46 _ (Raw p a) refl ((tt, refl), refl) (small_p, (small, tt)) refl)
        (names_one declared_names Q 46 47 _ (Answer p a) refl ((tt, refl), refl) (small_p, (small, tt)) refl) refl) refl)

    read_nets : Nets InRead 40 47 (reads_of S p)
    read_nets =
        names_both declared_names InRead 40 43 43 47 40 47 (each (asked S p) (state_count S)) (each (λ a. unless_none (entries S (Reads p a)) (answered S p a)) (length S.arrays))
        (names_each declared_names InRead inner_of 40 43 (asked S p) (state_count S) asked_nets)
        (names_each declared_names InRead inner_of 43 47 (λ a. unless_none (entries S (Reads p a)) (answered S p a)) (length S.arrays) answered_nets) refl

  pub reads_nets : Nets Any 40 47 (each (reads_of S) (read_numbers S))
  reads_nets = names_each declared_names Any part_of 40 47 (reads_of S) (read_numbers S) (λ p l. read_nets p (low_of p (read_numbers S) l B.reads))

  -- ---- states

  module _ (k : ℕ) (small : k < 2 ^ 64) where
    abbrev InState : Net → Type 0
    InState = In_part Any part_of k

    one_net : (low high : ℕ) (e : Element) (y : Net) → declared_names e ≡ name y ∷ [] → InState y → AreSmall (numbers y) → is_sorted low high y ≡ true → Nets InState low high (e ∷ [])
    one_net low high e y is so low_numbers sorted = names_one declared_names InState low high e y is so low_numbers sorted

    no_net : (low high : ℕ) → Nets InState low high []
    no_net low high = names_none declared_names InState low high [] refl

    abbrev index_part : StateForm → List Element
    index_part f = (compiled (index_front k) 0 0 kind.U64 (index_of f)).elements

    abbrev value_part : StateForm → List Element
    value_part f = (compiled (value_front k) (read_count (index_of f)) 0 (value_kind S f) (value_of f)).elements

    into_nets : (a bits : ℕ) (x : Atom) → Nets InState 52 55 (into_of S k a x bits)
    into_nets a bits x =
        names_more declared_names InState 52 53 53 54 52 55 _ _ (one_net 52 53 _ (Inside k) refl (tt, refl) (small, tt) refl) (one_net 53 54 _ (Into k) refl (tt, refl) (small, tt) refl) refl

    front_nets : (f : StateForm) → Nets InState 50 52 (index_part f ++ value_part f)
    front_nets f =
        names_both declared_names InState 50 51 51 52 50 52 (index_part f) (value_part f)
        (names_row InState 50 51 (index_front k) (index_part f) (λ i. Index k i) (compiled_row (index_front k) 0 0 kind.U64 (index_of f)).wires (index_numbered k) (λ i h. ((tt, refl), (small, (h, tt)))) (λ i. refl))
        (names_row InState 51 52 (value_front k) (value_part f) (λ i. Value k i) (compiled_row (value_front k) (read_count (index_of f)) 0 (value_kind S f) (value_of f)).wires (value_numbered k)
        (λ i h. ((tt, refl), (small, (h, tt)))) (λ i. refl)) refl

    ordinary : (f : StateForm) (es : List Element) → Nets InState 52 55 es → Nets InState 50 55 ((index_part f ++ value_part f) ++ es)
    ordinary f es h = names_both declared_names InState 50 52 52 55 50 55 (index_part f ++ value_part f) es (front_nets f) h refl

    abbrev counting_drivers : (k a c : ℕ) → List Driver
    counting_drivers k a c =
        (1, Binary (net (Variable c)) Less (Literal 32 (array_cells S a - 1))) ∷ (32, Binary (net (Variable c)) Plus (Literal 32 1)) ∷ (32, Choose (net (Value k 0)) (net (Value k 1)) (Literal 32 0)) ∷ []

    counting_nets : (a c : ℕ) → Nets InState 51 52 (counting S k a c)
    counting_nets a c = names_row InState 51 52 (value_front k) (counting S k a c) (λ i. Value k i) (drivers_row (value_front k) 0 (counting_drivers k a c)).wires (value_numbered k) (λ i h. ((tt, refl), (small, (h, tt)))) (λ i. refl)

    more_nets : (f : StateForm) → Nets InState 50 55 ((index_part f ++ value_part f) ++ more_wires S k f)
    more_nets (CellAt a i e next) =
        ordinary (CellAt a i e next) (more_wires S k (CellAt a i e next))
        (into_nets a 64 (index_wires S k).atom)
    more_nets (WriteAt t e next) = ordinary (WriteAt t e next) (more_wires S k (WriteAt t e next)) (one_net 52 55 _ (Packed k) refl (tt, refl) (small, tt) refl)
    more_nets (ClearAt a c next) = names_both declared_names InState 52 55 51 52 50 55 (into_of S k a (net (Variable c)) 32) (counting S k a c) (into_nets a 32 (net (Variable c))) (counting_nets a c) refl
    more_nets f = ordinary f [] (no_net 52 55)

    go_nets : (o : Option Net) (late : Bool) → Nets InState 55 56 (go_of k o late)
    go_nets None late = no_net 55 56
    go_nets (Some w) false = no_net 55 56
    go_nets (Some w) true = one_net 55 56 _ (Go k) refl (tt, refl) (small, tt) refl

    next_nets : (f : StateForm) → Nets InState 56 57 (next_wires S k f)
    next_nets (SetAt r e next) = no_net 56 57
    next_nets (CellAt a i e next) = no_net 56 57
    next_nets EndAt = no_net 56 57
    next_nets TrapAt = no_net 56 57
    next_nets _ = one_net 56 57 _ (Next k) refl (tt, refl) (small, tt) refl

    state_nets : Nets InState 50 57 (state_wires S k)
    state_nets =
        let f = form_at S k in
        let front = (index_part f ++ value_part f) ++ more_wires S k f in
        let go = go_of k (awaited f) (needs_go f) in
        names_both declared_names InState 50 56 56 57 50 57 (front ++ go) (next_wires S k f)
        (names_both declared_names InState 50 55 55 56 50 56 front go (more_nets f) (go_nets (awaited f) (needs_go f)) refl) (next_nets f) refl

  pub states_nets : Nets Any 50 57 (each (state_wires S) (state_count S))
  states_nets = names_each declared_names Any part_of 50 57 (state_wires S) (state_count S) (λ k l. state_nets k (low_of k (state_count S) l B.states))

  -- ---- choices

  reset_nets : (Q : Net → Type 0) (k : ℕ) → Q (Reset k) → AreSmall (numbers (Reset k)) → (es : List Entry) → Nets Q 63 64 (reset_by k es)
  reset_nets Q k so small [] = names_none declared_names Q 63 64 [] refl
  reset_nets Q k so small (e ∷ es) = names_one declared_names Q 63 64 _ (Reset k) refl so small refl

  variable_choice_nets : (k : ℕ) → k < length S.registers → Nets (In_part Any part_of k) 62 66 (variable_choices S k)
  variable_choice_nets k l =
      let small = low_of k (length S.registers) l B.registers in
      let Q = In_part Any part_of k in
      let zero = any S (Clear k) in
      let reset = reset_by k (entries S (Clear k)) in
      names_both declared_names Q 62 65 65 66 62 66 (zero ++ reset ++ any S (Set k)) (pick S (bits_of (register_kind S k)) (NextValue k))
      (names_both declared_names Q 62 64 64 65 62 65 (zero ++ reset) (any S (Set k))
      (names_both declared_names Q 62 63 63 64 62 64 zero reset (any_nets Q 62 63 (Clear k) (λ i h. ((tt, refl), (small, (h, tt)))) (λ i. refl)) (reset_nets Q k (tt, refl) (small, tt) (entries S (Clear k))) refl)
      (any_nets Q 64 65 (Set k) (λ i h. ((tt, refl), (small, (h, tt)))) (λ i. refl)) refl)
      (pick_nets Q 65 66 (bits_of (register_kind S k)) (NextValue k) (λ i h. ((tt, refl), (small, (h, tt)))) (λ i. refl)) refl

  array_choice_nets : (k : ℕ) → k < length S.arrays → Nets (In_part Any part_of k) 66 69 (array_choices S k)
  array_choice_nets k l =
      let small = low_of k (length S.arrays) l B.arrays in
      let Q = In_part Any part_of k in
      names_both declared_names Q 66 68 68 69 66 69 (any S (Stores k) ++ pick S (index_bits S k) (WriteIndex k)) (pick S (bits_of (array_kind S k)) (WriteData k))
      (names_both declared_names Q 66 67 67 68 66 68 (any S (Stores k)) (pick S (index_bits S k) (WriteIndex k)) (any_nets Q 66 67 (Stores k) (λ i h. ((tt, refl), (small, (h, tt)))) (λ i. refl))
      (pick_nets Q 67 68 (index_bits S k) (WriteIndex k) (λ i h. ((tt, refl), (small, (h, tt)))) (λ i. refl)) refl)
      (pick_nets Q 68 69 (bits_of (array_kind S k)) (WriteData k) (λ i h. ((tt, refl), (small, (h, tt)))) (λ i. refl)) refl

  pub choices_nets : Nets Any 60 69 (choices S)
  choices_nets =
      let variables = each (variable_choices S) (length S.registers) in
      let arrays = each (array_choices S) (length S.arrays) in
      let first = pick S (state_bits S) ToState in
      let second = any S ToEnd in
      names_both declared_names Any 60 66 66 69 60 69 (first ++ second ++ variables) arrays
      (names_both declared_names Any 60 62 62 66 60 66 (first ++ second) variables
      (names_both declared_names Any 60 61 61 62 60 62 first second (pick_nets Any 60 61 (state_bits S) ToState (λ i h. (tt, (h, tt))) (λ i. refl)) (any_nets Any 61 62 ToEnd (λ i h. (tt, (h, tt))) (λ i. refl)) refl)
      (names_each declared_names Any part_of 62 66 (variable_choices S) (length S.registers) variable_choice_nets) refl)
      (names_each declared_names Any part_of 66 69 (array_choices S) (length S.arrays) array_choice_nets) refl

  -- ---- outputs

  written_nets : (k : ℕ) → k < 2 ^ 64 → Nets (In_part Any part_of k) 71 77 (written S k)
  written_nets k small =
      let Q = In_part Any part_of k in
      names_both declared_names Q 71 73 73 75 71 77 (any S (Puts k) ++ pick S (bits_of (stream_kind S k) + 1) (Token k)) _
      (names_both declared_names Q 71 72 72 73 71 73 (any S (Puts k)) (pick S (bits_of (stream_kind S k) + 1) (Token k)) (any_nets Q 71 72 (Puts k) (λ i h. ((tt, refl), (small, (h, tt)))) (λ i. refl))
      (pick_nets Q 72 73 (bits_of (stream_kind S k) + 1) (Token k) (λ i h. ((tt, refl), (small, (h, tt)))) (λ i. refl)) refl)
      (names_more declared_names Q 73 74 74 75 73 75 _ _ (names_one declared_names Q 73 74 (Output 1 (name (Wr k)) (result S 1 (Puts k))) (Wr k) refl (tt, refl) (small, tt) refl)
      (names_one declared_names Q 74 75 (Output (bits_of (stream_kind S k) + 1) (name (Din k)) (result S (bits_of (stream_kind S k) + 1) (Token k))) (Din k) refl (tt, refl) (small, tt) refl) refl) refl

  taken_nets : (k : ℕ) → k < 2 ^ 64 → Nets (In_part Any part_of k) 71 77 (taken S k)
  taken_nets k small =
      let Q = In_part Any part_of k in
      names_both declared_names Q 75 76 76 77 71 77 (any S (Takes k)) _ (any_nets Q 75 76 (Takes k) (λ i h. ((tt, refl), (small, (h, tt)))) (λ i. refl))
      (names_one declared_names Q 76 77 (Output 1 (name (Taken k)) (result S 1 (Takes k))) (Taken k) refl (tt, refl) (small, tt) refl) refl

  stream_output_nets : (k : ℕ) → k < length S.streams → Nets (In_part Any part_of k) 71 77 (stream_outputs S k)
  stream_output_nets k l = let small = low_of k (length S.streams) l B.streams in by_end_nets (In_part Any part_of k) 71 77 (written S k) (taken S k) (writes S k) (written_nets k small) (taken_nets k small)

  memory_output_nets : (k : ℕ) → k < length S.memories → Nets (In_part Any part_of k) 77 83 (memory_outputs S k)
  memory_output_nets k l =
      let small = low_of k (length S.memories) l B.memories in
      let Q = In_part Any part_of k in
      let asks = pick S 64 (Address k) in
      let saves = any S (StoreEnable k) in
      let data_of = pick S (bits_of (memory_kind S k)) (Data k) in
      names_both declared_names Q 77 80 80 83 77 83 (asks ++ saves ++ data_of) _
      (names_both declared_names Q 77 79 79 80 77 80 (asks ++ saves) data_of
      (names_both declared_names Q 77 78 78 79 77 79 asks saves (pick_nets Q 77 78 64 (Address k) (λ i h. ((tt, refl), (small, (h, tt)))) (λ i. refl)) (any_nets Q 78 79 (StoreEnable k) (λ i h. ((tt, refl), (small, (h, tt)))) (λ i. refl)) refl)
      (pick_nets Q 79 80 (bits_of (memory_kind S k)) (Data k) (λ i h. ((tt, refl), (small, (h, tt)))) (λ i. refl)) refl)
      (names_more declared_names Q 80 81 81 83 80 83 _ _ (names_one declared_names Q 80 81 (Output 64 (name (Addr k)) (result S 64 (Address k))) (Addr k) refl (tt, refl) (small, tt) refl)
      (names_more declared_names Q 81 82 82 83 81 83 _ _
      (names_one declared_names Q 81 82 (Output (bits_of (memory_kind S k)) (name (Wdata k)) (result S (bits_of (memory_kind S k)) (Data k))) (Wdata k) refl (tt, refl) (small, tt) refl)
      (names_one declared_names Q 82 83 (Output 1 (name (We k)) (result S 1 (StoreEnable k))) (We k) refl (tt, refl) (small, tt) refl) refl) refl) refl

  pub outputs_nets : Nets Any 70 83 (outputs S)
  outputs_nets =
      let streams = each (stream_outputs S) (length S.streams) in
      let memories = each (memory_outputs S) (length S.memories) in
      names_more declared_names Any 70 71 71 83 70 83 (Output 1 (name Done) (PlainValue (net Ended))) _
      (names_one declared_names Any 70 71 (Output 1 (name Done) (PlainValue (net Ended))) Done refl tt tt refl)
      (names_both declared_names Any 71 77 77 83 71 83 streams memories (names_each declared_names Any part_of 71 77 (stream_outputs S) (length S.streams) stream_output_nets)
      (names_each declared_names Any part_of 77 83 (memory_outputs S) (length S.memories) memory_output_nets) refl) refl
