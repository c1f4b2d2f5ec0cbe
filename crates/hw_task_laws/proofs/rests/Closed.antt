-- No free net of a task's module reads another.
use Rattle.std.proofs.Common.{◌≡◌, ℕ, ◌+◌, ◌-◌, Bool, true, false, ◌&&◌, List, [], ◌∷◌, ◌++◌, length, Option, Some, None, inl, inr, refl, sym, ap, subst, ◌∙◌}
use Rattle.std.specs.Prelude.{slice_get, slice_index, not}
use Rattle.std.specs.List.{list_all}
use Rattle.tapa_base.specs.declared.kind.Kind.TheVariants as kind
use Rattle.tapa_base.specs.Kinds.{bits_of}
use Rattle.vlog_tree.specs.declared.tree.Atom.{Atom}
use Rattle.vlog_tree.specs.declared.tree.Atom.TheVariants.{Net as NetAtom, Literal}
use Rattle.vlog_tree.specs.declared.tree.BinaryOp.TheVariants.{Plus, And, Equals, Less, Or}
use Rattle.vlog_tree.specs.declared.tree.Value.TheVariants.{Plain, Invert, Binary, Choose, Concat, Cell}
use Rattle.tapa_base.specs.Lists.{Has}
use Rattle.vlog_tree.specs.Labels.{rst}
use Rattle.vlog_tree.specs.Table.{Name, clk}
use Rattle.hw_build.specs.Elements.{Element, Input, Output, Wire}
use Rattle.hw_build.specs.Order.{is_closed, is_closed_at}
use Rattle.hw_build.specs.Trees.{numbered}
use Rattle.hw_build.specs.Scope.{each}
use Rattle.hw_build.specs.Choices.{Entry, choice}
use Rattle.hw_build.proofs.Parts.{of_each}
use Rattle.task_fsm.specs.Machine.{StateForm, CellAt, TestAt, ReadAt, WriteAt, PeekAt, EotAt, OpenAt, CloseAt, LoadAt, StoreAt, ClearAt}
use Rattle.hw_lines.specs.declared.nets.Choice.{Choice}
use Rattle.hw_lines.specs.declared.nets.Choice.TheVariants.{ToState, ToEnd, Set, NextValue, Stores, WriteIndex, WriteData, Reads, ArrayIndex, Puts, Token, Takes, Address, StoreEnable, Data, Clear}
use Rattle.hw_lines.specs.declared.nets.Net.{Net}
use Rattle.hw_lines.specs.declared.nets.Net.TheVariants.{State, Ended, Done, Scalar, Variable, Array, Has as HasNet, Dout, Taken, Din, Wr, Rdy, Ack, Rdata, Addr, Wdata, We, Plain as PlainNet, Datum, Eot, At, Go, Inside, Into, Packed, Next, Value as ValueNet, Index, ReadIndex, ReadInside, ReadOn, Raw, Answer, Node, Reset}
use Rattle.hw_lines.specs.Nets.{name, choice_word, front, value_front, index_front, read_front}
use Rattle.hw_lines.specs.Shape.{Shape, array_kind, array_cells, stream_kind, register_kind, memory_kind, index_bits, state_count, state_bits, form_at}
use Rattle.hw_lines.specs.Drivers.{Driver, low_bits}
use Rattle.hw_lines.specs.Wires.{ArrayRead, read_count}
use Rattle.hw_lines.specs.States.{net, number_of, index_of, value_of, value_kind, index_wires, value_wires, reads_at, awaited, needs_go, go_of, next_of, next_wires, into_of, counting, more_wires, state_wires, decoded}
use Rattle.hw_lines.specs.Effects.{entry, end_token, eot_of, spot_of, tokens, askings, savings, effect, entries}
use Rattle.hw_lines.specs.Texts.{scalar_port, writes, stream_inputs, memory_inputs, inputs, variable, array, held, offers, offered, read_index, asked_of, asked, answered, unless_none, reads_of, read_numbers, any, pick, result_of, result, root, variable_choices, array_choices, choices, written, taken, stream_outputs, memory_outputs, outputs, variable_block, array_block, blocks, task_elements, reset_by}
use Rattle.hw_lines.proofs.Spelled.{nodes_numbered}
use Rattle.hw_task_laws.proofs.names.Rows.{any_row, pick_row}
use Rattle.hw_task_laws.proofs.names.Bounds.{asked_end}
use Rattle.hw_task_laws.proofs.form.Asked.{of_at}
use Rattle.hw_task_laws.proofs.form.States.{value_net}
use Rattle.hw_task_laws.proofs.rests.Free.{is_free, is_free_word, free_by, clk_bound, rst_bound, FreeAtom, FreeValue, free_net, free_binary, free_choose, free_concat, Closed, wire_closed, bound_closed, output_closed, output_bound, input_closed, row_bound, one_closed, both_closed, each_closed, by_end_closed, unless_closed}
use Rattle.hw_task_laws.proofs.rests.Wires.{low_free, drivers_closed, IsFree, compiled_free, any_closed, pick_closed, root_free}
use Rattle.std.proofs.lemmas.Bool.{and_from as yes_and}

-- ---- fronts

index_net : (k i : ℕ) → name (Index k i) ≡ numbered (index_front k) i
unfolding name index_front
index_net k i = refl

index_own : (k i : ℕ) → is_free (numbered (index_front k) i) ≡ true
index_own k i = ap is_free (sym (index_net k i)) ∙ free_by (Index k i)

value_own : (k i : ℕ) → is_free (numbered (value_front k) i) ≡ true
value_own k i = ap is_free (sym (value_net k i)) ∙ free_by (ValueNet k i)

read_net : (k p i : ℕ) → name (ReadIndex k p i) ≡ numbered (read_front k p) i
unfolding name read_front
read_net k p i = refl

read_own : (k p i : ℕ) → is_free (numbered (read_front k p) i) ≡ true
read_own k p i = ap is_free (sym (read_net k p i)) ∙ free_by (ReadIndex k p i)

choice_free : (c : Choice) (b : Bool) → is_free_word (choice_word c) ≡ b → (i : ℕ) → is_free (numbered (front c) i) ≡ b
choice_free c b e i = ap is_free (sym (nodes_numbered c i)) ∙ free_by (Node c i) ∙ e

-- a net that is free, and one that is not
net_free : (y : Net) → is_free (name y) ≡ true → FreeAtom (net y)
net_free y h = free_net (name y) h

-- an entry for one thing of its sort
free_entry : (x : Net) (a : Atom) (d : Entry) → is_free (name x) ≡ true → FreeAtom a → Has (entry x a) d → (is_free d.condition ≡ true) × FreeAtom d.value
free_entry x a d h k (inl e) = subst (λ (z : Entry). (is_free z.condition ≡ true) × FreeAtom z.value) e (h, k)
free_entry x a d h k (inr n) = absurd n

module _ (S : Shape) where
  bound_any : (c : Choice) → is_free_word (choice_word c) ≡ false → Closed (any S c)
  bound_any c e = row_bound (front c) 0 (any S c) (any_row (front c) (entries S c)) (choice_free c false e)

  bound_pick : (w : ℕ) (c : Choice) → is_free_word (choice_word c) ≡ false → Closed (pick S w c)
  bound_pick w c e = row_bound (front c) 0 (pick S w c) (pick_row w (front c) (entries S c)) (choice_free c false e)

  abbrev AreFree : Choice → Type 0
  AreFree c = (d : Entry) → Has (entries S c) d → (is_free d.condition ≡ true) × FreeAtom d.value

  free_any : (c : Choice) → is_free_word (choice_word c) ≡ true → AreFree c → Closed (any S c)
  free_any c e h = any_closed (front c) (choice_free c true e) (entries S c) h

  free_pick : (w : ℕ) (c : Choice) → is_free_word (choice_word c) ≡ true → AreFree c → Closed (pick S w c)
  free_pick w c e h = pick_closed (front c) (choice_free c true e) w (entries S c) h

  root_is_free : (c : Choice) → is_free_word (choice_word c) ≡ true → is_free (root S c) ≡ true
  root_is_free c e = root_free (front c) (choice_free c true e) (entries S c)

  -- ---- ports, registers and memories

  inputs_closed : Closed (inputs S)
  inputs_closed =
      let scalars = each (scalar_port S) (length S.scalars) in
      let streams = each (stream_inputs S) (length S.streams) in
      let memories = each (memory_inputs S) (length S.memories) in
      both_closed (scalars ++ streams) memories
      (both_closed scalars streams (each_closed (scalar_port S) (length S.scalars) (λ i. one_closed (scalar i) [] (input_closed (bits_of (register_kind S (slice_index S.scalars i))) (name (Scalar i)) (free_by (Scalar i))) refl))
      (each_closed (stream_inputs S) (length S.streams)
      (λ s.
      by_end_closed (Input 1 (name (Rdy s)) ∷ []) (Input 1 (name (HasNet s)) ∷ Input (bits_of (stream_kind S s) + 1) (name (Dout s)) ∷ []) (writes S s)
      (one_closed (Input 1 (name (Rdy s))) [] (input_closed 1 (name (Rdy s)) (free_by (Rdy s))) refl)
      (one_closed (Input 1 (name (HasNet s))) (Input (bits_of (stream_kind S s) + 1) (name (Dout s)) ∷ []) (input_closed 1 (name (HasNet s)) (free_by (HasNet s)))
      (one_closed (Input (bits_of (stream_kind S s) + 1) (name (Dout s))) [] (input_closed (bits_of (stream_kind S s) + 1) (name (Dout s)) (free_by (Dout s))) refl)))))
      (each_closed (memory_inputs S) (length S.memories)
      (λ m.
      one_closed (Input 1 (name (Ack m))) (Input (bits_of (memory_kind S m)) (name (Rdata m)) ∷ []) (input_closed 1 (name (Ack m)) (free_by (Ack m)))
      (one_closed (Input (bits_of (memory_kind S m)) (name (Rdata m))) [] (input_closed (bits_of (memory_kind S m)) (name (Rdata m)) (free_by (Rdata m))) refl))) where
        scalar : ℕ → Element
        scalar i = Input (bits_of (register_kind S (slice_index S.scalars i))) (name (Scalar i))

  held_closed : Closed (held S)
  held_closed =
      both_closed (each (variable S) (length S.registers)) (each (array S) (length S.arrays)) (each_closed (variable S) (length S.registers) (λ r. refl)) (each_closed (array S) (length S.arrays) (λ a. refl))

  -- ---- decodes and offers

  decodes_closed : Closed (each (decoded S) (state_count S))
  decodes_closed =
      each_closed (decoded S) (state_count S)
      (λ k.
      let v = Binary (net State) Equals (number_of S k) in
      one_closed (Wire 1 (name (At k)) v) [] (wire_closed 1 (name (At k)) v (free_binary (net State) Equals (number_of S k) (net_free State (free_by State)) refl)) refl)

  offers_closed : Closed (each (offered S) (length S.streams))
  offers_closed =
      each_closed (offered S) (length S.streams)
      (λ s.
      let plain = Invert (eot_of S s) in
      let datum = Binary (net (HasNet s)) And (net (PlainNet s)) in
      let eot = Binary (net (HasNet s)) And (eot_of S s) in
      by_end_closed [] (offers S s) (writes S s) refl
      (one_closed (Wire 1 (name (PlainNet s)) plain) (Wire 1 (name (Datum s)) datum ∷ Wire 1 (name (Eot s)) eot ∷ []) (bound_closed 1 (name (PlainNet s)) plain (free_by (PlainNet s)))
      (one_closed (Wire 1 (name (Datum s)) datum) (Wire 1 (name (Eot s)) eot ∷ []) (bound_closed 1 (name (Datum s)) datum (free_by (Datum s))) (one_closed (Wire 1 (name (Eot s)) eot) [] (bound_closed 1 (name (Eot s)) eot (free_by (Eot s))) refl))))

  -- ---- reads

  read_free : (p k : ℕ) (r : ArrayRead) → IsFree (read_front k p) (read_own k p) (read_index p k r)
  read_free p k r = compiled_free (read_front k p) (read_own k p) r.first 0 kind.U64 r.index

  asked_closed : (p k : ℕ) (o : Option ArrayRead) → Closed (asked_of S p k o)
  asked_closed p k None = refl
  asked_closed p k (Some r) =
      let C = read_index p k r in
      let f = read_free p k r in
      let inside = Binary C.atom Less (Literal 64 (array_cells S r.array)) in
      let on = Binary (net (At k)) And (net (ReadInside k p)) in
      both_closed C.elements (asked_end S p k r) f.closed
      (one_closed (Wire 1 (name (ReadInside k p)) inside) (Wire 1 (name (ReadOn k p)) on ∷ []) (wire_closed 1 (name (ReadInside k p)) inside (free_binary C.atom Less (Literal 64 (array_cells S r.array)) f.atom refl))
      (one_closed (Wire 1 (name (ReadOn k p)) on) [] (wire_closed 1 (name (ReadOn k p)) on (free_binary (net (At k)) And (net (ReadInside k p)) (net_free (At k) (free_by (At k))) (net_free (ReadInside k p) (free_by (ReadInside k p))))) refl))

  spots_free : (y : Net) → is_free (name y) ≡ true → (p a k : ℕ) (d : Entry) (o : Option ArrayRead) → Has (spot_of S y p a k o) d → (is_free d.condition ≡ true) × FreeAtom d.value
  spots_free y b p a k d None h = absurd h
  spots_free y b p a k d (Some r) h =
      let x = low_bits (index_bits S a) (read_index p k r).atom in
      free_entry y x d b (low_free (index_bits S a) (read_index p k r).atom (read_free p k r).atom) (of_at r.array a (entry y x) d h).1

  reads_free : (p a : ℕ) → AreFree (Reads p a)
  reads_free p a d h = let r = of_each (effect S (Reads p a)) (state_count S) d h in spots_free (ReadOn r.0 p) (free_by (ReadOn r.0 p)) p a r.0 d (slice_get (reads_at S r.0) p) r.2

  places_free : (p a : ℕ) → AreFree (ArrayIndex p a)
  places_free p a d h = let r = of_each (effect S (ArrayIndex p a)) (state_count S) d h in spots_free (At r.0) (free_by (At r.0)) p a r.0 d (slice_get (reads_at S r.0) p) r.2

  answered_closed : (p a : ℕ) → Closed (answered S p a)
  answered_closed p a =
      let w = bits_of (array_kind S a) in
      let i = index_bits S a in
      let raw = Cell (name (Array a)) (root S (ArrayIndex p a)) in
      let last = Choose (NetAtom (root S (Reads p a))) (net (Raw p a)) (Literal w 0) in
      both_closed (any S (Reads p a) ++ pick S i (ArrayIndex p a)) (Wire w (name (Raw p a)) raw ∷ Wire w (name (Answer p a)) last ∷ [])
      (both_closed (any S (Reads p a)) (pick S i (ArrayIndex p a)) (free_any (Reads p a) refl (reads_free p a)) (free_pick i (ArrayIndex p a) refl (places_free p a)))
      (one_closed (Wire w (name (Raw p a)) raw) (Wire w (name (Answer p a)) last ∷ []) (wire_closed w (name (Raw p a)) raw (free_net (root S (ArrayIndex p a)) (root_is_free (ArrayIndex p a) refl)))
      (one_closed (Wire w (name (Answer p a)) last) [] (wire_closed w (name (Answer p a)) last (free_choose (NetAtom (root S (Reads p a))) (net (Raw p a)) (Literal w 0) (free_net (root S (Reads p a)) (root_is_free (Reads p a) refl)) (net_free (Raw p a) (free_by (Raw p a))) refl)) refl))

  reads_closed : Closed (each (reads_of S) (read_numbers S))
  reads_closed =
      each_closed (reads_of S) (read_numbers S)
      (λ p.
      both_closed (each (asked S p) (state_count S)) (each (λ a. unless_none (entries S (Reads p a)) (answered S p a)) (length S.arrays)) (each_closed (asked S p) (state_count S) (λ k. asked_closed p k (slice_get (reads_at S k) p)))
      (each_closed (λ a. unless_none (entries S (Reads p a)) (answered S p a)) (length S.arrays) (λ a. unless_closed (entries S (Reads p a)) (answered S p a) (answered_closed p a))))

  -- ---- states

  index_free : (k : ℕ) → IsFree (index_front k) (index_own k) (index_wires S k)
  index_free k = compiled_free (index_front k) (index_own k) 0 0 kind.U64 (index_of (form_at S k))

  value_free : (k : ℕ) → IsFree (value_front k) (value_own k) (value_wires S k)
  value_free k = compiled_free (value_front k) (value_own k) (read_count (index_of (form_at S k))) 0 (value_kind S (form_at S k)) (value_of (form_at S k))

  into_closed : (k a : ℕ) (x : Atom) (bits : ℕ) → Closed (into_of S k a x bits)
  into_closed k a x bits =
      let inside = Binary x Less (Literal bits (array_cells S a)) in
      let into = Binary (net (At k)) And (net (Inside k)) in
      one_closed (Wire 1 (name (Inside k)) inside) (Wire 1 (name (Into k)) into ∷ []) (bound_closed 1 (name (Inside k)) inside (free_by (Inside k))) (one_closed (Wire 1 (name (Into k)) into) [] (bound_closed 1 (name (Into k)) into (free_by (Into k))) refl)

  counting_closed : (k a c : ℕ) → Closed (counting S k a c)
  counting_closed k a c =
      let x = net (Variable c) in
      let x_free = net_free (Variable c) (free_by (Variable c)) in
      let last = Literal 32 (array_cells S a - 1) in
      let drivers : List Driver = (1, Binary x Less last) ∷ (32, Binary x Plus (Literal 32 1)) ∷ (32, Choose (net (ValueNet k 0)) (net (ValueNet k 1)) (Literal 32 0)) ∷ [] in
      drivers_closed (value_front k) (value_own k) 0 drivers
      (free_binary x Less last x_free refl, (free_binary x Plus (Literal 32 1) x_free refl, (free_choose (net (ValueNet k 0)) (net (ValueNet k 1)) (Literal 32 0) (net_free (ValueNet k 0) (free_by (ValueNet k 0))) (net_free (ValueNet k 1) (free_by (ValueNet k 1))) refl, tt)))

  more_closed : (k : ℕ) (f : StateForm) → Closed (more_wires S k f)
  more_closed k (CellAt a i e next) = into_closed k a (index_wires S k).atom 64
  more_closed k (ClearAt a c next) = both_closed (into_of S k a (net (Variable c)) 32) (counting S k a c) (into_closed k a (net (Variable c)) 32) (counting_closed k a c)
  more_closed k (WriteAt s e next) =
      let v = Concat (Literal 1 0 ∷ (value_wires S k).atom ∷ []) in
      one_closed (Wire (bits_of (stream_kind S s) + 1) (name (Packed k)) v) [] (wire_closed (bits_of (stream_kind S s) + 1) (name (Packed k)) v (free_concat (Literal 1 0) (value_wires S k).atom refl (value_free k).atom)) refl
  more_closed k _ = refl

  go_closed : (k : ℕ) (o : Option Net) (late : Bool) → Closed (go_of k o late)
  go_closed k None late = refl
  go_closed k (Some w) false = refl
  go_closed k (Some w) true = one_closed (Wire 1 (name (Go k)) (Binary (net (At k)) And (net w))) [] (bound_closed 1 (name (Go k)) (Binary (net (At k)) And (net w)) (free_by (Go k))) refl

  leads_closed : (k : ℕ) (test : Atom) (y n : ℕ) → Closed (next_of S k test y n)
  leads_closed k test y n =
      let v = Choose test (number_of S y) (number_of S n) in one_closed (Wire (state_bits S) (name (Next k)) v) [] (bound_closed (state_bits S) (name (Next k)) v (free_by (Next k))) refl

  next_closed : (k : ℕ) (f : StateForm) → Closed (next_wires S k f)
  next_closed k (TestAt e y n) = leads_closed k (value_wires S k).atom y n
  next_closed k (ClearAt a c next) = leads_closed k (net (ValueNet k 0)) k next
  next_closed k (ReadAt s into next) = leads_closed k (net (Datum s)) next k
  next_closed k (PeekAt s into next) = leads_closed k (net (Datum s)) next k
  next_closed k (EotAt s into next) = leads_closed k (net (HasNet s)) next k
  next_closed k (OpenAt s next) = leads_closed k (net (Eot s)) next k
  next_closed k (WriteAt s e next) = leads_closed k (net (Rdy s)) next k
  next_closed k (CloseAt s next) = leads_closed k (net (Rdy s)) next k
  next_closed k (LoadAt m i into next) = leads_closed k (net (Ack m)) next k
  next_closed k (StoreAt m i e next) = leads_closed k (net (Ack m)) next k
  next_closed k _ = refl

  states_closed : Closed (each (state_wires S) (state_count S))
  states_closed =
      each_closed (state_wires S) (state_count S)
      (λ k.
      let f = form_at S k in
      let index = (index_wires S k).elements in
      let value = (value_wires S k).elements in
      let more = more_wires S k f in
      let go = go_of k (awaited f) (needs_go f) in
      both_closed (index ++ value ++ more ++ go) (next_wires S k f)
      (both_closed (index ++ value ++ more) go (both_closed (index ++ value) more (both_closed index value (index_free k).closed (value_free k).closed) (more_closed k f)) (go_closed k (awaited f) (needs_go f))) (next_closed k f))

  -- ---- choices

  reset_closed : (r : ℕ) (es : List Entry) → Closed (reset_by r es)
  reset_closed r [] = refl
  reset_closed r (e ∷ es) =
      let v = Binary (NetAtom rst) Or (NetAtom (choice (front (Clear r)) (e ∷ es))) in one_closed (Wire 1 (name (Reset r)) v) [] (bound_closed 1 (name (Reset r)) v (free_by (Reset r))) refl

  choices_closed : Closed (choices S)
  choices_closed =
      let first = pick S (state_bits S) ToState in
      let second = any S ToEnd in
      let variables = each (variable_choices S) (length S.registers) in
      let arrays = each (array_choices S) (length S.arrays) in
      both_closed (first ++ second ++ variables) arrays
      (both_closed (first ++ second) variables (both_closed first second (bound_pick (state_bits S) ToState refl) (bound_any ToEnd refl))
      (each_closed (variable_choices S) (length S.registers)
      (λ r.
      let zero = any S (Clear r) in
      let reset = reset_by r (entries S (Clear r)) in
      both_closed (zero ++ reset ++ any S (Set r)) (pick S (bits_of (register_kind S r)) (NextValue r))
      (both_closed (zero ++ reset) (any S (Set r)) (both_closed zero reset (bound_any (Clear r) refl) (reset_closed r (entries S (Clear r)))) (bound_any (Set r) refl)) (bound_pick (bits_of (register_kind S r)) (NextValue r) refl))))
      (each_closed (array_choices S) (length S.arrays)
      (λ a.
      both_closed (any S (Stores a) ++ pick S (index_bits S a) (WriteIndex a)) (pick S (bits_of (array_kind S a)) (WriteData a))
      (both_closed (any S (Stores a)) (pick S (index_bits S a) (WriteIndex a)) (bound_any (Stores a) refl) (bound_pick (index_bits S a) (WriteIndex a) refl)) (bound_pick (bits_of (array_kind S a)) (WriteData a) refl)))

  -- ---- outputs

  tokens_free : (s k : ℕ) (d : Entry) (f : StateForm) → Has (tokens S s k f) d → (is_free d.condition ≡ true) × FreeAtom d.value
  tokens_free s k d (WriteAt x e next) h = free_entry (At k) (net (Packed k)) d (free_by (At k)) (net_free (Packed k) (free_by (Packed k))) (of_at x s (entry (At k) (net (Packed k))) d h).1
  tokens_free s k d (CloseAt x next) h = free_entry (At k) (end_token S s) d (free_by (At k)) refl (of_at x s (entry (At k) (end_token S s)) d h).1
  tokens_free s k d _ h = absurd h

  askings_free : (m k : ℕ) (d : Entry) (f : StateForm) → Has (askings S m k f) d → (is_free d.condition ≡ true) × FreeAtom d.value
  askings_free m k d (LoadAt x i into next) h = free_entry (At k) (index_wires S k).atom d (free_by (At k)) (index_free k).atom (of_at x m (entry (At k) (index_wires S k).atom) d h).1
  askings_free m k d (StoreAt x i e next) h = free_entry (At k) (index_wires S k).atom d (free_by (At k)) (index_free k).atom (of_at x m (entry (At k) (index_wires S k).atom) d h).1
  askings_free m k d _ h = absurd h

  savings_free : (m k : ℕ) (d : Entry) (f : StateForm) → Has (savings S m k f) d → (is_free d.condition ≡ true) × FreeAtom d.value
  savings_free m k d (StoreAt x i e next) h = free_entry (At k) (value_wires S k).atom d (free_by (At k)) (value_free k).atom (of_at x m (entry (At k) (value_wires S k).atom) d h).1
  savings_free m k d _ h = absurd h

  token_free : (s : ℕ) → AreFree (Token s)
  token_free s d h = let r = of_each (effect S (Token s)) (state_count S) d h in tokens_free s r.0 d (form_at S r.0) r.2

  ask_free : (m : ℕ) → AreFree (Address m)
  ask_free m d h = let r = of_each (effect S (Address m)) (state_count S) d h in askings_free m r.0 d (form_at S r.0) r.2

  save_free : (m : ℕ) → AreFree (Data m)
  save_free m d h = let r = of_each (effect S (Data m)) (state_count S) d h in savings_free m r.0 d (form_at S r.0) r.2

  result_by : (w : ℕ) (f : Name) (es : List Entry) → is_free (choice f es) ≡ true → FreeValue (result_of w f es)
  result_by w f [] h = refl
  result_by w f (e ∷ es) h = free_net (choice f (e ∷ es)) h

  result_free : (w : ℕ) (c : Choice) → is_free_word (choice_word c) ≡ true → FreeValue (result S w c)
  result_free w c e = result_by w (front c) (entries S c) (root_is_free c e)

  written_closed : (s : ℕ) → Closed (written S s)
  written_closed s =
      let w = bits_of (stream_kind S s) + 1 in
      let wr = Output 1 (name (Wr s)) (result S 1 (Puts s)) in
      let din = Output w (name (Din s)) (result S w (Token s)) in
      both_closed (any S (Puts s) ++ pick S w (Token s)) (wr ∷ din ∷ []) (both_closed (any S (Puts s)) (pick S w (Token s)) (free_any (Puts s) refl (token_free s)) (free_pick w (Token s) refl (token_free s)))
      (one_closed wr (din ∷ []) (output_closed 1 (name (Wr s)) (result S 1 (Puts s)) (result_free 1 (Puts s) refl)) (one_closed din [] (output_closed w (name (Din s)) (result S w (Token s)) (result_free w (Token s) refl)) refl))

  taken_closed : (s : ℕ) → Closed (taken S s)
  taken_closed s =
      both_closed (any S (Takes s)) (Output 1 (name (Taken s)) (result S 1 (Takes s)) ∷ []) (bound_any (Takes s) refl)
      (one_closed (Output 1 (name (Taken s)) (result S 1 (Takes s))) [] (output_bound 1 (name (Taken s)) (result S 1 (Takes s)) (free_by (Taken s))) refl)

  memory_closed : (m : ℕ) → Closed (memory_outputs S m)
  memory_closed m =
      let w = bits_of (memory_kind S m) in
      let asks = pick S 64 (Address m) in
      let saves = any S (StoreEnable m) in
      let cell_of = pick S w (Data m) in
      let addr = Output 64 (name (Addr m)) (result S 64 (Address m)) in
      let wdata = Output w (name (Wdata m)) (result S w (Data m)) in
      let we = Output 1 (name (We m)) (result S 1 (StoreEnable m)) in
      both_closed (asks ++ saves ++ cell_of) (addr ∷ wdata ∷ we ∷ [])
      (both_closed (asks ++ saves) cell_of (both_closed asks saves (free_pick 64 (Address m) refl (ask_free m)) (free_any (StoreEnable m) refl (save_free m))) (free_pick w (Data m) refl (save_free m)))
      (one_closed addr (wdata ∷ we ∷ []) (output_closed 64 (name (Addr m)) (result S 64 (Address m)) (result_free 64 (Address m) refl))
      (one_closed wdata (we ∷ []) (output_closed w (name (Wdata m)) (result S w (Data m)) (result_free w (Data m) refl)) (one_closed we [] (output_closed 1 (name (We m)) (result S 1 (StoreEnable m)) (result_free 1 (StoreEnable m) refl)) refl)))

  outputs_closed : Closed (outputs S)
  outputs_closed =
      let done = Output 1 (name Done) (Plain (net Ended)) in
      let streams = each (stream_outputs S) (length S.streams) in
      let memories = each (memory_outputs S) (length S.memories) in
      one_closed done (streams ++ memories) (output_closed 1 (name Done) (Plain (net Ended)) (net_free Ended (free_by Ended)))
      (both_closed streams memories (each_closed (stream_outputs S) (length S.streams) (λ s. by_end_closed (written S s) (taken S s) (writes S s) (written_closed s) (taken_closed s)))
      (each_closed (memory_outputs S) (length S.memories) memory_closed))

  blocks_closed : Closed (blocks S)
  blocks_closed =
      both_closed (each (variable_block S) (length S.registers)) (each (array_block S) (length S.arrays)) (each_closed (variable_block S) (length S.registers) (λ r. refl))
      (each_closed (array_block S) (length S.arrays) (λ a. unless_closed (entries S (Stores a)) _ refl))

  -- ---- all

  pub elements_closed : is_closed is_free (task_elements S) ≡ true
  elements_closed =
      let decodes = each (decoded S) (state_count S) in
      let offers_all = each (offered S) (length S.streams) in
      let reads = each (reads_of S) (read_numbers S) in
      let states = each (state_wires S) (state_count S) in
      let e2 = inputs S ++ held S in
      let e4 = e2 ++ decodes ++ offers_all in
      let e6 = e4 ++ reads ++ states in
      let e8 = e6 ++ choices S ++ outputs S in
      yes_and (not (is_free clk) && not (is_free rst)) (list_all (is_closed_at is_free) (task_elements S)) (yes_and (not (is_free clk)) (not (is_free rst)) (ap not clk_bound) (ap not rst_bound))
      (both_closed e8 (blocks S)
      (both_closed (e6 ++ choices S) (outputs S)
      (both_closed e6 (choices S)
      (both_closed (e4 ++ reads) states
      (both_closed e4 reads (both_closed (e2 ++ decodes) offers_all (both_closed e2 decodes (both_closed (inputs S) (held S) inputs_closed held_closed) decodes_closed) offers_closed) reads_closed) states_closed) choices_closed) outputs_closed)
      blocks_closed)
