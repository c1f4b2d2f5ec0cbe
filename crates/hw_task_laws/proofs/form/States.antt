-- The ports, the decodes and the wires of states fit.
use Rattle.std.proofs.Common.{◌≡◌, ℕ, ◌+◌, ◌-◌, ◌^◌, ◌<◌, Bool, true, false, List, [], ◌∷◌, ◌++◌, length, Option, Some, None, inl, inr, refl, sym, ap, subst, arith, le-leb, ⊎_elim}
use Rattle.std.specs.Prelude.{slice_get, slice_index, option_map, nat_le, IsTrue}
use Rattle.tapa_base.specs.declared.kind.Kind.TheVariants as kind
use Rattle.tapa_base.specs.Kinds.{bits_of}
use Rattle.tapa_syntax.specs.declared.program.End.{End}
use Rattle.tapa_syntax.specs.LeafKinds.{writes_of}
use Rattle.vlog_tree.specs.declared.tree.Atom.{Atom}
use Rattle.vlog_tree.specs.declared.tree.Atom.TheVariants.{Net as NetAtom, Literal}
use Rattle.vlog_tree.specs.declared.tree.BinaryOp.TheVariants.{Plus, And, Less}
use Rattle.vlog_tree.specs.declared.tree.Value.TheVariants.{Invert, Binary}
use Rattle.tapa_base.specs.Lists.{Has}
use Rattle.vlog_tree.specs.V3.{is_width, is_cell_count}
use Rattle.tapa_base.proofs.Lists.{has_left, has_right}
use Rattle.hw_build.specs.Elements.{Element, Input, Wire, Register}
use Rattle.hw_build.specs.Trees.{numbered}
use Rattle.hw_build.specs.Scope.{each, IsNet, AtomIs, FitInOrder}
use Rattle.hw_build.specs.Fits.{IsAmong}
use Rattle.hw_build.proofs.Parts.{has_each, parts_fit, each_part_fits}
use Rattle.task_fsm.specs.Machine.{StateForm, CellAt, TestAt, ReadAt, WriteAt, PeekAt, EotAt, OpenAt, CloseAt, LoadAt, StoreAt, ClearAt}
use Rattle.task_fsm.specs.MachineKinds.{IsOfKind, IsTypedState}
use Rattle.task_fsm.specs.Ranges.{IsInRange}
use Rattle.hw_lines.specs.declared.nets.Net.{Net}
use Rattle.hw_lines.specs.declared.nets.Net.TheVariants.{State as StateNet, Ended, Variable, Has as HasNet, Dout, Rdy, Ack, Rdata, Plain as PlainNet, Datum, Eot, At, Inside, Value as ValueNet}
use Rattle.hw_lines.specs.Nets.{name, value_front, index_front}
use Rattle.hw_lines.specs.Shape.{Shape, kinds_in, array_kind, array_cells, stream_kind, register_kind, memory_kind, state_count, state_bits, form_at}
use Rattle.hw_lines.specs.Wires.{read_count, compiled}
use Rattle.hw_lines.specs.States.{net, index_of, value_of, value_kind, index_wires, value_wires, awaited, needs_go, go_of, next_of, next_wires, into_of, counting, more_wires, state_wires, decoded}
use Rattle.hw_lines.specs.Effects.{datum_of, eot_of}
use Rattle.hw_lines.specs.Texts.{by_end, scalar_port, writes, stream_inputs, memory_inputs, inputs, variable, array, held, offers, offered, reads_of, read_numbers}
use Rattle.hw_task_laws.proofs.wires.Shown.{some_bits}
use Rattle.hw_task_laws.proofs.fit.Scopes.{left_among, both_among, wire_net, input_net, atom_in, fit_behind, kind_wide, token_wide}
use Rattle.hw_task_laws.proofs.fit.Operators.{with_wire, wire_there}
use Rattle.hw_task_laws.specs.fit.Built.{IsBuilt}
use Rattle.hw_task_laws.proofs.fit.Expressions.{compiled_fits}
use Rattle.hw_task_laws.proofs.form.Task.{ranges_in, IsTask, state_wide, state_low}
use Rattle.hw_task_laws.proofs.acts.Answered.{value_typed, index_typed, value_within, index_within}
use Rattle.hw_task_laws.proofs.form.Asked.{state_net, registers_in, at_net, index_answers, value_answers}
use Rattle.hw_task_laws.proofs.steps.Allowed.{side_is as written_so}
use Rattle.std.proofs.lemmas.Bool.{and_from as yes_and}
use Rattle.tapa_base.proofs.Got.{got_low}

-- the wires of a state's value are called so
pub value_net : (k n : ℕ) → name (ValueNet k n) ≡ numbered (value_front k) n
unfolding name value_front
value_net k n = refl

got_end : (ends : List End) (s : ℕ) (b : Bool) (o : Option End) → slice_get ends s ≡ o → option_map (λ (e : End). e.writes) o ≡ Some b → s < length ends
got_end ends s b None e h = absurd cc
got_end ends s b (Some x) e h = got_low ends s x e

by_end_true : (xs ys : List Element) (b : Bool) → b ≡ true → by_end xs ys b ≡ xs
by_end_true xs ys b e = ap (by_end xs ys) e

by_end_false : (xs ys : List Element) (b : Bool) → b ≡ false → by_end xs ys b ≡ ys
by_end_false xs ys b e = ap (by_end xs ys) e

-- ---- what stands among all that comes before states

module _ (S : Shape) where
  pub stream_low : (s : ℕ) (b : Bool) → writes_of S.streams s ≡ Some b → s < length S.streams
  stream_low s b h = got_end S.streams s b (slice_get S.streams s) refl h

  pub stream_writes : (s : ℕ) (b : Bool) → writes_of S.streams s ≡ Some b → writes S s ≡ b
  stream_writes s b h = written_so (slice_get S.streams s) b h

  module _ (all : List Element) (ports : IsAmong (inputs S) all) where
    pub scalar_net : (i : ℕ) → i < length S.scalars → IsAmong (scalar_port S i) all
    scalar_net i l e h =
        ports e (has_left (each (scalar_port S) (length S.scalars) ++ each (stream_inputs S) (length S.streams)) (each (memory_inputs S) (length S.memories)) e
        (has_left (each (scalar_port S) (length S.scalars)) (each (stream_inputs S) (length S.streams)) e (has_each (scalar_port S) (length S.scalars) i e l h)))

    stream_among : (s : ℕ) → s < length S.streams → IsAmong (stream_inputs S s) all
    stream_among s l e h =
        ports e (has_left (each (scalar_port S) (length S.scalars) ++ each (stream_inputs S) (length S.streams)) (each (memory_inputs S) (length S.memories)) e
        (has_right (each (scalar_port S) (length S.scalars)) (each (stream_inputs S) (length S.streams)) e (has_each (stream_inputs S) (length S.streams) s e l h)))

    memory_among : (m : ℕ) → m < length S.memories → IsAmong (memory_inputs S m) all
    memory_among m l e h =
        ports e (has_right (each (scalar_port S) (length S.scalars) ++ each (stream_inputs S) (length S.streams)) (each (memory_inputs S) (length S.memories)) e (has_each (memory_inputs S) (length S.memories) m e l h))

    written_among : (s : ℕ) → s < length S.streams → writes S s ≡ true → IsAmong (Input 1 (name (Rdy s)) ∷ []) all
    written_among s l e d h = stream_among s l d (subst (λ (xs : List Element). Has xs d) (sym (by_end_true _ _ (writes S s) e)) h)

    read_among : (s : ℕ) → s < length S.streams → writes S s ≡ false → IsAmong (Input 1 (name (HasNet s)) ∷ Input (bits_of (stream_kind S s) + 1) (name (Dout s)) ∷ []) all
    read_among s l e d h = stream_among s l d (subst (λ (xs : List Element). Has xs d) (sym (by_end_false _ _ (writes S s) e)) h)

    pub rdy_net : (s : ℕ) → s < length S.streams → writes S s ≡ true → IsNet all (name (Rdy s)) 1
    rdy_net s l e = input_net all 1 (name (Rdy s)) (written_among s l e _ (inl refl))

    pub has_net : (s : ℕ) → s < length S.streams → writes S s ≡ false → IsNet all (name (HasNet s)) 1
    has_net s l e = input_net all 1 (name (HasNet s)) (read_among s l e _ (inl refl))

    pub dout_net : (s : ℕ) → s < length S.streams → writes S s ≡ false → IsNet all (name (Dout s)) (bits_of (stream_kind S s) + 1)
    dout_net s l e = input_net all (bits_of (stream_kind S s) + 1) (name (Dout s)) (read_among s l e _ (inr (inl refl)))

    pub ack_net : (m : ℕ) → m < length S.memories → IsNet all (name (Ack m)) 1
    ack_net m l = input_net all 1 (name (Ack m)) (memory_among m l _ (inl refl))

    pub rdata_net : (m : ℕ) → m < length S.memories → IsNet all (name (Rdata m)) (bits_of (memory_kind S m))
    rdata_net m l = input_net all (bits_of (memory_kind S m)) (name (Rdata m)) (memory_among m l _ (inr (inl refl)))

    pub datum_atom : (s : ℕ) → s < length S.streams → writes S s ≡ false → AtomIs all (bits_of (stream_kind S s)) (datum_of S s)
    datum_atom s l e = let b = some_bits (stream_kind S s) in (bits_of (stream_kind S s) + 1, dout_net s l e, omega (arith, b), omega arith, omega (arith, b), omega (arith, b))

    pub eot_atom : (s : ℕ) → s < length S.streams → writes S s ≡ false → AtomIs all 1 (eot_of S s)
    eot_atom s l e = let b = some_bits (stream_kind S s) in (bits_of (stream_kind S s) + 1, dout_net s l e, omega (arith, b), omega arith, omega arith, omega arith)

-- ---- ports, registers and memories, decodes, and what stands at the reader's end of a stream

module _ (S : Shape) (T : IsTask S) where
  pub inputs_fit : FitInOrder [] (inputs S)
  inputs_fit =
      let scalars = each (scalar_port S) (length S.scalars) in
      let streams = each (stream_inputs S) (length S.streams) in
      let memories = each (memory_inputs S) (length S.memories) in
      parts_fit [] (scalars ++ streams) memories
      (parts_fit [] scalars streams (each_part_fits [] (scalar_port S) (length S.scalars) (λ i l. (kind_wide (register_kind S (slice_index S.scalars i)), tt))) (each_part_fits scalars (stream_inputs S) (length S.streams) (λ s l. by_end_fits scalars _ _ (writes S s) (refl, tt) (refl, (token_wide (stream_kind S s), tt)))))
      (each_part_fits (scalars ++ streams) (memory_inputs S) (length S.memories) (λ m l. (refl, (kind_wide (memory_kind S m), tt)))) where
        by_end_fits : (before xs ys : List Element) (b : Bool) → FitInOrder before xs → FitInOrder before ys → FitInOrder before (by_end xs ys b)
        by_end_fits before xs ys true h k = h
        by_end_fits before xs ys false h k = k

  pub held_fits : (before : List Element) → FitInOrder before (held S)
  held_fits before =
      let variables = each (variable S) (length S.registers) in
      let arrays = each (array S) (length S.arrays) in
      let two = Register (state_bits S) (name StateNet) ∷ Register 1 (name Ended) ∷ [] in
      parts_fit before two (variables ++ arrays) (state_wide S T, (refl, tt))
      (parts_fit (before ++ two) variables arrays (each_part_fits (before ++ two) (variable S) (length S.registers) (λ r l. (kind_wide (register_kind S r), tt)))
      (each_part_fits ((before ++ two) ++ variables) (array S) (length S.arrays) (λ a l. ((kind_wide (array_kind S a), cell_count a), tt)))) where
        cell_count : (a : ℕ) → IsTrue (is_cell_count (array_cells S a))
        cell_count a = let s = T.some_cells a in let f = T.few_cells a in yes_and (nat_le 1 (array_cells S a)) (nat_le (array_cells S a) 1048576) (le-leb 1 (array_cells S a) s) (le-leb (array_cells S a) 1048576 (omega (arith, f)))

  pub decodes_fit : (before : List Element) → IsAmong (held S) before → FitInOrder before (each (decoded S) (state_count S))
  decodes_fit before kept = each_part_fits before (decoded S) (state_count S) (λ k l. ((refl, (refl, (state_bits S, state_wide S T, state_net S before kept, (refl, state_low S T k l)))), tt))

  offer_fits : (before : List Element) → IsAmong (inputs S) before → (s : ℕ) → s < length S.streams → (b : Bool) → writes S s ≡ b → FitInOrder before (by_end [] (offers S s) b)
  offer_fits before ports s l true e = tt
  offer_fits before ports s l false e =
      let plain = Wire 1 (name (PlainNet s)) (Invert (eot_of S s)) in
      let datum = Wire 1 (name (Datum s)) (Binary (net (HasNet s)) And (net (PlainNet s))) in
      let one = before ++ plain ∷ [] in
      let two = one ++ datum ∷ [] in
      let in_one = λ (d : Element) (h : Has (inputs S) d). has_left before (plain ∷ []) d (ports d h) in
      let in_two = λ (d : Element) (h : Has (inputs S) d). has_left one (datum ∷ []) d (in_one d h) in
      ((refl, eot_atom S before ports s l e), ((refl, (has_net S one in_one s l e, wire_net one 1 (name (PlainNet s)) _ (has_right before (plain ∷ []) plain (inl refl)))), ((refl, (has_net S two in_two s l e, eot_atom S two in_two s l e)), tt)))

  pub offers_fit : (before : List Element) → IsAmong (inputs S) before → FitInOrder before (each (offered S) (length S.streams))
  offers_fit before ports = each_part_fits before (offered S) (length S.streams) (λ s l. offer_fits before ports s l (writes S s) refl)

  -- ---- states

  module _ (all : List Element) (ports : IsAmong (inputs S) all) (kept : IsAmong (held S) all) (offers_in : IsAmong (each (offered S) (length S.streams)) all) where
    offer_among : (s : ℕ) → s < length S.streams → writes S s ≡ false → IsAmong (offers S s) all
    offer_among s l e d h =
        offers_in d (has_each (offered S) (length S.streams) s d l (subst (λ (xs : List Element). Has xs d) (sym (by_end_false [] (offers S s) (writes S s) e)) h))

    named : (w x : Net) → Some x ≡ Some w → IsNet all (name x) 1 → IsNet all (name w) 1
    named w x e h = let s : x ≡ w = cc in subst (λ z. IsNet all (name z) 1) s h

    pub awaited_net : (f : StateForm) → IsInRange (ranges_in S) f → (w : Net) → awaited f ≡ Some w → IsNet all (name w) 1
    awaited_net (ReadAt s into next) g w e = named w (Datum s) e (wire_net all 1 (name (Datum s)) _ (offer_among s (stream_low S s false g.0) (stream_writes S s false g.0) _ (inr (inl refl))))
    awaited_net (PeekAt s into next) g w e = named w (Datum s) e (wire_net all 1 (name (Datum s)) _ (offer_among s (stream_low S s false g.0) (stream_writes S s false g.0) _ (inr (inl refl))))
    awaited_net (EotAt s into next) g w e = named w (HasNet s) e (has_net S all ports s (stream_low S s false g.0) (stream_writes S s false g.0))
    awaited_net (OpenAt s next) g w e = named w (Eot s) e (wire_net all 1 (name (Eot s)) _ (offer_among s (stream_low S s false g.0) (stream_writes S s false g.0) _ (inr (inr (inl refl)))))
    awaited_net (WriteAt s v next) g w e = named w (Rdy s) e (rdy_net S all ports s (stream_low S s true g.0) (stream_writes S s true g.0))
    awaited_net (CloseAt s next) g w e = named w (Rdy s) e (rdy_net S all ports s (stream_low S s true g.0) (stream_writes S s true g.0))
    awaited_net (LoadAt m i into next) g w e = named w (Ack m) e (ack_net S all ports m g.0)
    awaited_net (StoreAt m i v next) g w e = named w (Ack m) e (ack_net S all ports m g.0)
    awaited_net _ g w e = absurd cc

  -- the index and the value of a state, behind all reads
  module _ (all : List Element) (kept : IsAmong (held S) all) (reads : IsAmong (each (reads_of S) (read_numbers S)) all) (k : ℕ) (low : k < state_count S) where
    pub value_built : IsBuilt all (bits_of (value_kind S (form_at S k))) (value_wires S k)
    value_built =
        compiled_fits all (kinds_in S) (ranges_in S) (registers_in S all kept) (value_of (form_at S k)) (value_kind S (form_at S k)) (value_front k) (read_count (index_of (form_at S k))) 0 (value_typed S (form_at S k) (T.typed k))
        (value_within (ranges_in S) (form_at S k) (T.ranged k)) (value_answers S T all reads k low)

    pub index_built : IsOfKind (kinds_in S) (index_of (form_at S k)) kind.U64 → IsBuilt all 64 (index_wires S k)
    index_built t = compiled_fits all (kinds_in S) (ranges_in S) (registers_in S all kept) (index_of (form_at S k)) kind.U64 (index_front k) 0 0 t (index_within (ranges_in S) (form_at S k) (T.ranged k)) (index_answers S T all reads k low)

    pub index_fits : FitInOrder all (index_wires S k).elements
    index_fits =
        ⊎_elim (λ t. (index_built t).fits) (λ e. subst (λ z. FitInOrder all (compiled (index_front k) 0 0 kind.U64 z).elements) (sym e) tt) (index_typed S (form_at S k) (T.typed k))

  module _ (before : List Element) (ports : IsAmong (inputs S) before) (kept : IsAmong (held S) before) (decodes : IsAmong (each (decoded S) (state_count S)) before)
      (offers_in : IsAmong (each (offered S) (length S.streams)) before) (reads : IsAmong (each (reads_of S) (read_numbers S)) before) (k : ℕ) (low : k < state_count S) where
    abbrev index : List Element
    index = (index_wires S k).elements

    abbrev value : List Element
    value = (value_wires S k).elements

    abbrev X : List Element
    X = before ++ (index ++ value)

    in_X : IsAmong before X
    in_X = left_among before (index ++ value)

    value_atom : AtomIs X (bits_of (value_kind S (form_at S k))) (value_wires S k).atom
    value_atom =
        atom_in (before ++ value) X (both_among before value X in_X (λ e h. has_right before (index ++ value) e (has_right index value e h))) (bits_of (value_kind S (form_at S k))) (value_wires S k).atom (value_built before kept reads k low).atom

    index_atom : IsOfKind (kinds_in S) (index_of (form_at S k)) kind.U64 → AtomIs X 64 (index_wires S k).atom
    index_atom t = atom_in (before ++ index) X (both_among before index X in_X (λ e h. has_right before (index ++ value) e (has_left index value e h))) 64 (index_wires S k).atom (index_built before kept reads k low t).atom

    -- an index of an array
    into_fits : (a bits : ℕ) (x : Atom) → IsTrue (is_width bits) → array_cells S a < 2 ^ bits → AtomIs X bits x → FitInOrder X (into_of S k a x bits)
    into_fits a bits x wd few h =
        let inside = Wire 1 (name (Inside k)) (Binary x Less (Literal bits (array_cells S a))) in
        let Z = X ++ inside ∷ [] in (
          (refl, (refl, (bits, wd, h, (refl, few)))),
          ((refl, (at_net S Z (λ d i. has_left X (inside ∷ []) d (in_X d (decodes d i))) k low, wire_net Z 1 (name (Inside k)) _ (has_right X (inside ∷ []) inside (inl refl)))), tt),
        )

    cells_32 : (a : ℕ) → array_cells S a < 2 ^ 32
    cells_32 a = let f = T.few_cells a in omega (arith, f)

    cells_64 : (a : ℕ) → array_cells S a < 2 ^ 64
    cells_64 a = let f = T.few_cells a in omega (arith, f)

    counter_net : (all : List Element) → IsAmong (held S) all → (c : ℕ) → (kinds_in S).vars c ≡ kind.U32 → c < length S.registers → IsNet all (name (Variable c)) 32
    counter_net all h c t l = subst (λ z. IsNet all (name (Variable c)) (bits_of z)) t (registers_in S all h c l)

    counting_fits : (Y : List Element) → IsAmong (held S) Y → (a c : ℕ) → (kinds_in S).vars c ≡ kind.U32 → c < length S.registers → FitInOrder Y (counting S k a c)
    counting_fits Y h a c t l =
        let front = value_front k in
        let v0 = Binary (net (Variable c)) Less (Literal 32 (array_cells S a - 1)) in
        let v1 = Binary (net (Variable c)) Plus (Literal 32 1) in
        let Y1 = with_wire Y front 0 1 v0 in
        let Y2 = with_wire Y1 front 1 32 v1 in
        let f = T.few_cells a in
        let zero_net = subst (λ z. IsNet Y2 z 1) (sym (value_net k 0)) (atom_in Y1 Y2 (left_among Y1 (Wire 32 (numbered front 1) v1 ∷ [])) 1 (NetAtom (numbered front 0)) (wire_there Y front 0 1 v0)) in
        let one_net = subst (λ z. IsNet Y2 z 32) (sym (value_net k 1)) (wire_there Y1 front 1 32 v1) in (
          (refl, (refl, (32, refl, counter_net Y h c t l, (refl, omega (arith, f))))),
          (
            (refl, (counter_net Y1 (λ d i. has_left Y (Wire 1 (numbered front 0) v0 ∷ []) d (h d i)) c t l, (refl, omega arith))),
            ((refl, (zero_net, one_net, (refl, omega arith))), tt),
          ),
        )

    more_fits : (f : StateForm) → form_at S k ≡ f → FitInOrder X (more_wires S k f)
    more_fits (CellAt a i e next) is =
        into_fits a 64 (index_wires S k).atom refl (cells_64 a) (index_atom (subst (λ z. IsOfKind (kinds_in S) (index_of z) kind.U64) (sym is) (subst (λ z. IsTypedState (kinds_in S) z) is (T.typed k)).0))
    more_fits (ClearAt a c next) is =
        let t = subst (λ z. IsTypedState (kinds_in S) z) is (T.typed k) in
        let g = subst (λ z. IsInRange (ranges_in S) z) is (T.ranged k) in
        let into = into_of S k a (net (Variable c)) 32 in
        parts_fit X into (counting S k a c) (into_fits a 32 (net (Variable c)) refl (cells_32 a) (counter_net X (λ d i. in_X d (kept d i)) c t g.1))
        (counting_fits (X ++ into) (λ d i. has_left X into d (in_X d (kept d i))) a c t g.1)
    more_fits (WriteAt s e next) is =
        let w = bits_of (stream_kind S s) in
        let atom = subst (λ z. AtomIs X (bits_of (value_kind S z)) (value_wires S k).atom) is value_atom in
        ((token_wide (stream_kind S s), (omega arith, (1, w, refl, (refl, omega arith), (w, 0, kind_wide (stream_kind S s), atom, refl, omega arith), omega arith))), tt)
    more_fits _ is = tt

    go_fits : (Y : List Element) → IsNet Y (name (At k)) 1 → (o : Option Net) (late : Bool) → ((w : Net) → o ≡ Some w → IsNet Y (name w) 1) → FitInOrder Y (go_of k o late)
    go_fits Y here None late h = tt
    go_fits Y here (Some w) false h = tt
    go_fits Y here (Some w) true h = ((refl, (here, h w refl)), tt)

    -- where a state leads, by a net of one bit
    leads : (Y : List Element) (test : Atom) (y n : ℕ) → AtomIs Y 1 test → y < state_count S → n < state_count S → FitInOrder Y (next_of S k test y n)
    leads Y test y n h l m = ((state_wide S T, (h, (refl, state_low S T y l), (refl, state_low S T n m))), tt)

    abbrev Waits : List Element → StateForm → Type 0
    Waits Y f = (w : Net) → awaited f ≡ Some w → IsNet Y (name w) 1

    next_fits : (Y : List Element) (f : StateForm) → form_at S k ≡ f → IsInRange (ranges_in S) f → Waits Y f → IsAmong X Y → ((a c next : ℕ) → f ≡ ClearAt a c next → IsNet Y (name (ValueNet k 0)) 1) → FitInOrder Y (next_wires S k f)
    next_fits Y (TestAt e y n) is g waits in_Y clears = leads Y (value_wires S k).atom y n (atom_in X Y in_Y 1 (value_wires S k).atom (subst (λ z. AtomIs X (bits_of (value_kind S z)) (value_wires S k).atom) is value_atom)) g.1 g.2
    next_fits Y (ClearAt a c next) is g waits in_Y clears = leads Y (net (ValueNet k 0)) k next (clears a c next refl) low g.2
    next_fits Y (ReadAt s into next) is g waits in_Y clears = leads Y (net (Datum s)) next k (waits (Datum s) refl) g.2 low
    next_fits Y (PeekAt s into next) is g waits in_Y clears = leads Y (net (Datum s)) next k (waits (Datum s) refl) g.2 low
    next_fits Y (EotAt s into next) is g waits in_Y clears = leads Y (net (HasNet s)) next k (waits (HasNet s) refl) g.2 low
    next_fits Y (OpenAt s next) is g waits in_Y clears = leads Y (net (Eot s)) next k (waits (Eot s) refl) g.1 low
    next_fits Y (WriteAt s e next) is g waits in_Y clears = leads Y (net (Rdy s)) next k (waits (Rdy s) refl) g.2 low
    next_fits Y (CloseAt s next) is g waits in_Y clears = leads Y (net (Rdy s)) next k (waits (Rdy s) refl) g.1 low
    next_fits Y (LoadAt m i into next) is g waits in_Y clears = leads Y (net (Ack m)) next k (waits (Ack m) refl) g.3 low
    next_fits Y (StoreAt m i e next) is g waits in_Y clears = leads Y (net (Ack m)) next k (waits (Ack m) refl) g.3 low
    next_fits Y _ is g waits in_Y clears = tt

    pub state_fits : FitInOrder before (state_wires S k)
    state_fits =
        let f = form_at S k in
        let more = more_wires S k f in
        let go = go_of k (awaited f) (needs_go f) in
        let front = index ++ value ++ more in
        let Y = before ++ front in
        let Z = before ++ (front ++ go) in
        let X_in_Y : IsAmong X Y = both_among before (index ++ value) Y (left_among before front) (λ d h. has_right before front d (has_left (index ++ value) more d h)) in
        let Y_in_Z : IsAmong Y Z = both_among before front Z (left_among before (front ++ go)) (λ d h. has_right before (front ++ go) d (has_left front go d h)) in
        let waits_Y = λ (w : Net) (e : awaited f ≡ Some w). awaited_net Y (λ d h. left_among before front d (ports d h)) (λ d h. left_among before front d (kept d h)) (λ d h. left_among before front d (offers_in d h)) f (T.ranged k) w e in
        let waits_Z = λ (w : Net) (e : awaited f ≡ Some w). awaited_net Z (λ d h. left_among before (front ++ go) d (ports d h)) (λ d h. left_among before (front ++ go) d (kept d h)) (λ d h. left_among before (front ++ go) d (offers_in d h)) f (T.ranged k) w e in
        parts_fit before (front ++ go) (next_wires S k f)
        (parts_fit before front go
        (parts_fit before (index ++ value) more (parts_fit before index value (index_fits before kept reads k low) (fit_behind before index value (value_built before kept reads k low).fits)) (more_fits f refl))
        (go_fits Y (at_net S Y (λ d h. left_among before front d (decodes d h)) k low) (awaited f) (needs_go f) waits_Y))
        (next_fits Z f refl (T.ranged k) waits_Z (λ d h. Y_in_Z d (X_in_Y d h)) clears) where
          clears : (a c next : ℕ) → form_at S k ≡ ClearAt a c next → IsNet (before ++ ((index ++ value ++ more_wires S k (form_at S k)) ++ go_of k (awaited (form_at S k)) (needs_go (form_at S k)))) (name (ValueNet k 0)) 1
          clears a c next e =
              let more = more_wires S k (form_at S k) in
              let go = go_of k (awaited (form_at S k)) (needs_go (form_at S k)) in
              let w = Wire 1 (numbered (value_front k) 0) (Binary (net (Variable c)) Less (Literal 32 (array_cells S a - 1))) in
              let h : Has more w = subst (λ z. Has (more_wires S k z) w) (sym e) (inr (inr (inl refl))) in
              let Z = before ++ ((index ++ value ++ more) ++ go) in
              subst (λ z. IsNet Z z 1) (sym (value_net k 0)) (wire_net Z 1 (numbered (value_front k) 0) _ (has_right before ((index ++ value ++ more) ++ go) w (has_left (index ++ value ++ more) go w (has_right (index ++ value) more w h))))

  pub states_fit : (before : List Element) → IsAmong (inputs S) before → IsAmong (held S) before → IsAmong (each (decoded S) (state_count S)) before → IsAmong (each (offered S) (length S.streams)) before
      → IsAmong (each (reads_of S) (read_numbers S)) before → FitInOrder before (each (state_wires S) (state_count S))
  states_fit before ports kept decodes offers_in reads = each_part_fits before (state_wires S) (state_count S) (λ k l. state_fits before ports kept decodes offers_in reads k l)
