-- What each state gives each choice fits: its condition is a net of one bit, and its value has the width.
use Rattle.std.proofs.Common.{◌≡◌, ℕ, ◌+◌, ◌*◌, ◌^◌, ◌<◌, false, List, ◌++◌, length, Some, inl, inr, refl, sym, ap, subst, ◌∙◌, arith}
use Rattle.std.proofs.Math.Pow.{pow_pos, pow-add}
use Rattle.tapa_base.specs.declared.kind.Kind.{Kind}
use Rattle.tapa_base.specs.declared.kind.Kind.TheVariants as kind
use Rattle.tapa_base.specs.Kinds.{bits_of}
use Rattle.vlog_tree.specs.declared.tree.Atom.{Atom}
use Rattle.vlog_tree.specs.declared.tree.Atom.TheVariants.{Literal}
use Rattle.vlog_tree.specs.declared.tree.BinaryOp.TheVariants.{And}
use Rattle.vlog_tree.specs.declared.tree.Value.TheVariants.{Binary}
use Rattle.tapa_base.specs.Lists.{Has}
use Rattle.hw_build.specs.Elements.{Element, Wire}
use Rattle.hw_build.specs.Trees.{numbered}
use Rattle.hw_build.specs.Scope.{each, IsNet, AtomIs}
use Rattle.hw_build.specs.Choices.{Entry}
use Rattle.hw_build.specs.Fits.{IsAmong}
use Rattle.hw_build.proofs.Parts.{has_each, of_each}
use Rattle.task_fsm.specs.Machine.{StateForm, SetAt, CellAt, ReadAt, WriteAt, PeekAt, EotAt, OpenAt, CloseAt, LoadAt, StoreAt, ClearAt, EndAt, TrapAt}
use Rattle.task_fsm.specs.MachineKinds.{IsOfKind, IsTypedState}
use Rattle.task_fsm.specs.Ranges.{IsInRange}
use Rattle.hw_lines.specs.declared.nets.Net.{Net}
use Rattle.hw_lines.specs.declared.nets.Net.TheVariants.{Variable, Rdata, At, Go, Inside, Into, Packed, Next, Value as ValueNet}
use Rattle.hw_lines.specs.declared.nets.Choice.{Choice}
use Rattle.hw_lines.specs.declared.nets.Choice.TheVariants.{ToState, ToEnd, Set, Stores, WriteIndex, WriteData, Token, Takes, Address, Data, Clear}
use Rattle.hw_lines.specs.Nets.{name, value_front}
use Rattle.hw_lines.specs.Shape.{Shape, kinds_in, array_kind, stream_kind, register_kind, memory_kind, index_bits, state_count, state_bits, form_at}
use Rattle.hw_lines.specs.Drivers.{low_bits}
use Rattle.hw_lines.specs.States.{net, index_of, value_kind, index_wires, value_wires, awaited, needs_go, go_of, next_wires, next_atom, more_wires, state_wires, decoded}
use Rattle.hw_lines.specs.Effects.{entry, at, datum_of, eot_of, end_token, places, contents, tokens, takings, askings, savings, endings, effect, entries, gives, first_value}
use Rattle.hw_lines.proofs.Decodes.{with_in, without_in}
use Rattle.hw_lines.specs.Texts.{inputs, held, offered, reads_of, read_numbers}
use Rattle.tapa_base.proofs.Lists.{has_left, has_right}
use Rattle.hw_task_laws.specs.wires.Shows.{IsWhole}
use Rattle.hw_task_laws.proofs.fit.Scopes.{both_among, wire_net, atom_in}
use Rattle.hw_task_laws.proofs.fit.Operators.{low_fits}
use Rattle.hw_task_laws.proofs.form.Task.{ranges_in, IsTask, state_low, some_index, few_index}
use Rattle.hw_task_laws.proofs.form.Asked.{of_at, EntryFits, of_entry, registers_in, at_net}
use Rattle.hw_task_laws.proofs.form.States.{value_net, stream_low, stream_writes, datum_atom, eot_atom, rdata_net, value_built, index_built}

-- all that stands before the choices
pub record AreBefore (S : Shape) (all : List Element) : Type 0 where
  pub ports : IsAmong (inputs S) all
  pub kept : IsAmong (held S) all
  pub decodes : IsAmong (each (decoded S) (state_count S)) all
  pub offers : IsAmong (each (offered S) (length S.streams)) all
  pub reads : IsAmong (each (reads_of S) (read_numbers S)) all
  pub states : IsAmong (each (state_wires S) (state_count S)) all

-- a state of a form, of which the wires stand before
record IsAt (S : Shape) (all : List Element) (k : ℕ) (f : StateForm) : Type 0 where
  low : k < state_count S
  typed : IsTypedState (kinds_in S) f
  ranged : IsInRange (ranges_in S) f
  more : IsAmong (more_wires S k f) all
  go : IsAmong (go_of k (awaited f) (needs_go f)) all
  next : IsAmong (next_wires S k f) all
  value : AtomIs all (bits_of (value_kind S f)) (value_wires S k).atom
  index : IsOfKind (kinds_in S) (index_of f) kind.U64 → AtomIs all 64 (index_wires S k).atom
  whole : IsOfKind (kinds_in S) (index_of f) kind.U64 → IsWhole (index_wires S k).atom

module _ (S : Shape) (T : IsTask S) (all : List Element) (before : AreBefore S all) where
  is_at : (k : ℕ) → k < state_count S → IsAt S all k (form_at S k)
  is_at k low =
      let f = form_at S k in
      let index = (index_wires S k).elements in
      let value = (value_wires S k).elements in
      let more = more_wires S k f in
      let go = go_of k (awaited f) (needs_go f) in
      let next = next_wires S k f in
      let there = λ (e : Element) (h : Has (state_wires S k) e). before.states e (has_each (state_wires S) (state_count S) k e low h) in
      let in_go = λ (e : Element) (h : Has (index ++ value ++ more ++ go) e). there e (has_left (index ++ value ++ more ++ go) next e h) in
      let in_more = λ (e : Element) (h : Has (index ++ value ++ more) e). in_go e (has_left (index ++ value ++ more) go e h) in
      let in_value = λ (e : Element) (h : Has (index ++ value) e). in_more e (has_left (index ++ value) more e h) in
      let b = value_built S T all before.kept before.reads k low in
      record {
        low = low;
        typed = T.typed k;
        ranged = T.ranged k;
        more = λ e h. in_more e (has_right (index ++ value) more e h);
        go = λ e h. in_go e (has_right (index ++ value ++ more) go e h);
        next = λ e h. there e (has_right (index ++ value ++ more ++ go) next e h);
        value = atom_in (all ++ value) all (both_among all value all (λ e h. h) (λ e h. in_value e (has_right index value e h))) (bits_of (value_kind S f)) (value_wires S k).atom b.atom;
        index = λ t. atom_in (all ++ index) all (both_among all index all (λ e h. h) (λ e h. in_value e (has_left index value e h))) 64 (index_wires S k).atom (index_built S T all before.kept before.reads k low t).atom;
        whole = λ t. (index_built S T all before.kept before.reads k low t).whole;
      }

  here : (k : ℕ) → k < state_count S → IsNet all (name (At k)) 1
  here k low = at_net S all before.decodes k low

  -- a value for a thing of its sort, whose kind has so many bits
  for_one : (w v : ℕ) (c : Net) (a : Atom) (d : Entry) (x y : ℕ) → IsNet all (name c) 1 → AtomIs all v a → (x ≡ y → v ≡ w) → Has (at x y (entry c a)) d → EntryFits all w d
  for_one w v c a d x y h k same i = let t = of_at x y (entry c a) d i in of_entry all w c a d h (subst (λ z. AtomIs all z a) (same t.0) k) t.1

  module _ (k : ℕ) (d : Entry) where
    -- the kind of a register is that of what it gets
    register_bits : (x r : ℕ) (j : Kind) → register_kind S x ≡ j → x ≡ r → bits_of j ≡ bits_of (register_kind S r)
    register_bits x r j t e = ap bits_of (sym t) ∙ ap (λ z. bits_of (register_kind S z)) e

    gives_fit : (r : ℕ) (f : StateForm) → IsAt S all k f → Has (gives S r k f) d → EntryFits all (bits_of (register_kind S r)) d
    gives_fit r (SetAt x e next) I i = for_one (bits_of (register_kind S r)) (bits_of (register_kind S x)) (At k) (value_wires S k).atom d x r (here k I.low) I.value (λ s. ap (λ z. bits_of (register_kind S z)) s) i
    gives_fit r (ReadAt s (Some x) next) I i =
        let g = I.ranged in
        for_one (bits_of (register_kind S r)) (bits_of (stream_kind S s)) (Go k) (datum_of S s) d x r (wire_net all 1 (name (Go k)) _ (I.go _ (inl refl))) (datum_atom S all before.ports s (stream_low S s false g.0) (stream_writes S s false g.0))
        (register_bits x r (stream_kind S s) I.typed) i
    gives_fit r (PeekAt s (Some x) next) I i =
        let g = I.ranged in
        for_one (bits_of (register_kind S r)) (bits_of (stream_kind S s)) (Go k) (datum_of S s) d x r (wire_net all 1 (name (Go k)) _ (I.go _ (inl refl))) (datum_atom S all before.ports s (stream_low S s false g.0) (stream_writes S s false g.0))
        (register_bits x r (stream_kind S s) I.typed) i
    gives_fit r (EotAt s (Some x) next) I i =
        let g = I.ranged in
        for_one (bits_of (register_kind S r)) 1 (Go k) (eot_of S s) d x r (wire_net all 1 (name (Go k)) _ (I.go _ (inl refl))) (eot_atom S all before.ports s (stream_low S s false g.0) (stream_writes S s false g.0))
        (register_bits x r kind.Bool I.typed) i
    gives_fit r (LoadAt m j (Some x) next) I i =
        let g = I.ranged in
        for_one (bits_of (register_kind S r)) (bits_of (memory_kind S m)) (Go k) (net (Rdata m)) d x r (wire_net all 1 (name (Go k)) _ (I.go _ (inl refl))) (rdata_net S all before.ports m g.0) (register_bits x r (memory_kind S m) I.typed.1) i
    gives_fit r (ClearAt a c next) I i =
        for_one (bits_of (register_kind S r)) 32 (At k) (net (ValueNet k 2)) d c r (here k I.low) (subst (λ z. IsNet all z 32) (sym (value_net k 2)) (wire_net all 32 (numbered (value_front k) 2) _ (I.more _ (inr (inr (inr (inr (inl refl))))))))
        (register_bits c r kind.U32 I.typed) i
    gives_fit r _ I i = absurd i

    -- whether a cell is written
    into_net : (f : StateForm) → IsAt S all k f → Has (more_wires S k f) (Wire 1 (name (Into k)) (Binary (net (At k)) And (net (Inside k)))) → IsNet all (name (Into k)) 1
    into_net f I h = wire_net all 1 (name (Into k)) _ (I.more _ h)

    -- the place and the value of a cell, under a condition that is a net where the cell is written
    places_fit : (x : Net) (a : ℕ) (f : StateForm) → IsAt S all k f → (Has (more_wires S k f) (Wire 1 (name (Into k)) (Binary (net (At k)) And (net (Inside k)))) → IsNet all (name x) 1) → Has (places S x a k f) d
        → EntryFits all (index_bits S a) d
    places_fit x a (CellAt b j e next) I on i =
        let t = I.typed.0 in
        let f = few_index S T a in
        for_one (index_bits S a) (index_bits S a) x (low_bits (index_bits S a) (index_wires S k).atom) d b a (on (inr (inl refl)))
        (low_fits all 64 (index_bits S a) (index_wires S k).atom (some_index S T a) (omega (arith, f)) (I.whole t) (I.index t)) (λ s. refl) i
    places_fit x a (ClearAt b c next) I on i =
        let f = few_index S T a in
        let counter : IsNet all (name (Variable c)) 32 = subst (λ z. IsNet all (name (Variable c)) (bits_of z)) I.typed (registers_in S all before.kept c I.ranged.1) in
        for_one (index_bits S a) (index_bits S a) x (low_bits (index_bits S a) (net (Variable c))) d b a (on (inr (inl refl)))
        (low_fits all 32 (index_bits S a) (net (Variable c)) (some_index S T a) f tt counter) (λ s. refl) i
    places_fit x a _ I on i = absurd i

    contents_fit : (a : ℕ) (f : StateForm) → IsAt S all k f → Has (contents S a k f) d → EntryFits all (bits_of (array_kind S a)) d
    contents_fit a (CellAt b j e next) I i =
        for_one (bits_of (array_kind S a)) (bits_of (array_kind S b)) (At k) (value_wires S k).atom d b a (here k I.low) I.value (λ s. ap (λ z. bits_of (array_kind S z)) s) i
    contents_fit a (ClearAt b c next) I i =
        for_one (bits_of (array_kind S a)) (bits_of (array_kind S a)) (At k) (Literal (bits_of (array_kind S a)) 0) d b a (here k I.low) (refl, pow_pos (bits_of (array_kind S a))) (λ s. refl) i
    contents_fit a _ I i = absurd i

    -- tokens
    end_low : (b : ℕ) → 2 ^ b < 2 ^ (b + 1)
    end_low b = let e : 2 ^ (b + 1) ≡ 2 ^ b * 2 = pow-add 2 b 1 in let p : 0 < 2 ^ b = pow_pos b in omega (arith, e, p)

    tokens_fit : (s : ℕ) (f : StateForm) → IsAt S all k f → Has (tokens S s k f) d → EntryFits all (bits_of (stream_kind S s) + 1) d
    tokens_fit s (WriteAt x e next) I i =
        for_one (bits_of (stream_kind S s) + 1) (bits_of (stream_kind S x) + 1) (At k) (net (Packed k)) d x s (here k I.low) (wire_net all (bits_of (stream_kind S x) + 1) (name (Packed k)) _ (I.more _ (inl refl)))
        (λ t. ap (λ z. bits_of (stream_kind S z) + 1) t) i
    tokens_fit s (CloseAt x next) I i =
        for_one (bits_of (stream_kind S s) + 1) (bits_of (stream_kind S s) + 1) (At k) (end_token S s) d x s (here k I.low) (refl, end_low (bits_of (stream_kind S s))) (λ t. refl) i
    tokens_fit s _ I i = absurd i

    takings_fit : (s : ℕ) (f : StateForm) → IsAt S all k f → Has (takings S s k f) d → EntryFits all 1 d
    takings_fit s (ReadAt x into next) I i = for_one 1 1 (Go k) (Literal 1 1) d x s (wire_net all 1 (name (Go k)) _ (I.go _ (inl refl))) (refl, omega arith) (λ t. refl) i
    takings_fit s (OpenAt x next) I i = for_one 1 1 (Go k) (Literal 1 1) d x s (wire_net all 1 (name (Go k)) _ (I.go _ (inl refl))) (refl, omega arith) (λ t. refl) i
    takings_fit s _ I i = absurd i

    -- memories
    askings_fit : (m : ℕ) (f : StateForm) → IsAt S all k f → Has (askings S m k f) d → EntryFits all 64 d
    askings_fit m (LoadAt x j into next) I i = for_one 64 64 (At k) (index_wires S k).atom d x m (here k I.low) (I.index I.typed.0) (λ t. refl) i
    askings_fit m (StoreAt x j e next) I i = for_one 64 64 (At k) (index_wires S k).atom d x m (here k I.low) (I.index I.typed.0) (λ t. refl) i
    askings_fit m _ I i = absurd i

    savings_fit : (m : ℕ) (f : StateForm) → IsAt S all k f → Has (savings S m k f) d → EntryFits all (bits_of (memory_kind S m)) d
    savings_fit m (StoreAt x j e next) I i =
        for_one (bits_of (memory_kind S m)) (bits_of (memory_kind S x)) (At k) (value_wires S k).atom d x m (here k I.low) I.value (λ t. ap (λ z. bits_of (memory_kind S z)) t) i
    savings_fit m _ I i = absurd i

    endings_fit : (f : StateForm) → IsAt S all k f → Has (endings k f) d → EntryFits all 1 d
    endings_fit EndAt I i = of_entry all 1 (At k) (Literal 1 1) d (here k I.low) (refl, omega arith) i
    endings_fit _ I i = absurd i

    -- the next state
    next_fits : (f : StateForm) → IsAt S all k f → AtomIs all (state_bits S) (next_atom S k f)
    next_fits (SetAt r e next) I = (refl, state_low S T next I.ranged.2)
    next_fits (CellAt a j e next) I = (refl, state_low S T next I.ranged.3)
    next_fits EndAt I = (refl, state_low S T k I.low)
    next_fits TrapAt I = (refl, state_low S T k I.low)
    next_fits _ I = wire_net all (state_bits S) (name (Next k)) _ (I.next _ (inl refl))

  -- each choice over all states
  over_states : (c : Choice) (w : ℕ) → ((k : ℕ) (d : Entry) → IsAt S all k (form_at S k) → Has (effect S c k) d → EntryFits all w d) → (d : Entry) → Has (entries S c) d → EntryFits all w d
  over_states c w f d h = let r = of_each (effect S c) (state_count S) d h in f r.0 d (is_at r.0 r.1) r.2

  pub to_state : (d : Entry) → Has (entries S ToState) d → EntryFits all (state_bits S) d
  to_state d h = over_states ToState (state_bits S) (λ k d I i. of_entry all (state_bits S) (At k) (next_atom S k (form_at S k)) d (here k I.low) (next_fits k d (form_at S k) I) i) d h

  pub to_end : (d : Entry) → Has (entries S ToEnd) d → EntryFits all 1 d
  to_end d h = over_states ToEnd 1 (λ k d I i. endings_fit k d (form_at S k) I i) d h

  pub to_clear : (r : ℕ) (d : Entry) → Has (entries S (Clear r)) d → EntryFits all (bits_of (register_kind S r)) d
  to_clear r d h = over_states (Clear r) (bits_of (register_kind S r)) (λ k d I i. gives_fit k d r (form_at S k) I (with_in (first_value S r) (gives S r k (form_at S k)) d i)) d h

  pub to_set : (r : ℕ) (d : Entry) → Has (entries S (Set r)) d → EntryFits all (bits_of (register_kind S r)) d
  to_set r d h = over_states (Set r) (bits_of (register_kind S r)) (λ k d I i. gives_fit k d r (form_at S k) I (without_in (first_value S r) (gives S r k (form_at S k)) d i)) d h

  pub to_store : (a : ℕ) (d : Entry) → Has (entries S (Stores a)) d → EntryFits all (index_bits S a) d
  to_store a d h = over_states (Stores a) (index_bits S a) (λ k d I i. places_fit k d (Into k) a (form_at S k) I (into_net k d (form_at S k) I) i) d h

  pub to_place : (a : ℕ) (d : Entry) → Has (entries S (WriteIndex a)) d → EntryFits all (index_bits S a) d
  to_place a d h = over_states (WriteIndex a) (index_bits S a) (λ k d I i. places_fit k d (At k) a (form_at S k) I (λ t. here k I.low) i) d h

  pub to_content : (a : ℕ) (d : Entry) → Has (entries S (WriteData a)) d → EntryFits all (bits_of (array_kind S a)) d
  to_content a d h = over_states (WriteData a) (bits_of (array_kind S a)) (λ k d I i. contents_fit k d a (form_at S k) I i) d h

  pub to_token : (s : ℕ) (d : Entry) → Has (entries S (Token s)) d → EntryFits all (bits_of (stream_kind S s) + 1) d
  to_token s d h = over_states (Token s) (bits_of (stream_kind S s) + 1) (λ k d I i. tokens_fit k d s (form_at S k) I i) d h

  pub to_take : (s : ℕ) (d : Entry) → Has (entries S (Takes s)) d → EntryFits all 1 d
  to_take s d h = over_states (Takes s) 1 (λ k d I i. takings_fit k d s (form_at S k) I i) d h

  pub to_ask : (m : ℕ) (d : Entry) → Has (entries S (Address m)) d → EntryFits all 64 d
  to_ask m d h = over_states (Address m) 64 (λ k d I i. askings_fit k d m (form_at S k) I i) d h

  pub to_save : (m : ℕ) (d : Entry) → Has (entries S (Data m)) d → EntryFits all (bits_of (memory_kind S m)) d
  to_save m d h = over_states (Data m) (bits_of (memory_kind S m)) (λ k d I i. savings_fit k d m (form_at S k) I i) d h
