-- What registers have in the next cycle.
use Rattle.std.proofs.Common.{eqb-true, ◌≡◌, ℕ, suc, ◌+◌, ◌-◌, ◌/◌, ◌%◌, ◌^◌, ◌<◌, ◌≤◌, Bool, true, false, cond, eqb, not, ◌&&◌, List, [], ◌∷◌, ◌++◌, length, Option, Some, None, inl, inr, refl, sym, ap, subst, ◌∙◌, arith, ⊎_elim}
use Rattle.std.specs.Prelude.{nat_lt, slice_index, slice_set, bit_or}
use Rattle.std.specs.Int.Bits.{or_zero_l}
use Rattle.std.proofs.Math.Nat.{mod-eq_of_lt}
use Rattle.std.proofs.lemmas.Bool.{cases_eq, ltb-true}
use Rattle.std.proofs.lemmas.List.{get_or-set_same, get_or-set_other}
use Rattle.tapa_base.specs.declared.token.Token.TheVariants.{Datum as DatumToken, Eot as EotToken}
use Rattle.tapa_base.specs.Kinds.{bits_of}
use Rattle.tapa_syntax.specs.LeafKinds.{writes_of}
use Rattle.kahn_model.specs.declared.tick.StreamOperation.TheVariants.{Read, Peek, TestEot}
use Rattle.kahn_model.specs.Behavior.{Offer, on_offer}
use Rattle.kahn_model.specs.Trace.{State, cell, set_var}
use Rattle.vlog_tree.specs.declared.tree.Atom.{Atom}
use Rattle.vlog_tree.specs.declared.tree.Atom.TheVariants.{Net as NetAtom, Literal}
use Rattle.vlog_tree.specs.declared.tree.BinaryOp.TheVariants.{Plus, Less, Or}
use Rattle.vlog_tree.specs.declared.tree.Value.{Value}
use Rattle.vlog_tree.specs.declared.tree.Value.TheVariants.{Binary, Choose}
use Rattle.vlog_tree.specs.Form.{ModuleTree}
use Rattle.tapa_base.specs.Lists.{Has}
use Rattle.vlog_tree.specs.Labels.{rst}
use Rattle.vlog_tree.specs.Table.{Name, one_if}
use Rattle.vlog_tree.specs.Cycle.{Cycle, Follows, atom_value}
use Rattle.tapa_base.proofs.Lists.{has_right}
use Rattle.hw_build.specs.Elements.{Element, Wire, built}
use Rattle.hw_build.specs.Fitting.{AreFitting}
use Rattle.hw_build.proofs.Driven.{wire_driven}
use Rattle.hw_build.specs.Scope.{each}
use Rattle.hw_build.specs.Choices.{Entry, choice}
use Rattle.hw_build.specs.Fits.{IsAmong}
use Rattle.hw_build.proofs.Parts.{has_each}
use Rattle.task_fsm.specs.Machine.{Expression, StateForm, SetAt, ReadAt, PeekAt, EotAt, LoadAt, ClearAt}
use Rattle.task_fsm.specs.MachineKinds.{IsTypedState}
use Rattle.task_fsm.specs.Ranges.{IsInRange}
use Rattle.task_fsm.specs.Run.{value, step, put_into, is_last, clear_step}
use Rattle.hw_lines.specs.declared.nets.Choice.TheVariants.{ToState, ToEnd, Set, NextValue, Clear}
use Rattle.hw_lines.specs.declared.nets.Net.{Net}
use Rattle.hw_lines.specs.declared.nets.Net.TheVariants.{Has as HasNet, Dout, Datum as DatumNet, Ack, Rdata, Variable, At, Go, Value as ValueNet, Reset}
use Rattle.hw_lines.specs.Nets.{name, front, value_front}
use Rattle.hw_lines.specs.Shape.{Shape, kinds_in, array_cells, stream_kind, register_kind, state_count, state_bits, form_at}
use Rattle.hw_lines.specs.States.{net, value_of, value_wires, is_some_register, into_of, counting, more_wires}
use Rattle.hw_lines.specs.Effects.{entry, at, into_register, datum_of, eot_of, effect, entries, first_value, gives, is_same_number, with_number, without_number}
use Rattle.hw_lines.specs.Texts.{any, pick, root, variable_choices, array_choices, task_elements, reset_of, reset_by}
use Rattle.hw_lines.specs.After.{held_after}
use Rattle.hw_lines.specs.Machine.{offered}
use Rattle.hw_lines.specs.Runs.{number_at, bit_at}
use Rattle.hw_lines.proofs.Members.{all, choices_in, more_in, among_left, among_right, among_each}
use Rattle.hw_lines.proofs.Decodes.{at_here, any_off}
use Rattle.hw_task_laws.proofs.wires.Shown.{by_one, some_bits}
use Rattle.hw_task_laws.specs.acts.Moves.{set_next}
use Rattle.hw_task_laws.proofs.acts.Answered.{among_three, alone, value_shown}
use Rattle.hw_task_laws.proofs.acts.Moves.{only_picked, only_set, only_clear, none_clear, registers_go_on, counter_there as first_there}
use Rattle.hw_task_laws.specs.steps.Steps.{ranges_in, allowed, found_by, IsAt}
use Rattle.hw_task_laws.proofs.steps.Allowed.{go_is, eot_is, offer_is, read_right, peek_right, test_right}
use Rattle.hw_task_laws.proofs.steps.Places.{more_cells}
use Rattle.hw_task_laws.specs.effects.Held.{held_by, RegistersAreHeld}
use Rattle.hw_task_laws.proofs.effects.Outs.{at_same, at_other}
use Rattle.hw_task_laws.proofs.effects.Memories.{same_part, addr_is, no_store}
use Rattle.tapa_base.proofs.Tests.{and_right as both_second}
use Rattle.vlog_tree.proofs.Nesting.{same_both as same_cond}

-- ---- numbers and tokens

-- the lower bits of a number that has no more
low_part : (v w : ℕ) → 0 < w → v < 2 ^ w → (v / 2 ^ 0) % 2 ^ (w - 1 + 1 - 0) ≡ v
low_part v w some h =
    let e : w - 1 + 1 - 0 ≡ w = omega arith in
    ap (λ z. z % 2 ^ (w - 1 + 1 - 0)) (by_one v) ∙ ap (λ z. v % 2 ^ z) e ∙ mod-eq_of_lt h

read_found : (a b : Bool) (v : ℕ) → (a && b) ≡ true → on_offer (offered a Read (cond b (DatumToken v) EotToken)) 0 0 (λ t x. x) ≡ v
read_found true true v h = refl
read_found true false v h = cc
read_found false b v h = cc

peek_found : (a b : Bool) (v : ℕ) → (a && b) ≡ true → on_offer (offered a Peek (cond b (DatumToken v) EotToken)) 0 0 (λ t x. x) ≡ v
peek_found true true v h = refl
peek_found true false v h = cc
peek_found false b v h = cc

test_found : (a b : Bool) (v : ℕ) → a ≡ true → on_offer (offered a TestEot (cond b (DatumToken v) EotToken)) 0 0 (λ t x. x) ≡ one_if (not b)
test_found true true v h = refl
test_found true false v h = refl
test_found false b v h = cc

-- a Clear's counter after its step
clear_sets : (S : Shape) (run : ℕ → Cycle) (n k a c next r : ℕ) (σ : State) (b : Bool) → slice_index (set_var σ c (cond b (slice_index σ.vars c + 1) 0)).vars r ≡ slice_index (held_by S run n σ (clear_step b a c k next σ)).vars r
clear_sets S run n k a c next r σ true = refl
clear_sets S run n k a c next r σ false = refl

-- registers after one is set where a bit says so
var_same : (σ : State) (x r v : ℕ) (b : Bool) → r < length σ.vars → x ≡ r → (u : ℕ) → (b ≡ true → u ≡ v) → cond b u (slice_index σ.vars r) ≡ slice_index (cond b (set_var σ x v) σ).vars r
var_same σ x r v true low e u is = is refl ∙ sym (get_or-set_same σ.vars r v 0 low) ∙ ap (λ z. slice_index (slice_set σ.vars z v) r) (sym e)
var_same σ x r v false low e u is = refl

var_other : (σ : State) (x r v : ℕ) (b : Bool) → (x ≡ r → ⊥) → slice_index σ.vars r ≡ slice_index (cond b (set_var σ x v) σ).vars r
var_other σ x r v true ne = sym (get_or-set_other σ.vars x r v 0 (λ e. ne (sym e)))
var_other σ x r v false ne = refl

-- two atoms that are one number have one value
same_number : (c : Cycle) (a b : Atom) → is_same_number a b ≡ true → atom_value c a ≡ atom_value c b
same_number c (Literal w n) (Literal v m) e = eqb-true n m e
same_number c (Literal w n) _ e = cc
same_number c _ b e = cc

-- the last of a Clear's wires
third_there : (S : Shape) (k a c next : ℕ) → Has (more_wires S k (ClearAt a c next)) (Wire 32 (name (ValueNet k 2)) (Choose (net (ValueNet k 0)) (net (ValueNet k 1)) (Literal 32 0)))
unfolding name value_front
third_there S k a c next = has_right (into_of S k a (net (Variable c)) 32) (counting S k a c) _ (inr (inr (inl refl)))

second_there : (S : Shape) (k a c next : ℕ) → Has (more_wires S k (ClearAt a c next)) (Wire 32 (name (ValueNet k 1)) (Binary (net (Variable c)) Plus (Literal 32 1)))
unfolding name value_front
second_there S k a c next = has_right (into_of S k a (net (Variable c)) 32) (counting S k a c) _ (inr (inl refl))

counter_next : (b : Bool) (c n : ℕ) → nat_lt c (n - 1) ≡ b → n ≤ 4096 → cond (eqb (one_if b) 1) ((c + 1) % 2 ^ 32) 0 ≡ cond b (c + 1) 0
counter_next true c n e few =
    let l = ltb-true c (n - 1) e in
    let h : c + 1 < 2 ^ 32 = omega (arith, l, few) in
    mod-eq_of_lt h
counter_next false c n e few = refl

module _ (S : Shape) (title : Name) (run : ℕ → Cycle) (f : Follows (built title (task_elements S)) run) (cells : ℕ → List (List ℕ)) (n k : ℕ) (σ : State) (is : IsAt S run f.sizes cells n k σ) where
  at_one : (run n).net (name (At k)) ≡ 1
  at_one = at_here S title run f n k is.shows.low is.shows.here

  -- ---- the values that are set

  abbrev v : ℕ → ℕ
  v s = number_at run (Dout s) n

  datum_is : (s : ℕ) → nat_lt (v s) (2 ^ bits_of (stream_kind S s)) ≡ true → atom_value (run n) (datum_of S s) ≡ v s
  datum_is s e = low_part (v s) (bits_of (stream_kind S s)) (some_bits (stream_kind S s)) (ltb-true (v s) (2 ^ bits_of (stream_kind S s)) e)

  read_value : (s : ℕ) → writes_of S.streams s ≡ Some false → (into : Option ℕ) (next : ℕ) → allowed S run n (step (ReadAt s into next) k σ) ≡ true
      → atom_value (run n) (datum_of S s) ≡ found_by S run n (step (ReadAt s into next) k σ)
  read_value s reads into next ok =
      let right = sym (read_right S title run f cells is.around n s reads) ∙ ok in
      datum_is s (both_second (bit_at run (HasNet s) n) (nat_lt (v s) (2 ^ bits_of (stream_kind S s))) right)
      ∙ sym (ap (λ (o : Offer). on_offer o 0 0 (λ t x. x)) (offer_is S title run f cells is.around n s reads Read) ∙ read_found (bit_at run (HasNet s) n) (nat_lt (v s) (2 ^ bits_of (stream_kind S s))) (v s) right)

  peek_value : (s : ℕ) → writes_of S.streams s ≡ Some false → (into : Option ℕ) (next : ℕ) → allowed S run n (step (PeekAt s into next) k σ) ≡ true
      → atom_value (run n) (datum_of S s) ≡ found_by S run n (step (PeekAt s into next) k σ)
  peek_value s reads into next ok =
      let right = sym (peek_right S title run f cells is.around n s reads) ∙ ok in
      datum_is s (both_second (bit_at run (HasNet s) n) (nat_lt (v s) (2 ^ bits_of (stream_kind S s))) right)
      ∙ sym (ap (λ (o : Offer). on_offer o 0 0 (λ t x. x)) (offer_is S title run f cells is.around n s reads Peek) ∙ peek_found (bit_at run (HasNet s) n) (nat_lt (v s) (2 ^ bits_of (stream_kind S s))) (v s) right)

  test_value : (s : ℕ) → writes_of S.streams s ≡ Some false → (into : Option ℕ) (next : ℕ) → allowed S run n (step (EotAt s into next) k σ) ≡ true
      → atom_value (run n) (eot_of S s) ≡ found_by S run n (step (EotAt s into next) k σ)
  test_value s reads into next ok =
      let right = sym (test_right S title run f cells is.around n s reads) ∙ ok in
      eot_is S title run f cells is.around n s reads
      ∙ sym (ap (λ (o : Offer). on_offer o 0 0 (λ t x. x)) (offer_is S title run f cells is.around n s reads TestEot) ∙ test_found (bit_at run (HasNet s) n) (nat_lt (v s) (2 ^ bits_of (stream_kind S s))) (v s) right)

  load_value : (m : ℕ) (i : Expression) (into : Option ℕ) (next : ℕ) → form_at S k ≡ LoadAt m i into next → bit_at run (Ack m) n ≡ true → number_at run (Rdata m) n ≡ cell σ.cells m (value i σ)
  load_value m i into next same ok =
      let g : IsInRange (ranges_in S) (LoadAt m i into next) = subst (IsInRange (ranges_in S)) same is.shows.ranged in
      let t : IsTypedState (kinds_in S) (LoadAt m i into next) = subst (IsTypedState (kinds_in S)) same is.shows.typed in
      is.around.rdata n m g.0 ok (no_store S title run f cells n k σ is m g.0 (LoadAt m i into next) same refl)
      ∙ ap (cell (cells n) m) (addr_is S title run f cells n k σ is m g.0 (LoadAt m i into next) same m refl refl t.0)
      ∙ ap (λ rows. cell rows m (value i σ)) (sym is.outside)

  counter_value : (a c next : ℕ) → form_at S k ≡ ClearAt a c next → (run n).net (name (ValueNet k 2)) ≡ cond (is_last σ a c) (slice_index σ.vars c + 1) 0
  counter_value a c next same =
      let g : IsInRange (ranges_in S) (ClearAt a c next) = subst (IsInRange (ranges_in S)) same is.shows.ranged in
      let r = is.shows.registers c g.1 in
      let few = is.shows.few a in
      let x = slice_index σ.vars c in
      let b = nat_lt x (array_cells S a - 1) in
      let wire : (w : ℕ) (z : Net) (d : Value) → Has (more_wires S k (ClearAt a c next)) (Wire w (name z) d) → Has (all S) (Wire w (name z) d) =
      λ w z d h. more_in S k is.shows.low (Wire w (name z) d) (subst (λ y. Has (more_wires S k y) (Wire w (name z) d)) (sym same) h) in
      let first : (run n).net (name (ValueNet k 0)) ≡ one_if b =
      wire_driven title (task_elements S) run f 1 (name (ValueNet k 0)) (Binary (net (Variable c)) Less (Literal 32 (array_cells S a - 1))) (wire 1 (ValueNet k 0) (Binary (net (Variable c)) Less (Literal 32 (array_cells S a - 1))) (first_there S k a c next)) n
      ∙ ap (λ z. one_if (nat_lt z (array_cells S a - 1))) r.value in
      let second : (run n).net (name (ValueNet k 1)) ≡ (x + 1) % 2 ^ 32 =
      wire_driven title (task_elements S) run f 32 (name (ValueNet k 1)) (Binary (net (Variable c)) Plus (Literal 32 1)) (wire 32 (ValueNet k 1) (Binary (net (Variable c)) Plus (Literal 32 1)) (second_there S k a c next)) n
      ∙ ap (λ z. (z + 1) % 2 ^ 32) r.value in
      wire_driven title (task_elements S) run f 32 (name (ValueNet k 2)) (Choose (net (ValueNet k 0)) (net (ValueNet k 1)) (Literal 32 0)) (wire 32 (ValueNet k 2) (Choose (net (ValueNet k 0)) (net (ValueNet k 1)) (Literal 32 0)) (third_there S k a c next)) n
      ∙ ap (λ z. cond (eqb z 1) ((run n).net (name (ValueNet k 1))) 0) first ∙ ap (λ z. cond (eqb (one_if b) 1) z 0) second ∙ counter_next b x (array_cells S a) refl few
      ∙ ap (λ z. cond z (x + 1) 0) (more_cells x (array_cells S a)) ∙ ap (λ z. cond (nat_lt (x + 1) z) (x + 1) 0) (sym (is.sizes.rows a g.0))

  -- ---- one register

  module _ (ms : List ModuleTree) (fit : AreFitting ms (task_elements S)) (runs : (run n).net rst ≡ 0) (r : ℕ) (low : r < length S.registers) where
    abbrev old : ℕ
    old = slice_index σ.vars r

    abbrev set_root : Name
    set_root = root S (Set r)

    abbrev in_root : Name
    in_root = root S (NextValue r)

    abbrev reset : Name
    reset = reset_of r (entries S (Clear r))

    abbrev first : Atom
    first = first_value S r

    abbrev next_of : List Entry → ℕ
    next_of es = set_next es (run n) reset (name (Variable r)) first set_root in_root

    old_is : (run n).net (name (Variable r)) ≡ old
    old_is = (is.shows.registers r low).value

    goes : (run (suc n)).net (name (Variable r)) ≡ next_of (entries S (Set r))
    goes = registers_go_on S title run f ms fit n r low

    abbrev clear_wires : List Element
    clear_wires = any S (Clear r) ++ reset_by r (entries S (Clear r))

    abbrev next_wires : List Element
    next_wires = pick S (bits_of (register_kind S r)) (NextValue r)

    parts : IsAmong clear_wires (all S) × IsAmong (any S (Set r)) (all S) × IsAmong next_wires (all S)
    parts =
        among_three clear_wires (any S (Set r)) next_wires (all S)
        (among_each (variable_choices S) (length S.registers) r (all S) low
        (among_right (pick S (state_bits S) ToState ++ any S ToEnd) (each (variable_choices S) (length S.registers)) (all S)
        (among_left ((pick S (state_bits S) ToState ++ any S ToEnd) ++ each (variable_choices S) (length S.registers)) (each (array_choices S) (length S.arrays)) (all S) (choices_in S))))

    zero_among : IsAmong (any S (Clear r)) (all S)
    zero_among = among_left (any S (Clear r)) (reset_by r (entries S (Clear r))) (all S) parts.0

    reset_among : IsAmong (reset_by r (entries S (Clear r))) (all S)
    reset_among = among_right (any S (Clear r)) (reset_by r (entries S (Clear r))) (all S) parts.0

    -- ---- the net at which the register gets its first value

    reset_by_state : (d : Entry) (es : List Entry) → IsAmong (reset_by r (d ∷ es)) (all S) → (run n).net (name (Reset r)) ≡ (run n).net (choice (front (Clear r)) (d ∷ es))
    reset_by_state d es among =
        wire_driven title (task_elements S) run f 1 (name (Reset r)) (Binary (NetAtom rst) Or (NetAtom (choice (front (Clear r)) (d ∷ es)))) (among _ (inl refl)) n
        ∙ ap (λ z. bit_or z ((run n).net (choice (front (Clear r)) (d ∷ es)))) runs ∙ or_zero_l ((run n).net (choice (front (Clear r)) (d ∷ es)))

    -- a state that clears it
    is_reset : (e : Entry) → effect S (Clear r) k ≡ e ∷ [] → (run n).net e.condition ≡ 1 → (run n).net reset ≡ 1
    is_reset e only on = by_entries (entries S (Clear r)) refl reset_among where
      own : Has (entries S (Clear r)) e
      own = has_each (effect S (Clear r)) (state_count S) k e is.shows.low (subst (λ l. Has l e) (sym only) (inl refl))

      by_entries : (es : List Entry) → entries S (Clear r) ≡ es → IsAmong (reset_by r es) (all S) → (run n).net (reset_of r es) ≡ 1
      by_entries [] same among = absurd (subst (λ l. Has l e) same own)
      by_entries (d ∷ es) same among =
          reset_by_state d es among ∙ ap (λ l. (run n).net (choice (front (Clear r)) l)) (sym same) ∙ only_set S title run f n k is.shows.here is.shows.low (Clear r) zero_among e only on

    -- one that does not
    not_reset : ((d : Entry) → Has (effect S (Clear r) k) d → (run n).net d.condition ≡ 0) → (run n).net reset ≡ 0
    not_reset none = by_entries (entries S (Clear r)) refl reset_among where
      by_entries : (es : List Entry) → entries S (Clear r) ≡ es → IsAmong (reset_by r es) (all S) → (run n).net (reset_of r es) ≡ 0
      by_entries [] same among = runs
      by_entries (d ∷ es) same among =
          reset_by_state d es among ∙ ap (λ l. (run n).net (choice (front (Clear r)) l)) (sym same)
          ∙ any_off S title run f (Clear r) zero_among n k is.shows.here (subst (λ l. 0 < length l) (sym same) (omega arith)) none

    first_given : (es : List Entry) → (run n).net reset ≡ 1 → next_of es ≡ atom_value (run n) first
    first_given [] h = ap (λ z. cond (eqb z 1) (atom_value (run n) first) ((run n).net (name (Variable r)))) h
    first_given (d ∷ es) h = ap (λ z. cond (eqb z 1) (atom_value (run n) first) (cond (eqb ((run n).net set_root) 1) ((run n).net in_root) ((run n).net (name (Variable r))))) h

    -- without it a register is set where a condition says so
    no_reset : (d : Entry) (es : List Entry) → (run n).net reset ≡ 0 → next_of (d ∷ es) ≡ cond (eqb ((run n).net set_root) 1) ((run n).net in_root) ((run n).net (name (Variable r)))
    no_reset d es h = ap (λ z. cond (eqb z 1) (atom_value (run n) first) (cond (eqb ((run n).net set_root) 1) ((run n).net in_root) ((run n).net (name (Variable r))))) h

    -- a state that neither clears nor sets it, in this cycle
    unchanged : (run n).net reset ≡ 0 → effect S (Set r) k ≡ [] → (run (suc n)).net (name (Variable r)) ≡ old
    unchanged off none = goes ∙ by_entries (entries S (Set r)) refl ∙ old_is where
      by_entries : (es : List Entry) → entries S (Set r) ≡ es → next_of es ≡ (run n).net (name (Variable r))
      by_entries [] e = ap (λ z. cond (eqb z 1) (atom_value (run n) first) ((run n).net (name (Variable r)))) off
      by_entries (d ∷ es) e =
          no_reset d es off
          ∙ ap (λ z. cond (eqb z 1) ((run n).net in_root) ((run n).net (name (Variable r))))
          (none_clear S title run f n k is.shows.here is.shows.low (Set r) parts.1 (subst (λ l. 0 < length l) (sym e) (omega arith)) none)

    -- a state that gives another register a value or none
    kept : gives S r k (form_at S k) ≡ [] → (run (suc n)).net (name (Variable r)) ≡ old
    kept none =
        unchanged
        (not_reset (λ d h. absurd (subst (λ es. Has es d) (ap (with_number first) none) h)))
        (ap (without_number first) none)

    -- one that clears it
    cleared : (e : Entry) → effect S (Clear r) k ≡ e ∷ [] → effect S (Set r) k ≡ [] → (b : Bool) → (run n).net e.condition ≡ one_if b → (run (suc n)).net (name (Variable r)) ≡ cond b (atom_value (run n) first) old
    cleared e only none true on = goes ∙ first_given (entries S (Set r)) (is_reset e only on)
    cleared e only none false on = unchanged (not_reset (λ d h. subst (λ (z : Entry). (run n).net z.condition ≡ 0) (alone (effect S (Clear r) k) e d only h) on)) none

    -- one that sets it
    set_on : (e : Entry) → effect S (Clear r) k ≡ [] → effect S (Set r) k ≡ e ∷ [] → (b : Bool) → (run n).net e.condition ≡ one_if b → (run (suc n)).net (name (Variable r)) ≡ cond b (atom_value (run n) e.value) old
    set_on e none only b on = goes ∙ by_entries (entries S (Set r)) refl b on where
      off : (run n).net reset ≡ 0
      off = not_reset (λ d h. absurd (subst (λ es. Has es d) none h))

      own : Has (entries S (Set r)) e
      own = has_each (effect S (Set r)) (state_count S) k e is.shows.low (subst (λ l. Has l e) (sym only) (inl refl))

      by_entries : (es : List Entry) → entries S (Set r) ≡ es → (b : Bool) → (run n).net e.condition ≡ one_if b → next_of es ≡ cond b (atom_value (run n) e.value) old
      by_entries [] same b on = absurd (subst (λ l. Has l e) same own)
      by_entries (d ∷ es) same true on =
          no_reset d es off
          ∙ ap (λ z. cond (eqb z 1) ((run n).net in_root) ((run n).net (name (Variable r)))) (only_set S title run f n k is.shows.here is.shows.low (Set r) parts.1 e only on)
          ∙ only_picked S title run f n k is.shows.here is.shows.low (NextValue r) (bits_of (register_kind S r)) parts.2 e only on
      by_entries (d ∷ es) same false on =
          no_reset d es off
          ∙ ap (λ z. cond (eqb z 1) ((run n).net in_root) ((run n).net (name (Variable r)))) (only_clear S title run f n k is.shows.here is.shows.low (Set r) parts.1 e only on)
          ∙ old_is

    -- one that gives it a value
    set_by : (e : Entry) → gives S r k (form_at S k) ≡ e ∷ [] → (b : Bool) → (run n).net e.condition ≡ one_if b → (run (suc n)).net (name (Variable r)) ≡ cond b (atom_value (run n) e.value) old
    set_by e only b on = by_number (is_same_number e.value first) refl where
      by_number : (t : Bool) → is_same_number e.value first ≡ t → (run (suc n)).net (name (Variable r)) ≡ cond b (atom_value (run n) e.value) old
      by_number true t =
          cleared e (ap (with_number first) only ∙ ap (λ c. cond c (e ∷ []) []) t) (ap (without_number first) only ∙ ap (λ c. cond c [] (e ∷ [])) t) b on
          ∙ ap (λ z. cond b z old) (sym (same_number (run n) e.value first t))
      by_number false t = set_on e (ap (with_number first) only ∙ ap (λ c. cond c (e ∷ []) []) t) (ap (without_number first) only ∙ ap (λ c. cond c [] (e ∷ [])) t) b on

    low_var : r < length σ.vars
    low_var = subst (λ z. r < z) (sym is.sizes.vars) low

    -- register x gets a value where a condition says so
    set_at : (x : ℕ) (c : Net) (a : Atom) → gives S r k (form_at S k) ≡ at x r (entry c a) → (b : Bool) → (run n).net (name c) ≡ one_if b → (u : ℕ) → (b ≡ true → atom_value (run n) a ≡ u)
        → (run (suc n)).net (name (Variable r)) ≡ slice_index (cond b (set_var σ x u) σ).vars r
    set_at x c a some b on u is_u =
        ⊎_elim
        (λ (e : x ≡ r). set_by (record { condition = name c; value = a }) (some ∙ at_same x r (entry c a) e) b on ∙ var_same σ x r u b low_var e (atom_value (run n) a) is_u)
        (λ (e : x ≡ r → ⊥). kept (some ∙ at_other x r (entry c a) e) ∙ var_other σ x r u b e)
        (cases_eq x r)

    -- the register that gets a value, if there is one
    set_into : (into : Option ℕ) (c : Net) (a : Atom) → gives S r k (form_at S k) ≡ into_register into r (entry c a) → (b : Bool) → ((x : ℕ) → into ≡ Some x → (run n).net (name c) ≡ one_if b)
        → (u : ℕ) → (b ≡ true → atom_value (run n) a ≡ u) → (run (suc n)).net (name (Variable r)) ≡ slice_index (cond b (put_into σ into u) σ).vars r
    set_into None c a some b on u is_u = kept some ∙ ap (λ (τ : State). slice_index τ.vars r) (sym (same_cond b σ))
    set_into (Some x) c a some b on u is_u = set_at x c a some b (on x refl) u is_u

    stays : (g : StateForm) → form_at S k ≡ g → gives S r k g ≡ [] → (held_after (step g k σ) σ (found_by S run n (step g k σ))).vars ≡ σ.vars
        → (run (suc n)).net (name (Variable r)) ≡ slice_index (held_by S run n σ (step g k σ)).vars r
    stays g same none e = kept (ap (gives S r k) same ∙ none) ∙ same_part (λ (τ : State). slice_index τ.vars r) (allowed S run n (step g k σ)) (held_after (step g k σ) σ (found_by S run n (step g k σ))) σ (ap (λ l. slice_index l r) e)

    register_is : (g : StateForm) → form_at S k ≡ g → (run (suc n)).net (name (Variable r)) ≡ slice_index (held_by S run n σ (step g k σ)).vars r
    register_is (SetAt x e next) same =
        set_at x (At k) (value_wires S k).atom (ap (gives S r k) same) true at_one (value e σ) (λ h. (value_shown S title run f n (ranges_in S) σ k is.shows).value ∙ ap (λ z. value (value_of z) σ) same)
    register_is (ReadAt s into next) same =
        let g : IsInRange (ranges_in S) (ReadAt s into next) = subst (IsInRange (ranges_in S)) same is.shows.ranged in
        set_into into (Go k) (datum_of S s) (ap (gives S r k) same) (allowed S run n (step (ReadAt s into next) k σ))
        (λ x e. go_is S title run f cells n k σ is (ReadAt s into next) same (DatumNet s) refl refl)
        (found_by S run n (step (ReadAt s into next) k σ)) (read_value s g.0 into next)
    register_is (PeekAt s into next) same =
        let g : IsInRange (ranges_in S) (PeekAt s into next) = subst (IsInRange (ranges_in S)) same is.shows.ranged in
        set_into into (Go k) (datum_of S s) (ap (gives S r k) same) (allowed S run n (step (PeekAt s into next) k σ))
        (λ x e. go_is S title run f cells n k σ is (PeekAt s into next) same (DatumNet s) refl (ap is_some_register e))
        (found_by S run n (step (PeekAt s into next) k σ)) (peek_value s g.0 into next)
    register_is (EotAt s into next) same =
        let g : IsInRange (ranges_in S) (EotAt s into next) = subst (IsInRange (ranges_in S)) same is.shows.ranged in
        set_into into (Go k) (eot_of S s) (ap (gives S r k) same) (allowed S run n (step (EotAt s into next) k σ))
        (λ x e. go_is S title run f cells n k σ is (EotAt s into next) same (HasNet s) refl (ap is_some_register e))
        (found_by S run n (step (EotAt s into next) k σ)) (test_value s g.0 into next)
    register_is (LoadAt m i into next) same =
        set_into into (Go k) (net (Rdata m)) (ap (gives S r k) same) (bit_at run (Ack m) n)
        (λ x e. go_is S title run f cells n k σ is (LoadAt m i into next) same (Ack m) refl (ap is_some_register e))
        (cell σ.cells m (value i σ)) (load_value m i into next same)
    register_is (ClearAt a c next) same =
        set_at c (At k) (net (ValueNet k 2)) (ap (gives S r k) same) true at_one (cond (is_last σ a c) (slice_index σ.vars c + 1) 0) (λ h. counter_value a c next same)
        ∙ clear_sets S run n k a c next r σ (is_last σ a c)
    register_is form same = stays form same refl refl

pub registers_are_held : RegistersAreHeld
registers_are_held S title run f ms fit cells n k σ is runs r low = register_is S title run f cells n k σ is ms fit runs r low (form_at S k) refl
