-- What is held in a cycle, and in the first two.
use Rattle.std.proofs.Common.{◌≡◌, ℕ, zero, suc, ◌<◌, ◌≤◌, Bool, true, false, cond, eqb, List, [], ◌∷◌, ◌++◌, length, Some, inl, refl, sym, ap, subst, ◌∙◌, arith, ⊎_elim}
use Rattle.std.specs.Prelude.{nat_lt, slice_get, slice_index, bit_or}
use Rattle.std.proofs.lemmas.Nat.{pow_pos}
use Rattle.std.proofs.lemmas.Bool.{cases_lt, lt-ltb, le-ltb, eqb-true}
use Rattle.tapa_base.specs.Kinds.{bits_of, values_of}
use Rattle.kahn_model.specs.Trace.{State, cell, cells_of}
use Rattle.vlog_tree.specs.declared.tree.Atom.{Atom}
use Rattle.vlog_tree.specs.declared.tree.Atom.TheVariants.{Net as NetAtom}
use Rattle.vlog_tree.specs.declared.tree.BinaryOp.TheVariants.{Or}
use Rattle.vlog_tree.specs.declared.tree.Value.TheVariants.{Binary}
use Rattle.vlog_tree.specs.declared.tree.Item.TheVariants.{Reg, Memory as MemoryLine}
use Rattle.vlog_tree.specs.Form.{ModuleTree}
use Rattle.tapa_base.specs.Lists.{Has}
use Rattle.vlog_tree.specs.Labels.{rst}
use Rattle.vlog_tree.specs.Table.{Name}
use Rattle.vlog_tree.specs.Cycle.{Cycle, Follows, atom_value}
use Rattle.vlog_module_laws.proofs.Lines.{line}
use Rattle.hw_build.specs.Elements.{Register, built}
use Rattle.hw_build.specs.Fitting.{AreFitting}
use Rattle.hw_build.proofs.Driven.{line_there, wire_driven}
use Rattle.hw_build.specs.Scope.{each}
use Rattle.hw_build.specs.Fits.{IsAmong}
use Rattle.hw_build.specs.Choices.{Entry, any_elements, choice}
use Rattle.hw_build.proofs.Parts.{of_each}
use Rattle.hw_build.proofs.Picks.{any_clear, any_low}
use Rattle.task_fsm.specs.Machine.{TrapAt}
use Rattle.task_fsm.specs.MachineKinds.{HoldsValues}
use Rattle.task_fsm.specs.Run.{step, step_at}
use Rattle.task_fsm.proofs.Steps.{step_fits, typed_at}
use Rattle.hw_lines.specs.declared.nets.Choice.TheVariants.{Set, NextValue, Stores, ToState, ToEnd, Clear}
use Rattle.hw_lines.specs.declared.nets.Net.TheVariants.{State as StateNet, Scalar, Variable, Array, Reset}
use Rattle.hw_lines.specs.Nets.{name, front}
use Rattle.hw_lines.specs.Shape.{Shape, kinds_in, array_kind, array_cells, register_kind, state_count, state_bits, form_at}
use Rattle.hw_lines.specs.States.{net}
use Rattle.hw_lines.specs.Effects.{effect, entries, first_by, first_value}
use Rattle.hw_lines.specs.Texts.{root, task_elements, any, pick, variable_choices, array_choices, reset_of, reset_by}
use Rattle.hw_lines.specs.Runs.{number_at, array_at, held_at, first_of, StandsAround}
use Rattle.hw_lines.proofs.Members.{all, among_left, among_right, among_each, choices_in}
use Rattle.hw_lines.proofs.Decodes.{own, others_off, conditions_low}
use Rattle.hw_task_laws.specs.acts.Moves.{set_next}
use Rattle.hw_task_laws.proofs.acts.Answered.{some_length, variable_there}
use Rattle.hw_task_laws.proofs.acts.Moves.{registers_go_on}
use Rattle.hw_task_laws.specs.steps.Steps.{ranges_in, HasSizes, IsAt}
use Rattle.hw_task_laws.specs.effects.Held.{held_by}
use Rattle.hw_task_laws.proofs.effects.Arrays.{memory_line, parts, left, arrays_are_held}
use Rattle.hw_task_laws.specs.runs.Machines.{IsMachine}
use Rattle.hw_task_laws.proofs.runs.Lists.{ones_length, ones_at, ones_past, got_form}
use Rattle.hw_task_laws.proofs.runs.Kept.{values_kept, ranged_at}

module _ (S : Shape) (run : ℕ → Cycle) (cells : ℕ → List (List ℕ)) where
  abbrev held : ℕ → State
  held n = held_at S run cells n

  pub held_sizes : (n : ℕ) → HasSizes S (held n)
  held_sizes n = record {
    vars = ones_length (λ r. number_at run (Variable r) n) (length S.registers);
    arrays = ones_length (array_at S run n) (length S.arrays);
    rows = λ a l. ap (λ (z : List ℕ). length z) (ones_at (array_at S run n) (length S.arrays) a [] l) ∙ ones_length (λ i. (run n).cell (name (Array a)) i) (array_cells S a);
  }

  pub var_at : (n r : ℕ) → r < length S.registers → slice_index (held n).vars r ≡ number_at run (Variable r) n
  var_at n r l = ones_at (λ x. number_at run (Variable x) n) (length S.registers) r 0 l

  row_at : (n a i : ℕ) → a < length S.arrays → cell (held n).arrays a i ≡ slice_index (array_at S run n a) i
  row_at n a i l = ap (λ (z : List ℕ). slice_index z i) (ones_at (array_at S run n) (length S.arrays) a [] l)

  cell_at : (n a i : ℕ) → a < length S.arrays → i < array_cells S a → cell (held n).arrays a i ≡ (run n).cell (name (Array a)) i
  cell_at n a i l m = row_at n a i l ∙ ones_at (λ j. (run n).cell (name (Array a)) j) (array_cells S a) i 0 m

  cell_past : (n a i : ℕ) → a < length S.arrays → array_cells S a ≤ i → cell (held n).arrays a i ≡ 0
  cell_past n a i l m = row_at n a i l ∙ ones_past (λ j. (run n).cell (name (Array a)) j) (array_cells S a) i 0 m

  row_past : (n a i : ℕ) → length S.arrays ≤ a → cell (held n).arrays a i ≡ 0
  row_past n a i l = ap (λ (z : List ℕ). slice_index z i) (ones_past (array_at S run n) (length S.arrays) a [] l)

  module _ (machine : IsMachine S) (around : StandsAround S run cells) where
    few_cells : (n a : ℕ) → cells_of (held n) a ≤ 4096
    few_cells n a =
        ⊎_elim (λ (l : a < length S.arrays). subst (λ z. z ≤ 4096) (sym ((held_sizes n).rows a l)) (machine.cells a))
        (λ (l : length S.arrays ≤ a). subst (λ z. z ≤ 4096) (sym (ap (λ (z : List ℕ). length z) (ones_past (array_at S run n) (length S.arrays) a [] l))) (omega arith)) (cases_lt a (length S.arrays))

    -- values of their kinds
    pub values_held : (n : ℕ) → ((r : ℕ) → r < length S.registers → number_at run (Variable r) n < values_of (register_kind S r))
        → ((a i : ℕ) → a < length S.arrays → i < array_cells S a → (run n).cell (name (Array a)) i < values_of (array_kind S a)) → HoldsValues (kinds_in S) (held n)
    values_held n p q = record {
      vars = λ x. ⊎_elim (λ (l : x < length S.registers). subst (λ z. z < values_of (register_kind S x)) (sym (var_at n x l)) (p x l)) (λ (l : length S.registers ≤ x). subst (λ z. z < values_of (register_kind S x)) (sym (ones_past (λ y. number_at run (Variable y) n) (length S.registers) x 0 l)) (pow_pos (bits_of (register_kind S x)))) (cases_lt x (length S.registers));
      arrays = λ a i. in_array a i;
      cells = λ m i. around.fit n m i;
      few = few_cells n;
    } where
      in_row : (a i : ℕ) → a < length S.arrays → cell (held n).arrays a i < values_of (array_kind S a)
      in_row a i l =
          ⊎_elim (λ (m : i < array_cells S a). subst (λ z. z < values_of (array_kind S a)) (sym (cell_at n a i l m)) (q a i l m))
          (λ (m : array_cells S a ≤ i). subst (λ z. z < values_of (array_kind S a)) (sym (cell_past n a i l m)) (pow_pos (bits_of (array_kind S a)))) (cases_lt i (array_cells S a))

      in_array : (a i : ℕ) → cell (held n).arrays a i < values_of (array_kind S a)
      in_array a i =
          ⊎_elim (λ (l : a < length S.arrays). in_row a i l)
          (λ (l : length S.arrays ≤ a). subst (λ z. z < values_of (array_kind S a)) (sym (row_past n a i l)) (pow_pos (bits_of (array_kind S a)))) (cases_lt a (length S.arrays))

module _ (S : Shape) (title : Name) (run : ℕ → Cycle) (f : Follows (built title (task_elements S)) run) (cells : ℕ → List (List ℕ)) (machine : IsMachine S) (around : StandsAround S run cells) where
  abbrev σ : ℕ → State
  σ n = held_at S run cells n

  abbrev place : ℕ → ℕ
  place n = number_at run StateNet n

  register_line : (r : ℕ) → r < length S.registers → Has (built title (task_elements S)).items (Reg (bits_of (register_kind S r)) (name (Variable r)))
  register_line r l =
      line_there title (task_elements S) (Register (bits_of (register_kind S r)) (name (Variable r))) (Reg (bits_of (register_kind S r)) (name (Variable r)))
      (variable_there S r l) (inl refl)

  got : (n : ℕ) → place n < state_count S → slice_get S.states (place n) ≡ Some (form_at S (place n))
  got n low = got_form S.states (place n) TrapAt (omega (arith, low))

  -- the step of the place in which the machine is
  pub step_is : (n : ℕ) → place n < state_count S → step_at (slice_get S.states (place n)) (place n) (σ n) ≡ step (form_at S (place n)) (place n) (σ n)
  step_is n low = ap (λ o. step_at o (place n) (σ n)) (got n low)

  array_shown : (n a i : ℕ) → a < length S.arrays → cell (σ n).arrays a i ≡ cond (nat_lt i (array_cells S a)) ((run n).cell (name (Array a)) i) 0
  array_shown n a i l =
      ⊎_elim (λ (m : i < array_cells S a). cell_at S run cells n a i l m ∙ ap (λ b. cond b ((run n).cell (name (Array a)) i) 0) (sym (lt-ltb i (array_cells S a) m)))
      (λ (m : array_cells S a ≤ i). cell_past S run cells n a i l m ∙ ap (λ b. cond b ((run n).cell (name (Array a)) i) 0) (sym (le-ltb i (array_cells S a) m))) (cases_lt i (array_cells S a))

  pub is_at : (n : ℕ) → HoldsValues (kinds_in S) (σ n) → place n < state_count S → IsAt S run f.sizes cells n (place n) (σ n)
  is_at n fits low = record {
    shows = record {
      fits = fits;
      registers = λ r l. record { whole = tt; width = (line (built title (task_elements S)) run f (Reg (bits_of (register_kind S r)) (name (Variable r))) (register_line r l)).holds n; value = sym (var_at S run cells n r l) };
      arrays = array_shown n;
      within = omega arith;
      few = machine.cells;
      here = refl;
      low = low;
      typed = typed_at (kinds_in S) S.states (place n) (form_at S (place n)) machine.typed (got n low);
      ranged = ranged_at (ranges_in S) S.states (place n) (form_at S (place n)) machine.ranged (got n low);
    };
    sizes = held_sizes S run cells n;
    outside = refl;
    around = around;
  }

  pub fits_after : (n : ℕ) → HoldsValues (kinds_in S) (σ n) → place n < state_count S → HoldsValues (kinds_in S) (held_by S run n (σ n) (step (form_at S (place n)) (place n) (σ n)))
  fits_after n fits low =
      let is = is_at n fits low in
      values_kept S run n (step (form_at S (place n)) (place n) (σ n)) (σ n) (step_fits (kinds_in S) (form_at S (place n)) (place n) (σ n) is.shows.typed fits) fits

  -- ---- the cycle of reset, and the one behind it

  module _ (ms : List ModuleTree) (fit : AreFitting ms (task_elements S)) where
    powered_var : (r : ℕ) → r < length S.registers → number_at run (Variable r) 0 < values_of (register_kind S r)
    powered_var r l = (line (built title (task_elements S)) run f (Reg (bits_of (register_kind S r)) (name (Variable r))) (register_line r l)).powers_up

    powered_cell : (a i : ℕ) → a < length S.arrays → i < array_cells S a → (run 0).cell (name (Array a)) i < values_of (array_kind S a)
    powered_cell a i l m =
        (line (built title (task_elements S)) run f (MemoryLine (bits_of (array_kind S a)) (name (Array a)) (array_cells S a)) (memory_line S title run f ms fit machine.few 0 a i l m)).powers_up i m

    fits_at_reset : HoldsValues (kinds_in S) (σ 0)
    fits_at_reset = values_held S run cells machine around 0 powered_var powered_cell

    first_choice : (b : Bool) (i v : ℕ) (a : Atom) → atom_value (run 0) a ≡ v → atom_value (run 0) (cond b (net (Scalar i)) a) ≡ cond b (number_at run (Scalar i) 0) v
    first_choice true i v a e = refl
    first_choice false i v a e = e

    first_is : (r m : ℕ) → atom_value (run 0) (first_by S r m) ≡ first_of S run r m
    first_is r zero = refl
    first_is r (suc m) = first_choice (eqb (slice_index S.scalars m) r) m (first_of S run r m) (first_by S r m) (first_is r m)

    first_of_port : (r m : ℕ) → m < length S.scalars → first_of S run r m < values_of (register_kind S r) → (b : Bool) → eqb (slice_index S.scalars m) r ≡ b
        → cond b (number_at run (Scalar m) 0) (first_of S run r m) < values_of (register_kind S r)
    first_of_port r m h rest true e =
        subst (λ z. number_at run (Scalar m) 0 < values_of (register_kind S z)) (eqb-true (slice_index S.scalars m) r e) (around.scalars 0 m (slice_index S.scalars m) (got_form S.scalars m 0 h))
    first_of_port r m h rest false e = rest

    first_low : (r m : ℕ) → m ≤ length S.scalars → first_of S run r m < values_of (register_kind S r)
    first_low r zero h = pow_pos (bits_of (register_kind S r))
    first_low r (suc m) h = first_of_port r m h (first_low r m (omega (arith, h))) (eqb (slice_index S.scalars m) r) refl

    -- in the cycle of reset the net that resets a register is 1, whatever state there is
    one_or : (q : ℕ) → q < 2 → bit_or 1 q ≡ 1
    one_or zero h = refl
    one_or (suc zero) h = refl
    one_or (suc (suc q)) h = absurd (omega arith)

    reset_first : (r : ℕ) (es : List Entry) → entries S (Clear r) ≡ es → IsAmong (any_elements (front (Clear r)) es) (all S) → IsAmong (reset_by r es) (all S) → (run 0).net (reset_of r es) ≡ 1
    reset_first r [] same clears resets = around.reset
    reset_first r (e ∷ es) same clears resets =
        let clear = choice (front (Clear r)) (e ∷ es) in
        let low : (run 0).net clear < 2 =
        any_low title (task_elements S) run f (front (Clear r)) (e ∷ es) clears 0 (omega arith)
        (λ d h.
        let c = of_each (effect S (Clear r)) (state_count S) d (subst (λ l. Has l d) (sym same) h) in
        conditions_low S title run f 0 c.0 c.1 d.condition (own S c.0 c.1 (Clear r) d c.2)) in
        wire_driven title (task_elements S) run f 1 (name (Reset r)) (Binary (NetAtom rst) Or (NetAtom clear)) (resets _ (inl refl)) 0 ∙ ap (λ z. bit_or z ((run 0).net clear)) around.reset ∙ one_or ((run 0).net clear) low

    clear_wires_in : (r : ℕ) → r < length S.registers → IsAmong (any S (Clear r) ++ reset_by r (entries S (Clear r))) (all S)
    clear_wires_in r l =
        let early = any S (Clear r) ++ reset_by r (entries S (Clear r)) in
        among_left early (any S (Set r)) (all S)
        (among_left (early ++ any S (Set r)) (pick S (bits_of (register_kind S r)) (NextValue r)) (all S)
        (among_each (variable_choices S) (length S.registers) r (all S) l
        (among_right (pick S (state_bits S) ToState ++ any S ToEnd) (each (variable_choices S) (length S.registers)) (all S)
        (among_left ((pick S (state_bits S) ToState ++ any S ToEnd) ++ each (variable_choices S) (length S.registers)) (each (array_choices S) (length S.arrays)) (all S) (choices_in S)))))

    reset_is_one : (r : ℕ) → r < length S.registers → (run 0).net (reset_of r (entries S (Clear r))) ≡ 1
    reset_is_one r l =
        let es = entries S (Clear r) in
        reset_first r es refl (among_left (any S (Clear r)) (reset_by r es) (all S) (clear_wires_in r l)) (among_right (any S (Clear r)) (reset_by r es) (all S) (clear_wires_in r l))

    set_first : (reset : Name) (r : ℕ) (es : List Entry) → (run 0).net reset ≡ 1
        → set_next es (run 0) reset (name (Variable r)) (first_value S r) (root S (Set r)) (root S (NextValue r)) ≡ atom_value (run 0) (first_value S r)
    set_first reset r [] h = ap (λ z. cond (eqb z 1) (atom_value (run 0) (first_value S r)) ((run 0).net (name (Variable r)))) h
    set_first reset r (e ∷ es) h =
        ap (λ z. cond (eqb z 1) (atom_value (run 0) (first_value S r)) (cond (eqb ((run 0).net (root S (Set r))) 1) ((run 0).net (root S (NextValue r))) ((run 0).net (name (Variable r))))) h

    pub first_var : (r : ℕ) → r < length S.registers → number_at run (Variable r) 1 ≡ first_of S run r (length S.scalars)
    first_var r l = registers_go_on S title run f ms fit 0 r l ∙ set_first (reset_of r (entries S (Clear r))) r (entries S (Set r)) (reset_is_one r l) ∙ first_is r (length S.scalars)

    -- arrays hold values of their kinds also behind the cycle of reset
    first_cell : (a i : ℕ) → a < length S.arrays → i < array_cells S a → (run 1).cell (name (Array a)) i < values_of (array_kind S a)
    first_cell a i l m =
        ⊎_elim
        (λ (low : place 0 < state_count S).
        subst (λ z. z < values_of (array_kind S a)) (sym (arrays_are_held S title run f ms fit machine.few cells 0 (place 0) (σ 0) (is_at 0 fits_at_reset low) a i l m)) ((fits_after 0 fits_at_reset low).arrays a i))
        (λ (high : state_count S ≤ place 0).
        subst (λ z. z < values_of (array_kind S a))
        (sym (left S title run f ms fit machine.few 0 a i l m (λ e h. none_on high (some_length (entries S (Stores a)) e h)))) (powered_cell a i l m))
        (cases_lt (place 0) (state_count S)) where
          none_on : state_count S ≤ place 0 → 0 < length (entries S (Stores a)) → (run 0).net (root S (Stores a)) ≡ 0
          none_on high some =
              any_clear title (task_elements S) run f (front (Stores a)) (entries S (Stores a)) (parts S title run f ms fit machine.few 0 a i l m).0 0 some
              (λ d h.
              let r = of_each (effect S (Stores a)) (state_count S) d h in
              let k = r.0 in
              let low : k < state_count S = r.1 in
              others_off S title run f 0 k low (λ s. absurd (omega (arith, s, low, high))) d.condition (own S k low (Stores a) d r.2))

    pub fits_first : HoldsValues (kinds_in S) (σ 1)
    fits_first = values_held S run cells machine around 1 (λ r l. subst (λ z. z < values_of (register_kind S r)) (sym (first_var r l)) (first_low r (length S.scalars) (omega arith))) first_cell
