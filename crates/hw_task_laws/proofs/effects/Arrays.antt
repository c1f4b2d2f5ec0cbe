-- What arrays have in the next cycle.
use Rattle.std.proofs.Common.{◌≡◌, ℕ, suc, ◌-◌, ◌^◌, ◌<◌, ◌≤◌, Bool, true, false, cond, eqb, ltb, ◌&&◌, ◌||◌, List, [], ◌∷◌, ◌++◌, length, Option, Some, None, inl, inr, refl, sym, ap, subst, ◌∙◌, arith, ⊎_elim}
use Rattle.std.specs.Prelude.{nat_lt, bit_and, slice_index, slice_index_or, slice_set}
use Rattle.std.specs.List.{list_any}
use Rattle.std.proofs.Math.Nat.{mod-eq_of_lt}
use Rattle.std.proofs.lemmas.Bool.{cases_eq, eq-eqb, ne_eqb, ltb-true, ltb-false, lt-ltb}
use Rattle.std.proofs.lemmas.List.{get_or-set_same, get_or-set_other, set_past}
use Rattle.tapa_base.specs.declared.kind.Kind.TheVariants.{U64}
use Rattle.tapa_base.specs.Kinds.{bits_of}
use Rattle.kahn_model.specs.Trace.{State, cell, with_cell, cells_of}
use Rattle.vlog_tree.specs.declared.tree.Atom.{Atom}
use Rattle.vlog_tree.specs.declared.tree.Atom.TheVariants.{Net as NetAtom, Literal}
use Rattle.vlog_tree.specs.declared.tree.BinaryOp.TheVariants.{And, Less}
use Rattle.vlog_tree.specs.declared.tree.Value.{Value}
use Rattle.vlog_tree.specs.declared.tree.Value.TheVariants.{Binary}
use Rattle.vlog_tree.specs.declared.tree.Step.{Step}
use Rattle.vlog_tree.specs.declared.tree.Item.TheVariants.{Memory as MemoryLine}
use Rattle.vlog_tree.specs.Form.{ModuleTree}
use Rattle.tapa_base.specs.Lists.{Has}
use Rattle.vlog_tree.specs.Labels.{rst}
use Rattle.vlog_tree.specs.Table.{Name, one_if}
use Rattle.vlog_tree.specs.Cycle.{Cycle, Follows, atom_value}
use Rattle.vlog_tree.specs.V4.{step_assigns}
use Rattle.tapa_base.proofs.Lists.{has_flat}
use Rattle.vlog_module_laws.specs.Blocks.{IsOwnBlock}
use Rattle.vlog_module_laws.proofs.Blocks.{items_leave}
use Rattle.vlog_module_laws.proofs.Lines.{line}
use Rattle.hw_build.specs.Elements.{Element, Wire, Memory, Block, built, reset_or, stored}
use Rattle.hw_build.specs.Fitting.{AreFitting, stored_names}
use Rattle.hw_build.proofs.Driven.{wire_driven, line_there, cells_declared, block_is_own}
use Rattle.hw_build.proofs.Meaning.{stored_is}
use Rattle.hw_build.specs.Scope.{each}
use Rattle.hw_build.specs.Choices.{Entry}
use Rattle.hw_build.specs.Fits.{IsAmong}
use Rattle.hw_build.proofs.Parts.{has_each}
use Rattle.task_fsm.specs.Machine.{Expression, StateForm, CellAt, ReadAt, PeekAt, EotAt, LoadAt, ClearAt}
use Rattle.task_fsm.specs.MachineKinds.{IsOfKind, IsTypedState}
use Rattle.task_fsm.specs.Ranges.{IsInRange}
use Rattle.task_fsm.specs.Run.{value, step, put_into, is_last, clear_step}
use Rattle.hw_lines.specs.declared.nets.Choice.TheVariants.{ToState, ToEnd, Stores, WriteIndex, WriteData}
use Rattle.hw_lines.specs.declared.nets.Net.{Net}
use Rattle.hw_lines.specs.declared.nets.Net.TheVariants.{State as StateNet, Ended, Variable, Array, At, Inside, Into}
use Rattle.hw_lines.specs.Nets.{name}
use Rattle.hw_lines.specs.Shape.{Shape, kinds_in, array_kind, array_cells, index_bits, register_kind, state_count, state_bits, form_at}
use Rattle.hw_lines.specs.Drivers.{low_bits}
use Rattle.hw_lines.specs.States.{net, index_of, value_of, index_wires, value_wires, into_of, counting, more_wires}
use Rattle.hw_lines.specs.Effects.{entry, at, places, contents, effect, entries}
use Rattle.hw_lines.specs.Texts.{any, pick, root, variable_choices, array_choices, register_block, variable_block, array_block, task_elements}
use Rattle.hw_lines.specs.After.{held_after}
use Rattle.hw_lines.proofs.Members.{all, choices_in, blocks_in, more_in, among_right, among_each}
use Rattle.hw_lines.proofs.Decodes.{at_here}
use Rattle.hw_task_laws.specs.wires.Shows.{Shows}
use Rattle.hw_task_laws.proofs.wires.Shown.{low_bits_is}
use Rattle.hw_task_laws.proofs.acts.Answered.{among_three, has_bits, some_length, array_there, value_shown, index_shown, not_none}
use Rattle.hw_task_laws.proofs.acts.Moves.{only_picked, only_set, only_clear, none_clear}
use Rattle.hw_task_laws.specs.steps.Steps.{ranges_in, allowed, found_by, IsAt}
use Rattle.hw_task_laws.proofs.steps.Allowed.{one_and}
use Rattle.hw_task_laws.specs.effects.Held.{held_by, HasFew, ArraysAreHeld}
use Rattle.hw_task_laws.proofs.effects.Outs.{at_same, at_other}
use Rattle.hw_task_laws.proofs.effects.Memories.{same_part}
use Rattle.hw_task_laws.proofs.effects.Blocks.{no_block}
use Rattle.vlog_module_laws.proofs.Forms.{itself as same_name}
use Rattle.hw_task_laws.proofs.form.Task.{fits_bits}

-- ---- one cell of rows of cells

row_here : (rows : List (List ℕ)) (a : ℕ) (row : List ℕ) (i : ℕ) → a < length rows → slice_index (slice_index_or (slice_set rows a row) a []) i ≡ slice_index row i
row_here rows a row i h = ap (λ (l : List ℕ). slice_index l i) (get_or-set_same rows a row [] h)

cell_put : (rows : List (List ℕ)) (a i j v : ℕ) → a < length rows → j < length (slice_index_or rows a []) → cond (eqb i j) v (cell rows a i) ≡ cell (with_cell rows a j v) a i
cell_put rows a i j v h l =
    let row = slice_index_or rows a [] in
    ⊎_elim
    (λ (e : i ≡ j). ap (λ b. cond b v (cell rows a i)) (eq-eqb i j e) ∙ sym (row_here rows a (slice_set row j v) i h ∙ ap (slice_index (slice_set row j v)) e ∙ get_or-set_same row j v 0 l))
    (λ (e : i ≡ j → ⊥). ap (λ b. cond b v (cell rows a i)) (ne_eqb i j e) ∙ sym (row_here rows a (slice_set row j v) i h ∙ get_or-set_other row j i v 0 e))
    (cases_eq i j)

cell_past : (rows : List (List ℕ)) (a i j v : ℕ) → a < length rows → length (slice_index_or rows a []) ≤ j → cell rows a i ≡ cell (with_cell rows a j v) a i
cell_past rows a i j v h l =
    let row = slice_index_or rows a [] in
    sym (row_here rows a (slice_set row j v) i h ∙ ap (λ (z : List ℕ). slice_index z i) (set_past row j v l))

cell_other : (rows : List (List ℕ)) (y a i j v : ℕ) → (y ≡ a → ⊥) → cell rows a i ≡ cell (with_cell rows y j v) a i
cell_other rows y a i j v ne = sym (ap (λ (z : List ℕ). slice_index z i) (get_or-set_other rows y a (slice_set (slice_index_or rows y []) j v) [] (λ e. ne (sym e))))

stores_it : (x : Name) (write index : Name) (value : Atom) → list_any (step_assigns x) (stored x write index value) ≡ true
stores_it x write index value = ap (λ b. b || false) (same_name x)

into_there : (S : Shape) (k a : ℕ) (p : Atom) (bits : ℕ) (more : List Element) → Has (into_of S k a p bits ++ more) (Wire 1 (name (Into k)) (Binary (net (At k)) And (net (Inside k))))
into_there S k a p bits more = inr (inl refl)

inside_there : (S : Shape) (k a : ℕ) (p : Atom) (bits : ℕ) (more : List Element) → Has (into_of S k a p bits ++ more) (Wire 1 (name (Inside k)) (Binary p Less (Literal bits (array_cells S a))))
inside_there S k a p bits more = inl refl

true_behind : (b : Bool) → (true && b && true) ≡ b
true_behind true = refl
true_behind false = refl

into_arrays : (σ : State) (into : Option ℕ) (v : ℕ) → (put_into σ into v).arrays ≡ σ.arrays
into_arrays σ None v = refl
into_arrays σ (Some r) v = refl

clear_cells : (S : Shape) (run : ℕ → Cycle) (n k y c next a i : ℕ) (σ : State) (b : Bool) → cell (with_cell σ.arrays y (slice_index σ.vars c) 0) a i ≡ cell (held_by S run n σ (clear_step b y c k next σ)).arrays a i
clear_cells S run n k y c next a i σ true = refl
clear_cells S run n k y c next a i σ false = refl

-- ---- one cell of one array, and its block

module _ (S : Shape) (title : Name) (run : ℕ → Cycle) (f : Follows (built title (task_elements S)) run) (ms : List ModuleTree) (fit : AreFitting ms (task_elements S)) (few : HasFew S) (n a i : ℕ)
    (there : a < length S.arrays) (inside : i < array_cells S a) where
  abbrev kind_bits : ℕ
  kind_bits = bits_of (array_kind S a)

  abbrev write : Name
  write = root S (Stores a)

  abbrev spot : Name
  spot = root S (WriteIndex a)

  abbrev content : Name
  content = root S (WriteData a)

  abbrev block : List Step
  block = stored (name (Array a)) write spot (NetAtom content)

  pub memory_line : Has (built title (task_elements S)).items (MemoryLine kind_bits (name (Array a)) (array_cells S a))
  memory_line = line_there title (task_elements S) (Memory kind_bits (name (Array a)) (array_cells S a)) (MemoryLine kind_bits (name (Array a)) (array_cells S a)) (array_there S a there) (inl refl)

  cells_are : f.sizes.cells (name (Array a)) ≡ array_cells S a
  cells_are = cells_declared title (task_elements S) run f kind_bits (name (Array a)) (array_cells S a) (array_there S a there)

  -- the choices
  pub parts : IsAmong (any S (Stores a)) (all S) × IsAmong (pick S (index_bits S a) (WriteIndex a)) (all S) × IsAmong (pick S kind_bits (WriteData a)) (all S)
  parts =
      among_three (any S (Stores a)) (pick S (index_bits S a) (WriteIndex a)) (pick S kind_bits (WriteData a)) (all S)
      (among_each (array_choices S) (length S.arrays) a (all S) there
      (among_right ((pick S (state_bits S) ToState ++ any S ToEnd) ++ each (variable_choices S) (length S.registers)) (each (array_choices S) (length S.arrays)) (all S) (choices_in S)))

  -- the block, where a state stores
  block_there : (e : Entry) → Has (entries S (Stores a)) e → Has (all S) (Block block)
  block_there e h =
      among_each (array_block S) (length S.arrays) a (all S) there
      (among_right
      ((Block (reset_or (name StateNet) (Literal (state_bits S) 0) (NetAtom (root S ToState))) ∷ Block (register_block rst (name Ended) (Literal 1 0) (entries S ToEnd) (root S ToEnd) (Literal 1 1)) ∷ [])
      ++ each (variable_block S) (length S.registers))
      (each (array_block S) (length S.arrays)) (all S) (blocks_in S))
      (Block block) (subst (λ es. Has es (Block block)) (sym (not_none (entries S (Stores a)) e (Block block ∷ []) h)) (inl refl))

  own : (e : Entry) → Has (entries S (Stores a)) e → IsOwnBlock (built title (task_elements S)).items (name (Array a)) block
  own e h =
      block_is_own ms title (task_elements S) fit block (name (Array a)) (block_there e h)
      (has_flat stored_names (task_elements S) (Memory kind_bits (name (Array a)) (array_cells S a)) (name (Array a)) (array_there S a there) (inl refl)) (stores_it (name (Array a)) write spot (NetAtom content))

  stores : (e : Entry) → Has (entries S (Stores a)) e
      → (run (suc n)).cell (name (Array a)) i
      ≡ cond (eqb ((run n).net write) 1 && eqb i ((run n).net spot) && ltb ((run n).net spot) (f.sizes.cells (name (Array a)))) ((run n).net content) ((run n).cell (name (Array a)) i)
  stores e h = stored_is (built title (task_elements S)) run f kind_bits (name (Array a)) (array_cells S a) write spot (NetAtom content) memory_line (own e h) n i inside

  -- where nothing is stored
  pub left : ((e : Entry) → Has (entries S (Stores a)) e → (run n).net write ≡ 0) → (run (suc n)).cell (name (Array a)) i ≡ (run n).cell (name (Array a)) i
  left clear = by_entries (entries S (Stores a)) refl where
    by_entries : (es : List Entry) → entries S (Stores a) ≡ es → (run (suc n)).cell (name (Array a)) i ≡ (run n).cell (name (Array a)) i
    by_entries [] e =
        (line (built title (task_elements S)) run f (MemoryLine kind_bits (name (Array a)) (array_cells S a)) memory_line).takes n i inside
        ∙ (items_leave f.sizes (run n) (name (Array a)) (built title (task_elements S)).items (run n) (no_block S title few a there e)).cells i
    by_entries (d ∷ es) e =
        let h : Has (entries S (Stores a)) d = subst (λ l. Has l d) (sym e) (inl refl) in
        stores d h
        ∙ ap (λ z. cond (eqb z 1 && eqb i ((run n).net spot) && ltb ((run n).net spot) (f.sizes.cells (name (Array a)))) ((run n).net content) ((run n).cell (name (Array a)) i)) (clear d h)

module _ (S : Shape) (title : Name) (run : ℕ → Cycle) (f : Follows (built title (task_elements S)) run) (cells : ℕ → List (List ℕ)) (n k : ℕ) (σ : State) (is : IsAt S run f.sizes cells n k σ) where
  -- whether an index is one of an array's
  into_is : (g : StateForm) → form_at S k ≡ g → (y : ℕ) (p : Atom) (bits j : ℕ) (more : List Element) → more_wires S k g ≡ into_of S k y p bits ++ more → atom_value (run n) p ≡ j
      → (run n).net (name (Into k)) ≡ one_if (nat_lt j (array_cells S y))
  into_is g same y p bits j more text shown =
      let there : (w : ℕ) (x : Name) (d : Value) → Has (into_of S k y p bits ++ more) (Wire w x d) → Has (all S) (Wire w x d) =
      λ w x d h. more_in S k is.shows.low (Wire w x d) (subst (λ z. Has (more_wires S k z) (Wire w x d)) (sym same) (subst (λ es. Has es (Wire w x d)) (sym text) h)) in
      let inside : (run n).net (name (Inside k)) ≡ one_if (nat_lt j (array_cells S y)) =
      wire_driven title (task_elements S) run f 1 (name (Inside k)) (Binary p Less (Literal bits (array_cells S y))) (there 1 (name (Inside k)) (Binary p Less (Literal bits (array_cells S y))) (inside_there S k y p bits more)) n
      ∙ ap (λ z. one_if (nat_lt z (array_cells S y))) shown in
      wire_driven title (task_elements S) run f 1 (name (Into k)) (Binary (net (At k)) And (net (Inside k))) (there 1 (name (Into k)) (Binary (net (At k)) And (net (Inside k))) (into_there S k y p bits more)) n
      ∙ ap (λ z. bit_and z ((run n).net (name (Inside k)))) (at_here S title run f n k is.shows.low is.shows.here) ∙ ap (bit_and 1) inside ∙ one_and (nat_lt j (array_cells S y))

  -- ---- one cell of one array

  module _ (ms : List ModuleTree) (fit : AreFitting ms (task_elements S)) (few : HasFew S) (a i : ℕ) (there : a < length S.arrays) (inside : i < array_cells S a) where
    abbrev old : ℕ
    old = (run n).cell (name (Array a)) i

    old_is : old ≡ cell σ.arrays a i
    old_is = sym (is.shows.arrays a i there ∙ ap (λ b. cond b old 0) (lt-ltb i (array_cells S a) inside))

    off : (e : Entry) → Has (entries S (Stores a)) e → (run n).net (root S (Stores a)) ≡ 0 → (run (suc n)).cell (name (Array a)) i ≡ cell σ.arrays a i
    off e h clear = left S title run f ms fit few n a i there inside (λ d g. clear) ∙ old_is

    -- a state that stores elsewhere or nowhere
    kept : places S (Into k) a k (form_at S k) ≡ [] → (run (suc n)).cell (name (Array a)) i ≡ cell σ.arrays a i
    kept none =
        left S title run f ms fit few n a i there inside
        (λ d h. none_clear S title run f n k is.shows.here is.shows.low (Stores a) (parts S title run f ms fit few n a i there inside).0 (some_length (entries S (Stores a)) d h) none)
        ∙ old_is

    low_row : a < length σ.arrays
    low_row = subst (λ z. a < z) (sym is.sizes.arrays) there

    -- one that stores the value v at index j of array y
    module _ (y w j v : ℕ) (p q : Atom) (placed : (x : Net) → places S x a k (form_at S k) ≡ at y a (entry x (low_bits (index_bits S a) p))) (filled : contents S a k (form_at S k) ≡ at y a (entry (At k) q))
        (shown : Shows f.sizes (run n) p w j) (into : y ≡ a → (run n).net (name (Into k)) ≡ one_if (nat_lt j (array_cells S a))) (valued : atom_value (run n) q ≡ v) where
      abbrev place_entry : Net → Entry
      place_entry x = record { condition = name x; value = low_bits (index_bits S a) p }

      abbrev content_entry : Entry
      content_entry = record { condition = name (At k); value = q }

      here_is : y ≡ a → (b : Bool) → nat_lt j (array_cells S a) ≡ b → (run (suc n)).cell (name (Array a)) i ≡ cell (with_cell σ.arrays a j v) a i
      here_is e b is_b = by_bit b is_b where
        only_store : effect S (Stores a) k ≡ place_entry (Into k) ∷ []
        only_store = placed (Into k) ∙ at_same y a (entry (Into k) (low_bits (index_bits S a) p)) e

        only_place : effect S (WriteIndex a) k ≡ place_entry (At k) ∷ []
        only_place = placed (At k) ∙ at_same y a (entry (At k) (low_bits (index_bits S a) p)) e

        only_content : effect S (WriteData a) k ≡ content_entry ∷ []
        only_content = filled ∙ at_same y a (entry (At k) q) e

        has_one : Has (entries S (Stores a)) (place_entry (Into k))
        has_one = has_each (effect S (Stores a)) (state_count S) k (place_entry (Into k)) is.shows.low (subst (λ l. Has l (place_entry (Into k))) (sym only_store) (inl refl))

        here_on : (run n).net (name (At k)) ≡ 1
        here_on = at_here S title run f n k is.shows.low is.shows.here

        by_bit : (b : Bool) → nat_lt j (array_cells S a) ≡ b → (run (suc n)).cell (name (Array a)) i ≡ cell (with_cell σ.arrays a j v) a i
        by_bit true h =
            let low : j < array_cells S a = ltb-true j (array_cells S a) h in
            let most = is.shows.few a in
            let top : array_cells S a - 1 < 2 ^ index_bits S a = fits_bits (array_cells S a - 1) (omega (arith, most)) in
            let some : 0 < index_bits S a = has_bits (array_cells S a - 1) (omega (arith, most)) in
            let small : j < 2 ^ index_bits S a = omega (arith, low, top) in
            let on : (run n).net (name (Into k)) ≡ 1 = into e ∙ ap one_if h in
            let set : (run n).net (root S (Stores a)) ≡ 1 = only_set S title run f n k is.shows.here is.shows.low (Stores a) (parts S title run f ms fit few n a i there inside).0 (place_entry (Into k)) only_store on in
            let index : (run n).net (root S (WriteIndex a)) ≡ j =
            only_picked S title run f n k is.shows.here is.shows.low (WriteIndex a) (index_bits S a) (parts S title run f ms fit few n a i there inside).1 (place_entry (At k)) only_place here_on
            ∙ low_bits_is f.sizes (run n) w j (index_bits S a) p shown some ∙ mod-eq_of_lt small in
            let got : (run n).net (root S (WriteData a)) ≡ v = only_picked S title run f n k is.shows.here is.shows.low (WriteData a) (bits_of (array_kind S a)) (parts S title run f ms fit few n a i there inside).2 content_entry only_content here_on ∙ valued in
            let row : j < cells_of σ a = subst (λ z. j < z) (sym (is.sizes.rows a there)) low in
            stores S title run f ms fit few n a i there inside (place_entry (Into k)) has_one
            ∙ ap (λ z. cond (eqb z 1 && eqb i ((run n).net (root S (WriteIndex a))) && ltb ((run n).net (root S (WriteIndex a))) (f.sizes.cells (name (Array a)))) ((run n).net (root S (WriteData a))) old) set
            ∙ ap (λ z. cond (true && eqb i z && ltb z (f.sizes.cells (name (Array a)))) ((run n).net (root S (WriteData a))) old) index
            ∙ ap (λ z. cond (true && eqb i j && ltb j z) ((run n).net (root S (WriteData a))) old) (cells_are S title run f ms fit few n a i there inside) ∙ ap (λ z. cond (true && eqb i j && z) ((run n).net (root S (WriteData a))) old) h
            ∙ ap (λ z. cond z ((run n).net (root S (WriteData a))) old) (true_behind (eqb i j)) ∙ ap (λ z. cond (eqb i j) z old) got ∙ ap (λ z. cond (eqb i j) v z) old_is
            ∙ cell_put σ.arrays a i j v low_row row
        by_bit false h =
            let past : array_cells S a ≤ j = ltb-false j (array_cells S a) h in
            let row : cells_of σ a ≤ j = subst (λ z. z ≤ j) (sym (is.sizes.rows a there)) past in
            off (place_entry (Into k)) has_one (only_clear S title run f n k is.shows.here is.shows.low (Stores a) (parts S title run f ms fit few n a i there inside).0 (place_entry (Into k)) only_store (into e ∙ ap one_if h)) ∙ cell_past σ.arrays a i j v low_row row

      stored_there : (run (suc n)).cell (name (Array a)) i ≡ cell (with_cell σ.arrays y j v) a i
      stored_there =
          ⊎_elim (λ (e : y ≡ a). here_is e (nat_lt j (array_cells S a)) refl ∙ ap (λ z. cell (with_cell σ.arrays z j v) a i) (sym e))
          (λ (e : y ≡ a → ⊥). kept (placed (Into k) ∙ at_other y a (entry (Into k) (low_bits (index_bits S a) p)) e) ∙ cell_other σ.arrays y a i j v e) (cases_eq y a)

    stays : (g : StateForm) → form_at S k ≡ g → places S (Into k) a k g ≡ [] → (held_after (step g k σ) σ (found_by S run n (step g k σ))).arrays ≡ σ.arrays
        → (run (suc n)).cell (name (Array a)) i ≡ cell (held_by S run n σ (step g k σ)).arrays a i
    stays g same none e = kept (ap (places S (Into k) a k) same ∙ none) ∙ same_part (λ (τ : State). cell τ.arrays a i) (allowed S run n (step g k σ)) (held_after (step g k σ) σ (found_by S run n (step g k σ))) σ (ap (λ rows. cell rows a i) e)

    cell_at : (y : ℕ) (j e : Expression) (next : ℕ) → form_at S k ≡ CellAt y j e next → (run (suc n)).cell (name (Array a)) i ≡ cell (with_cell σ.arrays y (value j σ) (value e σ)) a i
    cell_at y j e next same =
        let t : IsTypedState (kinds_in S) (CellAt y j e next) = subst (IsTypedState (kinds_in S)) same is.shows.typed in
        let t' : IsOfKind (kinds_in S) (index_of (form_at S k)) U64 = subst (λ z. IsOfKind (kinds_in S) (index_of z) U64) (sym same) t.0 in
        let shown : Shows f.sizes (run n) (index_wires S k).atom 64 (value j σ) =
        subst (λ z. Shows f.sizes (run n) (index_wires S k).atom 64 (value (index_of z) σ)) same (index_shown S title run f n (ranges_in S) σ k is.shows t') in
        stored_there y 64 (value j σ) (value e σ) (index_wires S k).atom (value_wires S k).atom (λ x. ap (places S x a k) same) (ap (contents S a k) same) shown
        (λ h. into_is (CellAt y j e next) same y (index_wires S k).atom 64 (value j σ) [] refl shown.value ∙ ap (λ z. one_if (nat_lt (value j σ) (array_cells S z))) h)
        ((value_shown S title run f n (ranges_in S) σ k is.shows).value ∙ ap (λ z. value (value_of z) σ) same)

    clear_at : (y c next : ℕ) → form_at S k ≡ ClearAt y c next → (run (suc n)).cell (name (Array a)) i ≡ cell (with_cell σ.arrays y (slice_index σ.vars c) 0) a i
    clear_at y c next same =
        let g : IsInRange (ranges_in S) (ClearAt y c next) = subst (IsInRange (ranges_in S)) same is.shows.ranged in
        let shown = is.shows.registers c g.1 in
        stored_there y (bits_of (register_kind S c)) (slice_index σ.vars c) 0 (net (Variable c)) (Literal (bits_of (array_kind S a)) 0) (λ x. ap (places S x a k) same) (ap (contents S a k) same) shown
        (λ h. into_is (ClearAt y c next) same y (net (Variable c)) 32 (slice_index σ.vars c) (counting S k y c) refl shown.value ∙ ap (λ z. one_if (nat_lt (slice_index σ.vars c) (array_cells S z))) h) refl

    array_is : (g : StateForm) → form_at S k ≡ g → (run (suc n)).cell (name (Array a)) i ≡ cell (held_by S run n σ (step g k σ)).arrays a i
    array_is (CellAt y j e next) same = cell_at y j e next same
    array_is (ReadAt s into next) same = stays (ReadAt s into next) same refl (into_arrays σ into (found_by S run n (step (ReadAt s into next) k σ)))
    array_is (PeekAt s into next) same = stays (PeekAt s into next) same refl (into_arrays σ into (found_by S run n (step (PeekAt s into next) k σ)))
    array_is (EotAt s into next) same = stays (EotAt s into next) same refl (into_arrays σ into (found_by S run n (step (EotAt s into next) k σ)))
    array_is (LoadAt m j into next) same = stays (LoadAt m j into next) same refl (into_arrays σ into (cell σ.cells m (value j σ)))
    array_is (ClearAt y c next) same = clear_at y c next same ∙ clear_cells S run n k y c next a i σ (is_last σ y c)
    array_is g same = stays g same refl refl

pub arrays_are_held : ArraysAreHeld
arrays_are_held S title run f ms fit few cells n k σ is a i there inside = array_is S title run f cells n k σ is ms fit few a i there inside (form_at S k) refl
