-- Parts of a task's module of which no element gives something that wires, registers and memories do not give.
use Rattle.std.proofs.Common.{◌≡◌, ℕ, zero, suc, Bool, true, false, List, [], ◌∷◌, ◌++◌, length, Option, Some, None, refl, ap, ◌∙◌}
use Rattle.std.specs.Prelude.{slice_get}
use Rattle.std.specs.List.{flat_map, AllByRecursion}
use Rattle.std.proofs.lemmas.Grind.{flat_map-append}
use Rattle.tapa_base.specs.declared.kind.Kind.TheVariants as kind
use Rattle.tapa_base.specs.Kinds.{bits_of}
use Rattle.vlog_tree.specs.declared.tree.Atom.TheVariants.{Net as NetAtom, Literal}
use Rattle.vlog_tree.specs.declared.tree.Value.{Value}
use Rattle.vlog_tree.specs.declared.tree.Value.TheVariants.{Choose, Cell}
use Rattle.vlog_tree.specs.Table.{Name}
use Rattle.hw_build.specs.Elements.{Element, Input, Wire, Register, Memory}
use Rattle.hw_build.specs.Trees.{numbered}
use Rattle.hw_build.specs.Scope.{each}
use Rattle.hw_build.specs.Choices.{Entry, choice}
use Rattle.task_fsm.specs.Machine.{StateForm, SetAt, CellAt, WriteAt, ClearAt, EndAt, TrapAt}
use Rattle.hw_lines.specs.declared.nets.Choice.{Choice}
use Rattle.hw_lines.specs.declared.nets.Net.{Net}
use Rattle.hw_lines.specs.declared.nets.Choice.TheVariants.{ToState, ToEnd, Set, NextValue, Stores, WriteIndex, WriteData, Reads, ArrayIndex, Clear}
use Rattle.hw_lines.specs.declared.nets.Net.TheVariants.{State, Ended, Variable, Array, Raw, Answer}
use Rattle.hw_lines.specs.Nets.{name, front, value_front, index_front, read_front}
use Rattle.hw_lines.specs.Shape.{Shape, array_kind, array_cells, register_kind, index_bits, state_count, state_bits, form_at}
use Rattle.hw_lines.specs.Wires.{ArrayRead, read_count}
use Rattle.hw_lines.specs.States.{net, packed, index_of, value_of, value_kind, index_wires, value_wires, reads_at, awaited, needs_go, go_of, next_wires, into_of, counting, more_wires, state_wires, decoded}
use Rattle.hw_lines.specs.Effects.{entries}
use Rattle.hw_lines.specs.Texts.{by_end, writes, variable, array, held, offered, offers, read_index, asked_of, asked, answered, unless_none, reads_of, read_numbers, any, pick, variable_choices, array_choices, choices, reset_by}
use Rattle.hw_task_laws.proofs.names.Rows.{AreRow, compiled_row, any_row, pick_row}
use Rattle.hw_task_laws.proofs.names.Bounds.{asked_end}

abbrev pub IsAWire : Element → Type 0
IsAWire (Wire w x v) = Unit {0}
IsAWire _ = ⊥

abbrev pub AreWires : List Element → Type 0
AreWires es = AllByRecursion IsAWire es

-- the cell that is read, and what is answered
abbrev answered_end : Shape → ℕ → ℕ → List Element
answered_end S p a =
    Wire (bits_of (array_kind S a)) (name (Raw p a)) (Cell (name (Array a)) (choice (front (ArrayIndex p a)) (entries S (ArrayIndex p a))))
    ∷ Wire (bits_of (array_kind S a)) (name (Answer p a)) (Choose (NetAtom (choice (front (Reads p a)) (entries S (Reads p a)))) (net (Raw p a)) (Literal (bits_of (array_kind S a)) 0)) ∷ []

module _ {A : Type 0} (g : Element → List A) where
  abbrev pub GiveNone : List Element → Type 0
  GiveNone es = flat_map g es ≡ []

  pub both_none : (xs ys : List Element) → GiveNone xs → GiveNone ys → GiveNone (xs ++ ys)
  both_none xs ys h k = flat_map-append g xs ys ∙ ap (λ l. l ++ flat_map g ys) h ∙ k

  pub more_none : (e : Element) (es : List Element) → g e ≡ [] → GiveNone es → GiveNone (e ∷ es)
  more_none e es h k = ap (λ l. l ++ flat_map g es) h ∙ k

  pub each_none : (f : ℕ → List Element) (n : ℕ) → ((k : ℕ) → GiveNone (f k)) → GiveNone (each f n)
  each_none f zero h = refl
  each_none f (suc n) h = both_none (each f n) (f n) (each_none f n h) (h n)

  pub by_end_none : (xs ys : List Element) (b : Bool) → GiveNone xs → GiveNone ys → GiveNone (by_end xs ys b)
  by_end_none xs ys true h k = h
  by_end_none xs ys false h k = k

  pub unless_gives : (es : List Entry) (xs : List Element) → GiveNone xs → GiveNone (unless_none es xs)
  unless_gives [] xs h = refl
  unless_gives (e ∷ es) xs h = h

  module _ (wire : (w : ℕ) (x : Name) (v : Value) → g (Wire w x v) ≡ []) where
    row_none : (front : Name) (n : ℕ) (es : List Element) → AreRow front n es → GiveNone es
    row_none front n [] h = refl
    row_none front n (e ∷ es) h = more_none e es (ap g h.0.2 ∙ wire h.0.0 (numbered front n) h.0.1) (row_none front (suc n) es h.1)

    one_none : (e : Element) → IsAWire e → g e ≡ []
    one_none (Wire w x v) h = wire w x v
    one_none (Input w x) h = absurd h
    one_none _ h = absurd h

    pub wires_none : (es : List Element) → AreWires es → GiveNone es
    wires_none [] h = refl
    wires_none (e ∷ es) h = more_none e es (one_none e h.0) (wires_none es h.1)

    module _ (S : Shape) where
      pub any_none : (c : Choice) → GiveNone (any S c)
      any_none c = row_none (front c) 0 (any S c) (any_row (front c) (entries S c))

      pub pick_none : (w : ℕ) (c : Choice) → GiveNone (pick S w c)
      pick_none w c = row_none (front c) 0 (pick S w c) (pick_row w (front c) (entries S c))

      pub decodes_none : GiveNone (each (decoded S) (state_count S))
      decodes_none = each_none (decoded S) (state_count S) (λ k. wires_none (decoded S k) (tt, tt))

      pub offers_none : GiveNone (each (offered S) (length S.streams))
      offers_none = each_none (offered S) (length S.streams) (λ s. by_end_none [] (offers S s) (writes S s) refl (wires_none (offers S s) (tt, (tt, (tt, tt)))))

      asked_none : (p k : ℕ) (o : Option ArrayRead) → GiveNone (asked_of S p k o)
      asked_none p k None = refl
      asked_none p k (Some r) =
          both_none (read_index p k r).elements (asked_end S p k r) (row_none (read_front k p) 0 (read_index p k r).elements (compiled_row (read_front k p) r.first 0 kind.U64 r.index).wires)
          (wires_none (asked_end S p k r) (tt, (tt, tt)))

      answered_none : (p a : ℕ) → GiveNone (unless_none (entries S (Reads p a)) (answered S p a))
      answered_none p a =
          unless_gives (entries S (Reads p a)) (answered S p a)
          (both_none (any S (Reads p a) ++ pick S (index_bits S a) (ArrayIndex p a)) (answered_end S p a) (both_none (any S (Reads p a)) (pick S (index_bits S a) (ArrayIndex p a)) (any_none (Reads p a)) (pick_none (index_bits S a) (ArrayIndex p a)))
          (wires_none (answered_end S p a) (tt, (tt, tt))))

      pub reads_none : GiveNone (each (reads_of S) (read_numbers S))
      reads_none =
          each_none (reads_of S) (read_numbers S)
          (λ p.
          both_none (each (asked S p) (state_count S)) (each (λ a. unless_none (entries S (Reads p a)) (answered S p a)) (length S.arrays))
          (each_none (asked S p) (state_count S) (λ k. asked_none p k (slice_get (reads_at S k) p)))
          (each_none (λ a. unless_none (entries S (Reads p a)) (answered S p a)) (length S.arrays) (answered_none p)))

      more_wires_none : (k : ℕ) (f : StateForm) → GiveNone (more_wires S k f)
      more_wires_none k (CellAt a i e next) = wires_none (into_of S k a (index_wires S k).atom 64) (tt, (tt, tt))
      more_wires_none k (ClearAt a c next) = wires_none (into_of S k a (net (Variable c)) 32 ++ counting S k a c) (tt, (tt, (tt, (tt, (tt, tt)))))
      more_wires_none k (WriteAt s e next) = wires_none (packed S k s (value_wires S k).atom) (tt, tt)
      more_wires_none k _ = refl

      go_none : (k : ℕ) (o : Option Net) (late : Bool) → GiveNone (go_of k o late)
      go_none k None late = refl
      go_none k (Some w) false = refl
      go_none k (Some w) true = wires_none (go_of k (Some w) true) (tt, tt)

      next_none : (k : ℕ) (f : StateForm) → GiveNone (next_wires S k f)
      next_none k (SetAt r e next) = refl
      next_none k (CellAt a i e next) = refl
      next_none k EndAt = refl
      next_none k TrapAt = refl
      next_none k f = wires_none (next_wires S k f) (tt, tt)

      state_none : (k : ℕ) → GiveNone (state_wires S k)
      state_none k =
          let f = form_at S k in
          let index = (index_wires S k).elements in
          let value = (value_wires S k).elements in
          let go = go_of k (awaited f) (needs_go f) in
          both_none (index ++ value ++ more_wires S k f ++ go) (next_wires S k f)
          (both_none (index ++ value ++ more_wires S k f) go
          (both_none (index ++ value) (more_wires S k f)
          (both_none index value (row_none (index_front k) 0 index (compiled_row (index_front k) 0 0 kind.U64 (index_of f)).wires)
          (row_none (value_front k) 0 value (compiled_row (value_front k) (read_count (index_of f)) 0 (value_kind S f) (value_of f)).wires))
          (more_wires_none k f)) (go_none k (awaited f) (needs_go f))) (next_none k f)

      pub states_none : GiveNone (each (state_wires S) (state_count S))
      states_none = each_none (state_wires S) (state_count S) state_none

      reset_none : (r : ℕ) (es : List Entry) → GiveNone (reset_by r es)
      reset_none r [] = refl
      reset_none r (e ∷ es) = wires_none (reset_by r (e ∷ es)) (tt, tt)

      pub choices_none : GiveNone (choices S)
      choices_none =
          let first = pick S (state_bits S) ToState in
          let second = any S ToEnd in
          let variables = each (variable_choices S) (length S.registers) in
          let arrays = each (array_choices S) (length S.arrays) in
          both_none (first ++ second ++ variables) arrays
          (both_none (first ++ second) variables (both_none first second (pick_none (state_bits S) ToState) (any_none ToEnd))
          (each_none (variable_choices S) (length S.registers)
          (λ r.
          let zero = any S (Clear r) in
          let reset = reset_by r (entries S (Clear r)) in
          both_none (zero ++ reset ++ any S (Set r)) (pick S (bits_of (register_kind S r)) (NextValue r))
          (both_none (zero ++ reset) (any S (Set r)) (both_none zero reset (any_none (Clear r)) (reset_none r (entries S (Clear r)))) (any_none (Set r))) (pick_none (bits_of (register_kind S r)) (NextValue r)))))
          (each_none (array_choices S) (length S.arrays)
          (λ a.
          both_none (any S (Stores a) ++ pick S (index_bits S a) (WriteIndex a)) (pick S (bits_of (array_kind S a)) (WriteData a))
          (both_none (any S (Stores a)) (pick S (index_bits S a) (WriteIndex a)) (any_none (Stores a)) (pick_none (index_bits S a) (WriteIndex a))) (pick_none (bits_of (array_kind S a)) (WriteData a))))

      pub held_none : ((w : ℕ) (x : Name) → g (Register w x) ≡ []) → ((w : ℕ) (x : Name) (n : ℕ) → g (Memory w x n) ≡ []) → GiveNone (held S)
      held_none register memory =
          let variables = each (variable S) (length S.registers) in
          let arrays = each (array S) (length S.arrays) in
          more_none (Register (state_bits S) (name State)) (Register 1 (name Ended) ∷ variables ++ arrays) (register (state_bits S) (name State))
          (more_none (Register 1 (name Ended)) (variables ++ arrays) (register 1 (name Ended))
          (both_none variables arrays (each_none (variable S) (length S.registers) (λ r. more_none (Register (bits_of (register_kind S r)) (name (Variable r))) [] (register (bits_of (register_kind S r)) (name (Variable r))) refl))
          (each_none (array S) (length S.arrays)
          (λ a. more_none (Memory (bits_of (array_kind S a)) (name (Array a)) (array_cells S a)) [] (memory (bits_of (array_kind S a)) (name (Array a)) (array_cells S a)) refl))))
