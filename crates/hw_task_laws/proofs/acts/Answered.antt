-- In a cycle in one state, the answers of its reads show the cells, and its wires its value and its index.
use Rattle.std.proofs.Common.{◌≡◌, ℕ, suc, ◌+◌, ◌-◌, ◌^◌, ◌<◌, ◌≤◌, Bool, true, false, cond, eqb, List, [], ◌∷◌, ◌++◌, length, Some, inl, inr, refl, sym, ap, subst, ◌∙◌, arith, ⊎_elim}
use Rattle.std.specs.Prelude.{◌⊎◌, nat_lt, bit_and, slice_get}
use Rattle.std.specs.Int.Count.{count_leading_zeros}
use Rattle.std.proofs.Math.Nat.{mod-eq_of_lt}
use Rattle.std.proofs.lemmas.Nat.{leading_top}
use Rattle.std.proofs.lemmas.Bool.{cases_eq, eq-eqb, ne_eqb, ltb-true}
use Rattle.tapa_base.specs.declared.kind.Kind.{Kind}
use Rattle.tapa_base.specs.declared.kind.Kind.TheVariants as kind
use Rattle.tapa_base.specs.Kinds.{bits_of}
use Rattle.tapa_syntax.specs.LeafKinds.{Kinds}
use Rattle.tapa_syntax.specs.Typed.{right_kind}
use Rattle.kahn_model.specs.Trace.{State, cell}
use Rattle.vlog_tree.specs.declared.tree.Atom.TheVariants.{Net, Literal}
use Rattle.vlog_tree.specs.declared.tree.BinaryOp.TheVariants.{And, Less}
use Rattle.vlog_tree.specs.declared.tree.Value.TheVariants.{Binary, Choose, Cell}
use Rattle.vlog_tree.specs.declared.table.NetKind.TheVariants.{WireNet}
use Rattle.tapa_base.specs.Lists.{Has}
use Rattle.vlog_tree.specs.Table.{Name, one_if}
use Rattle.vlog_tree.specs.Cycle.{Cycle, Follows, atom_value}
use Rattle.tapa_base.proofs.Lists.{has_left, has_right}
use Rattle.hw_build.specs.Elements.{Element, Wire, Register, Memory, built}
use Rattle.hw_build.proofs.Driven.{wire_driven, width_declared, cells_declared}
use Rattle.hw_build.specs.Scope.{each}
use Rattle.hw_build.specs.Choices.{Entry, any_elements, pick_elements, choice}
use Rattle.hw_build.specs.Fits.{IsAmong}
use Rattle.hw_build.proofs.Parts.{has_each}
use Rattle.task_fsm.specs.Machine.{Expression, CellOf, Converted, Applied, Flipped, Inverse, Both, Either, Chosen, StateForm, SetAt, CellAt, TestAt, WriteAt, LoadAt, StoreAt}
use Rattle.task_fsm.specs.MachineKinds.{IsOfKind, IsTypedState}
use Rattle.task_fsm.specs.Ranges.{Ranges, NamesWithin, IsInRange}
use Rattle.task_fsm.specs.Run.{value}
use Rattle.hw_lines.specs.declared.nets.Choice.TheVariants.{Reads, ArrayIndex}
use Rattle.hw_lines.specs.declared.nets.Net.{Net as LineNet}
use Rattle.hw_lines.specs.declared.nets.Net.TheVariants.{State as StateNet, Ended, Variable, At, Array, Answer, Raw, ReadInside, ReadOn}
use Rattle.hw_lines.specs.Nets.{name, front, value_front, index_front, read_front}
use Rattle.hw_lines.specs.Shape.{Shape, kinds_in, register_kind, array_kind, array_cells, index_bits, state_count, state_bits, form_at}
use Rattle.hw_build.specs.Widths.{bits_for}
use Rattle.hw_lines.specs.Drivers.{low_bits}
use Rattle.hw_lines.specs.Wires.{ArrayRead, read_count, reads_in}
use Rattle.hw_lines.specs.States.{net, nothing, index_of, value_of, value_kind, index_wires, value_wires, reads_at}
use Rattle.hw_lines.specs.Effects.{at, effect, entries, spot_of}
use Rattle.hw_lines.specs.Texts.{array, read_index, asked_of, answered, unless_none, read_numbers, variable, task_elements}
use Rattle.hw_task_laws.specs.wires.Shows.{Shows, AreSaid}
use Rattle.hw_task_laws.specs.wires.Computes.{Numbered, AnswerShown, AnswersShown}
use Rattle.hw_task_laws.specs.acts.Reads.{IsIn, ReadsAreShown, ValueIsShown, IndexIsShown}
use Rattle.hw_lines.proofs.Members.{all, asked_in, answered_in, held_in, value_in, index_in, among_left, among_right, among_each}
use Rattle.hw_lines.proofs.Decodes.{at_here, any_on, any_off, pick_on, most_of}
use Rattle.hw_task_laws.proofs.wires.Shown.{low_bits_is}
use Rattle.hw_task_laws.proofs.wires.Computed.{numbered_left, numbered_second, numbered_join, computed}
use Rattle.hw_task_laws.proofs.steps.Allowed.{one_and}
use Rattle.hw_task_laws.proofs.form.Task.{fits_bits}
use Rattle.tapa_base.proofs.Got.{got_low}

pub has_bits : (n : ℕ) → n < 2 ^ 32 → 0 < bits_for n
unfolding bits_for
has_bits n h =
    ⊎_elim
    (λ e. let w : cond (eqb n 0) 1 (32 - count_leading_zeros 32 n) ≡ 1 = ap (λ b. cond b 1 (32 - count_leading_zeros 32 n)) (eq-eqb n 0 e) in subst (λ k. 0 < k) (sym w) (omega arith))
    (λ e.
    let w : cond (eqb n 0) 1 (32 - count_leading_zeros 32 n) ≡ 32 - count_leading_zeros 32 n = ap (λ b. cond b 1 (32 - count_leading_zeros 32 n)) (ne_eqb n 0 e) in
    let pos : 0 < n = omega (arith, e) in
    let t = leading_top 32 n pos h in
    let k = t.1 in
    subst (λ k. 0 < k) (sym w) (omega (arith, k)))
    (cases_eq n 0)

-- three parts
pub among_three : (xs ys zs all : List Element) → IsAmong (xs ++ ys ++ zs) all → IsAmong xs all × IsAmong ys all × IsAmong zs all
among_three xs ys zs all h =
    let two = among_left (xs ++ ys) zs all h in
    (among_left xs ys all two, among_right xs ys all two, among_right (xs ++ ys) zs all h)

-- each of a list at its number
pub numbered_from : (P : ℕ → ArrayRead → Type 0) (m : ℕ) (reads : List ArrayRead) → ((i : ℕ) (r : ArrayRead) → slice_get reads i ≡ Some r → P (m + i) r) → Numbered P m reads
numbered_from P m [] h = tt
numbered_from P m (q ∷ reads) h = (
  (let z : m + 0 ≡ m = omega arith in subst (λ n. P n q) z (h 0 q refl)),
  numbered_from P (suc m) reads (λ i r e. let z : m + suc i ≡ suc m + i = omega arith in subst (λ n. P n r) z (h (suc i) r e)),
)

-- the only entry that a state gives
pub alone : (es : List Entry) (e d : Entry) → es ≡ e ∷ [] → Has es d → e ≡ d
alone es e d is h = ⊎_elim (λ s. s) (λ n. absurd n) (subst (λ l. Has l d) is h)

-- an entry for one thing alone
pub only_entry : (x : ℕ) (es : List Entry) → at x x es ≡ es
only_entry x es = ap (λ b. cond b es []) (eq-eqb x x refl)

pub some_length : {A : Type 0} (xs : List A) (x : A) → Has xs x → 0 < length xs
some_length [] x h = absurd h
some_length (y ∷ ys) x h = omega arith

pub not_none : (es : List Entry) (e : Entry) (elements : List Element) → Has es e → unless_none es elements ≡ elements
not_none [] e elements h = absurd h
not_none (d ∷ es) e elements h = refl

-- the index and the value of a state have their kinds, and name what is there
pub value_typed : (S : Shape) (f : StateForm) → IsTypedState (kinds_in S) f → IsOfKind (kinds_in S) (value_of f) (value_kind S f)
value_typed S (SetAt r e next) t = t
value_typed S (CellAt a i e next) t = t.1
value_typed S (TestAt e y n) t = t
value_typed S (WriteAt s e next) t = t
value_typed S (StoreAt m i e next) t = t.1
value_typed S _ t = (refl, omega arith)

pub index_typed : (S : Shape) (f : StateForm) → IsTypedState (kinds_in S) f → IsOfKind (kinds_in S) (index_of f) kind.U64 ⊎ (index_of f ≡ nothing)
index_typed S (CellAt a i e next) t = inl t.0
index_typed S (LoadAt m i into next) t = inl t.0
index_typed S (StoreAt m i e next) t = inl t.0
index_typed S _ t = inr refl

pub value_within : (R : Ranges) (f : StateForm) → IsInRange R f → NamesWithin R (value_of f)
value_within R (SetAt r e next) g = g.1
value_within R (CellAt a i e next) g = g.2
value_within R (TestAt e y n) g = g.0
value_within R (WriteAt s e next) g = g.1
value_within R (StoreAt m i e next) g = g.2
value_within R _ g = tt

pub index_within : (R : Ranges) (f : StateForm) → IsInRange R f → NamesWithin R (index_of f)
index_within R (CellAt a i e next) g = g.1
index_within R (LoadAt m i into next) g = g.1
index_within R (StoreAt m i e next) g = g.1
index_within R _ g = tt

-- where registers and arrays stand
module _ (S : Shape) where
  after_own : IsAmong (each (variable S) (length S.registers) ++ each (array S) (length S.arrays)) (all S)
  after_own = among_right (Register (state_bits S) (name StateNet) ∷ Register 1 (name Ended) ∷ []) (each (variable S) (length S.registers) ++ each (array S) (length S.arrays)) (all S) (held_in S)

  pub variable_there : (r : ℕ) → r < length S.registers → Has (all S) (Register (bits_of (register_kind S r)) (name (Variable r)))
  variable_there r h =
      among_each (variable S) (length S.registers) r (all S) h (among_left (each (variable S) (length S.registers)) (each (array S) (length S.arrays)) (all S) after_own)
      (Register (bits_of (register_kind S r)) (name (Variable r))) (inl refl)

  pub array_there : (a : ℕ) → a < length S.arrays → Has (all S) (Memory (bits_of (array_kind S a)) (name (Array a)) (array_cells S a))
  array_there a h =
      among_each (array S) (length S.arrays) a (all S) h (among_right (each (variable S) (length S.registers)) (each (array S) (length S.arrays)) (all S) after_own)
      (Memory (bits_of (array_kind S a)) (name (Array a)) (array_cells S a)) (inl refl)

module _ (S : Shape) (title : Name) (run : ℕ → Cycle) (f : Follows (built title (task_elements S)) run) (n : ℕ) where
  -- each wire has its driver's value
  pub told : (es : List Element) → IsAmong es (all S) → AreSaid f.sizes (run n) es
  told es among w x v h = (
    wire_driven title (task_elements S) run f w x v (among (Wire w x v) h) n,
    width_declared title (task_elements S) run f (Wire w x v) (record { name = x; net_kind = WireNet; bits = w; cells = 0 }) (among (Wire w x v) h) (inl refl) (λ e. cc),
  )

  module _ (R : Ranges) (σ : State) (k : ℕ) (is : IsIn S R f.sizes (run n) k σ) where
    abbrev K : Kinds
    K = kinds_in S

    -- one read, whose index shows its value
    module _ (p : ℕ) (r : ArrayRead) (got : slice_get (reads_at S k) p ≡ Some r) (there : r.array < length S.arrays) (shown : Shows f.sizes (run n) (read_index p k r).atom 64 (value r.index σ)) where
      abbrev a : ℕ
      a = r.array

      abbrev v : ℕ
      v = value r.index σ

      inside : p < read_numbers S
      inside =
          let l = is.low in
          let x : p < length (reads_at S k) = got_low (reads_at S k) p r got in
          let y : length (reads_at S k) ≤ read_numbers S = most_of (λ j. length (reads_at S j)) (state_count S) k l in omega (arith, x, y)

      -- its entry, under the condition of a net
      abbrev spot_entry : LineNet → Entry
      spot_entry x = record { condition = name x; value = low_bits (index_bits S a) (read_index p k r).atom }

      given : (x : LineNet) → spot_of S x p a k (slice_get (reads_at S k) p) ≡ spot_entry x ∷ []
      given x = ap (spot_of S x p a k) got ∙ only_entry a (spot_entry x ∷ [])

      own_entry : (x : LineNet) → Has (spot_of S x p a k (slice_get (reads_at S k) p)) (spot_entry x)
      own_entry x = subst (λ es. Has es (spot_entry x)) (sym (given x)) (inl refl)

      asked_among : IsAmong (asked_of S p k (Some r)) (all S)
      asked_among e h = asked_in S p k inside is.low e (subst (λ o. Has (asked_of S p k o) e) (sym got) h)

      inside_there : Has (asked_of S p k (Some r)) (Wire 1 (name (ReadInside k p)) (Binary (read_index p k r).atom Less (Literal 64 (array_cells S a))))
      inside_there = has_right (read_index p k r).elements _ _ (inl refl)

      on_there : Has (asked_of S p k (Some r)) (Wire 1 (name (ReadOn k p)) (Binary (net (At k)) And (net (ReadInside k p))))
      on_there = has_right (read_index p k r).elements _ _ (inr (inl refl))

      inside_is : (run n).net (name (ReadInside k p)) ≡ one_if (nat_lt v (array_cells S a))
      inside_is =
          wire_driven title (task_elements S) run f 1 (name (ReadInside k p)) (Binary (read_index p k r).atom Less (Literal 64 (array_cells S a))) (asked_among _ inside_there) n
          ∙ ap (λ z. one_if (nat_lt z (array_cells S a))) shown.value

      on_is : (run n).net (name (ReadOn k p)) ≡ one_if (nat_lt v (array_cells S a))
      on_is =
          wire_driven title (task_elements S) run f 1 (name (ReadOn k p)) (Binary (net (At k)) And (net (ReadInside k p))) (asked_among _ on_there) n
          ∙ ap (λ z. bit_and z ((run n).net (name (ReadInside k p)))) (at_here S title run f n k is.low is.here) ∙ ap (bit_and 1) inside_is ∙ one_and (nat_lt v (array_cells S a))

      answers : IsAmong (answered S p a) (all S)
      answers e h =
          answered_in S p a inside there e
          (subst (λ es. Has es e) (sym (not_none (entries S (Reads p a)) (spot_entry (ReadOn k p)) (answered S p a) (has_each (effect S (Reads p a)) (state_count S) k (spot_entry (ReadOn k p)) is.low (own_entry (ReadOn k p))))) h)

      abbrev last_two : List Element
      last_two =
          Wire (bits_of (array_kind S a)) (name (Raw p a)) (Cell (name (Array a)) (choice (front (ArrayIndex p a)) (entries S (ArrayIndex p a))))
          ∷ Wire (bits_of (array_kind S a)) (name (Answer p a)) (Choose (Net (choice (front (Reads p a)) (entries S (Reads p a)))) (net (Raw p a)) (Literal (bits_of (array_kind S a)) 0)) ∷ []

      abbrev any_part : List Element
      any_part = any_elements (front (Reads p a)) (entries S (Reads p a))

      abbrev pick_part : List Element
      pick_part = pick_elements (index_bits S a) (front (ArrayIndex p a)) (entries S (ArrayIndex p a))

      parts : IsAmong any_part (all S) × IsAmong pick_part (all S) × IsAmong last_two (all S)
      parts = among_three any_part pick_part last_two (all S) answers

      raw_there : Has (all S) (Wire (bits_of (array_kind S a)) (name (Raw p a)) (Cell (name (Array a)) (choice (front (ArrayIndex p a)) (entries S (ArrayIndex p a)))))
      raw_there = parts.2 _ (inl refl)

      answer_there : Has (all S) (Wire (bits_of (array_kind S a)) (name (Answer p a)) (Choose (Net (choice (front (Reads p a)) (entries S (Reads p a)))) (net (Raw p a)) (Literal (bits_of (array_kind S a)) 0)))
      answer_there = parts.2 _ (inr (inl refl))

      abbrev root : Name
      root = choice (front (Reads p a)) (entries S (Reads p a))

      answer_is : (run n).net (name (Answer p a)) ≡ cond (eqb ((run n).net root) 1) ((run n).net (name (Raw p a))) 0
      answer_is =
          wire_driven title (task_elements S) run f (bits_of (array_kind S a)) (name (Answer p a)) (Choose (Net root) (net (Raw p a)) (Literal (bits_of (array_kind S a)) 0)) answer_there n

      cell_is : cell σ.arrays a v ≡ cond (nat_lt v (array_cells S a)) ((run n).cell (name (Array a)) v) 0
      cell_is = is.arrays a v there

      here : (b : Bool) → nat_lt v (array_cells S a) ≡ b → (run n).net (name (Answer p a)) ≡ cell σ.arrays a v
      here true e =
          let low : v < array_cells S a = ltb-true v (array_cells S a) e in
          let few = is.few a in
          let bits : array_cells S a - 1 < 2 ^ index_bits S a = fits_bits (array_cells S a - 1) (omega (arith, few)) in
          let on : (run n).net (name (ReadOn k p)) ≡ 1 = on_is ∙ ap one_if e in
          let set : (run n).net root ≡ 1 = any_on S title run f (Reads p a) parts.0 n k is.low (spot_entry (ReadOn k p)) (own_entry (ReadOn k p)) on in
          let some : 0 < index_bits S a = has_bits (array_cells S a - 1) (omega (arith, few)) in
          let low_is : atom_value (run n) (low_bits (index_bits S a) (read_index p k r).atom) ≡ v =
          low_bits_is f.sizes (run n) 64 v (index_bits S a) (read_index p k r).atom shown some ∙ mod-eq_of_lt (omega (arith, low, bits)) in
          let spot : (run n).net (choice (front (ArrayIndex p a)) (entries S (ArrayIndex p a))) ≡ v =
          pick_on S title run f (ArrayIndex p a) (index_bits S a) parts.1 n k v is.here is.low (λ d h. inr (subst (λ (z : Entry). atom_value (run n) z.value ≡ v) (alone _ (spot_entry (At k)) d (given (At k)) h) low_is)) (spot_entry (At k)) (own_entry (At k))
          (at_here S title run f n k is.low is.here) in
          let cells : f.sizes.cells (name (Array a)) ≡ array_cells S a = cells_declared title (task_elements S) run f (bits_of (array_kind S a)) (name (Array a)) (array_cells S a) (array_there S a there) in
          let raw : (run n).net (name (Raw p a)) ≡ (run n).cell (name (Array a)) v =
          wire_driven title (task_elements S) run f (bits_of (array_kind S a)) (name (Raw p a)) (Cell (name (Array a)) (choice (front (ArrayIndex p a)) (entries S (ArrayIndex p a)))) raw_there n
          ∙ ap (λ z. cond (nat_lt z (f.sizes.cells (name (Array a)))) ((run n).cell (name (Array a)) z) 0) spot
          ∙ ap (λ z. cond (nat_lt v z) ((run n).cell (name (Array a)) v) 0) cells ∙ ap (λ z. cond z ((run n).cell (name (Array a)) v) 0) e in
          answer_is ∙ ap (λ z. cond (eqb z 1) ((run n).net (name (Raw p a))) 0) set ∙ raw ∙ sym (cell_is ∙ ap (λ z. cond z ((run n).cell (name (Array a)) v) 0) e)
      here false e =
          let off : (run n).net (name (ReadOn k p)) ≡ 0 = on_is ∙ ap one_if e in
          let some : 0 < length (entries S (Reads p a)) = some_length (entries S (Reads p a)) (spot_entry (ReadOn k p)) (has_each (effect S (Reads p a)) (state_count S) k (spot_entry (ReadOn k p)) is.low (own_entry (ReadOn k p))) in
          let clear : (run n).net root ≡ 0 = any_off S title run f (Reads p a) parts.0 n k is.here some (λ d h. subst (λ (z : Entry). (run n).net z.condition ≡ 0) (alone _ (spot_entry (ReadOn k p)) d (given (ReadOn k p)) h) off) in
          answer_is ∙ ap (λ z. cond (eqb z 1) ((run n).net (name (Raw p a))) 0) clear ∙ sym (cell_is ∙ ap (λ z. cond z ((run n).cell (name (Array a)) v) 0) e)

      read_shown : AnswerShown f.sizes (run n) K σ p r
      read_shown = record {
        whole = tt;
        width = (told (all S) (λ e h. h) (bits_of (array_kind S a)) (name (Answer p a)) (Choose (Net root) (net (Raw p a)) (Literal (bits_of (array_kind S a)) 0)) answer_there).1;
        value = here (nat_lt v (array_cells S a)) refl;
      }

    abbrev IsRead : ℕ → ArrayRead → Type 0
    IsRead p r = slice_get (reads_at S k) p ≡ Some r

    abbrev Answers : ℕ → List ArrayRead → Type 0
    Answers m reads = Numbered (AnswerShown f.sizes (run n) K σ) m reads

    -- the wires of a read's index
    index_told : (p : ℕ) (r : ArrayRead) → IsRead p r → AreSaid f.sizes (run n) (read_index p k r).elements
    index_told p r got =
        told (read_index p k r).elements
        (λ e h.
        let l = is.low in
        let x : p < length (reads_at S k) = got_low (reads_at S k) p r got in
        let y : length (reads_at S k) ≤ read_numbers S = most_of (λ j. length (reads_at S j)) (state_count S) k l in
        asked_in S p k (omega (arith, x, y)) l e (subst (λ o. Has (asked_of S p k o) e) (sym got) (has_left (read_index p k r).elements _ e h)))

    -- the reads of an expression
    answers_of : (e : Expression) (j : Kind) (m : ℕ) → IsOfKind K e j → NamesWithin R e → Numbered IsRead m (reads_in m e) → Answers m (reads_in m e)
    answers_of (CellOf a i) j m t g h =
        let r : ArrayRead = record { array = a; index = i; first = m } in
        let first = answers_of i kind.U64 m t.1 g.1 (numbered_left IsRead m (reads_in m i) (r ∷ []) h) in
        let got = (numbered_second IsRead m i (r ∷ []) h).0 in
        let shown = computed f.sizes (run n) K R σ is.fits is.registers i kind.U64 (read_front k (m + read_count i)) m 0 t.1 g.1 first (index_told (m + read_count i) r got) in
        let within = is.within in
        let low = g.0 in
        numbered_join (AnswerShown f.sizes (run n) K σ) m i (r ∷ []) first (read_shown (m + read_count i) r got (omega (arith, within, low)) shown, tt)
    answers_of (Converted source target e) j m t g h = answers_of e source m t.1 g h
    answers_of (Applied o i l r) j m t g h =
        numbered_join (AnswerShown f.sizes (run n) K σ) m l (reads_in (m + read_count l) r) (answers_of l i m t.1 g.0 (numbered_left IsRead m (reads_in m l) (reads_in (m + read_count l) r) h))
        (answers_of r (right_kind o i) (m + read_count l) t.2 g.1 (numbered_second IsRead m l (reads_in (m + read_count l) r) h))
    answers_of (Flipped i e) j m t g h = answers_of e i m t.1 g h
    answers_of (Inverse e) j m t g h = answers_of e kind.Bool m t.1 g h
    answers_of (Both l r) j m t g h =
        numbered_join (AnswerShown f.sizes (run n) K σ) m l (reads_in (m + read_count l) r) (answers_of l kind.Bool m t.1 g.0 (numbered_left IsRead m (reads_in m l) (reads_in (m + read_count l) r) h))
        (answers_of r kind.Bool (m + read_count l) t.2 g.1 (numbered_second IsRead m l (reads_in (m + read_count l) r) h))
    answers_of (Either l r) j m t g h =
        numbered_join (AnswerShown f.sizes (run n) K σ) m l (reads_in (m + read_count l) r) (answers_of l kind.Bool m t.1 g.0 (numbered_left IsRead m (reads_in m l) (reads_in (m + read_count l) r) h))
        (answers_of r kind.Bool (m + read_count l) t.2 g.1 (numbered_second IsRead m l (reads_in (m + read_count l) r) h))
    answers_of (Chosen e x y) j m t g h =
        let ab = reads_in (m + read_count e) x ++ reads_in (m + read_count e + read_count x) y in
        let late = numbered_second IsRead m e ab h in
        numbered_join (AnswerShown f.sizes (run n) K σ) m e ab (answers_of e kind.Bool m t.0 g.0 (numbered_left IsRead m (reads_in m e) ab h))
        (numbered_join (AnswerShown f.sizes (run n) K σ) (m + read_count e) x (reads_in (m + read_count e + read_count x) y)
        (answers_of x j (m + read_count e) t.1 g.1 (numbered_left IsRead (m + read_count e) (reads_in (m + read_count e) x) (reads_in (m + read_count e + read_count x) y) late))
        (answers_of y j (m + read_count e + read_count x) t.2 g.2 (numbered_second IsRead (m + read_count e) x (reads_in (m + read_count e + read_count x) y) late)))
    answers_of _ j m t g h = tt

    abbrev index : Expression
    index = index_of (form_at S k)

    abbrev late_reads : List ArrayRead
    late_reads = reads_in (read_count index) (value_of (form_at S k))

    are_reads : Numbered IsRead 0 (reads_at S k)
    are_reads = numbered_from IsRead 0 (reads_at S k) (λ i r e. let z : i ≡ 0 + i = omega arith in subst (λ p. slice_get (reads_at S k) p ≡ Some r) z e)

    index_answers : Answers 0 (reads_in 0 index)
    index_answers =
        ⊎_elim (λ t. answers_of index kind.U64 0 t (index_within R (form_at S k) is.ranged) (numbered_left IsRead 0 (reads_in 0 index) late_reads are_reads)) (λ e. subst (λ z. Answers 0 (reads_in 0 z)) (sym e) tt) (index_typed S (form_at S k) is.typed)

    none_before : (m : ℕ) → 0 + m ≡ m
    none_before m = omega arith

    value_answers : Answers (read_count index) late_reads
    value_answers =
        answers_of (value_of (form_at S k)) (value_kind S (form_at S k)) (read_count index) (value_typed S (form_at S k) is.typed) (value_within R (form_at S k) is.ranged)
        (subst (λ z. Numbered IsRead z late_reads) (none_before (read_count index)) (numbered_second IsRead 0 index late_reads are_reads))

    pub reads_shown : AnswersShown f.sizes (run n) K σ 0 (reads_at S k)
    reads_shown =
        numbered_join (AnswerShown f.sizes (run n) K σ) 0 index late_reads index_answers (subst (λ z. Answers z late_reads) (sym (none_before (read_count index))) value_answers)

    pub value_shown : Shows f.sizes (run n) (value_wires S k).atom (bits_of (value_kind S (form_at S k))) (value (value_of (form_at S k)) σ)
    value_shown =
        computed f.sizes (run n) K R σ is.fits is.registers (value_of (form_at S k)) (value_kind S (form_at S k)) (value_front k) (read_count index) 0 (value_typed S (form_at S k) is.typed) (value_within R (form_at S k) is.ranged) value_answers
        (told (value_wires S k).elements (value_in S k is.low))

    pub index_shown : IsOfKind K index kind.U64 → Shows f.sizes (run n) (index_wires S k).atom 64 (value index σ)
    index_shown t = computed f.sizes (run n) K R σ is.fits is.registers index kind.U64 (index_front k) 0 0 t (index_within R (form_at S k) is.ranged) index_answers (told (index_wires S k).elements (index_in S k is.low))

pub reads_are_shown : ReadsAreShown
reads_are_shown S title run f R σ n k is = reads_shown S title run f n R σ k is

pub value_is_shown : ValueIsShown
value_is_shown S title run f R σ n k is = value_shown S title run f n R σ k is

pub index_is_shown : IndexIsShown
index_is_shown S title run f R σ n k is t = index_shown S title run f n R σ k is t
