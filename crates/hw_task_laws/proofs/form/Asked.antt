-- The reads of arrays fit, each behind those before it.
use Rattle.std.proofs.Common.{◌≡◌, ℕ, zero, suc, ◌+◌, ◌^◌, ◌<◌, ◌≤◌, Bool, true, false, cond, eqb, List, [], ◌∷◌, ◌++◌, length, Option, Some, None, inl, inr, refl, sym, ap, subst, ◌∙◌, arith, eq-eqb, eqb-true, ⊎_elim}
use Rattle.std.specs.Prelude.{slice_get}
use Rattle.std.proofs.Math.Pow.{pow_pos}
use Rattle.tapa_base.specs.declared.kind.Kind.{Kind}
use Rattle.tapa_base.specs.declared.kind.Kind.TheVariants as kind
use Rattle.tapa_base.specs.Kinds.{bits_of}
use Rattle.tapa_syntax.specs.LeafKinds.{Kinds}
use Rattle.tapa_syntax.specs.Typed.{right_kind}
use Rattle.vlog_tree.specs.declared.tree.Atom.{Atom}
use Rattle.vlog_tree.specs.declared.tree.Atom.TheVariants.{Net as NetAtom, Literal}
use Rattle.vlog_tree.specs.declared.tree.BinaryOp.TheVariants.{Less}
use Rattle.vlog_tree.specs.declared.tree.Value.TheVariants.{Binary, Choose, Cell}
use Rattle.tapa_base.specs.Lists.{Has}
use Rattle.tapa_base.proofs.Lists.{has_left, has_right}
use Rattle.hw_build.specs.Elements.{Element, Wire, Register}
use Rattle.hw_build.specs.Scope.{each, IsNet, IsMemory, AtomIs, FitInOrder}
use Rattle.hw_build.specs.Choices.{Entry, choice}
use Rattle.hw_build.specs.Fits.{IsAmong}
use Rattle.hw_build.proofs.Parts.{has_each, of_each, parts_fit, each_part_fits}
use Rattle.hw_build.proofs.Picks.{any_fits, pick_fits}
use Rattle.task_fsm.specs.Machine.{Expression, CellOf, Converted, Applied, Flipped, Inverse, Both, Either, Chosen}
use Rattle.task_fsm.specs.MachineKinds.{IsOfKind}
use Rattle.task_fsm.specs.Ranges.{Ranges, NamesWithin}
use Rattle.hw_lines.specs.declared.nets.Choice.TheVariants.{Reads, ArrayIndex}
use Rattle.hw_lines.specs.declared.nets.Net.{Net}
use Rattle.hw_lines.specs.declared.nets.Net.TheVariants.{State as StateNet, Ended, Variable, Array, At, Answer, Raw, ReadInside, ReadOn}
use Rattle.hw_lines.specs.Nets.{name, front, read_front}
use Rattle.hw_lines.specs.Shape.{Shape, kinds_in, array_kind, array_cells, register_kind, index_bits, state_count, state_bits, form_at}
use Rattle.hw_lines.specs.Drivers.{low_bits}
use Rattle.hw_lines.specs.Wires.{ArrayRead, read_count, reads_in}
use Rattle.hw_lines.specs.States.{net, index_of, value_of, value_kind, reads_at, decoded}
use Rattle.hw_lines.specs.Effects.{entry, at, effect, entries, spot_of}
use Rattle.hw_lines.specs.Texts.{variable, array, held, read_index, asked_of, asked, answered, unless_none, reads_of, read_numbers, any, pick}
use Rattle.hw_lines.proofs.Decodes.{most_of}
use Rattle.hw_task_laws.specs.wires.Computes.{Numbered}
use Rattle.hw_task_laws.proofs.wires.Computed.{reads_counted, numbered_left, numbered_second, numbered_join}
use Rattle.hw_task_laws.proofs.fit.Scopes.{left_among, both_among, wire_net, register_net, memory_there, atom_in, fit_behind, kind_wide, any_root, pick_root}
use Rattle.hw_task_laws.proofs.fit.Operators.{low_fits}
use Rattle.hw_task_laws.specs.fit.Built.{AnswerNet, RegisterNets, IsBuilt}
use Rattle.hw_task_laws.proofs.fit.Expressions.{compiled_fits}
use Rattle.hw_task_laws.proofs.form.Task.{ranges_in, IsTask, some_index, few_index, index_wide}
use Rattle.hw_task_laws.proofs.acts.Answered.{numbered_from, value_typed, index_typed, value_within, index_within, not_none, only_entry, some_length}
use Rattle.tapa_base.proofs.Got.{got_low}

-- ---- numbered reads

numbered_map : (P Q : ℕ → ArrayRead → Type 0) → ((p : ℕ) (r : ArrayRead) → P p r → Q p r) → (m : ℕ) (reads : List ArrayRead) → Numbered P m reads → Numbered Q m reads
numbered_map P Q f m [] h = tt
numbered_map P Q f m (r ∷ reads) h = (f m r h.0, numbered_map P Q f (suc m) reads h.1)

numbered_below : (P : ℕ → ArrayRead → Type 0) (b m : ℕ) (reads : List ArrayRead) → m + length reads ≤ b → Numbered P m reads → Numbered (λ p r. (p < b) × P p r) m reads
numbered_below P b m [] l h = tt
numbered_below P b m (r ∷ reads) l h = let k : m + suc (length reads) ≤ b = l in ((omega (arith, k), h.0), numbered_below P b (suc m) reads (omega (arith, k)) h.1)

numbered_at : (P : ℕ → ArrayRead → Type 0) (m i : ℕ) (reads : List ArrayRead) (r : ArrayRead) → Numbered P m reads → slice_get reads i ≡ Some r → P (m + i) r
numbered_at P m i [] r h e = absurd cc
numbered_at P m zero (q ∷ reads) r h e = let s : q ≡ r = cc in let z : m ≡ m + 0 = omega arith in subst (λ n. P n r) z (subst (P m) s h.0)
numbered_at P m (suc i) (q ∷ reads) r h e = let z : suc m + i ≡ m + suc i = omega arith in subst (λ n. P n r) z (numbered_at P (suc m) i reads r h.1 e)

-- ---- entries

pub of_at : (x y : ℕ) (es : List Entry) (d : Entry) → Has (at x y es) d → (x ≡ y) × Has es d
of_at x y es d h = here (eqb x y) refl h where
  here : (b : Bool) → eqb x y ≡ b → Has (cond b es []) d → (x ≡ y) × Has es d
  here true e k = (eqb-true x y e, k)
  here false e k = absurd k

abbrev pub EntryFits : List Element → ℕ → Entry → Type 0
EntryFits before w d = IsNet before d.condition 1 × AtomIs before w d.value

pub of_entry : (before : List Element) (w : ℕ) (x : Net) (a : Atom) (d : Entry) → IsNet before (name x) 1 → AtomIs before w a → Has (entry x a) d → EntryFits before w d
of_entry before w x a d h k (inl e) = subst (λ (z : Entry). EntryFits before w z) e (h, k)
of_entry before w x a d h k (inr n) = absurd n

pub unless_fits : (before : List Element) (es : List Entry) (xs : List Element) → (0 < length es → FitInOrder before xs) → FitInOrder before (unless_none es xs)
unless_fits before [] xs h = tt
unless_fits before (e ∷ es) xs h = h (omega arith)

pub some_of : {A : Type 0} (xs : List A) → 0 < length xs → (x : A) × Has xs x
some_of [] h = absurd (omega (arith, h))
some_of (y ∷ ys) h = (y, inl refl)

-- ---- what is held

module _ (S : Shape) (all : List Element) (kept : IsAmong (held S) all) where
  pub state_net : IsNet all (name StateNet) (state_bits S)
  state_net = register_net all (state_bits S) (name StateNet) (kept _ (inl refl))

  pub ended_net : IsNet all (name Ended) 1
  ended_net = register_net all 1 (name Ended) (kept _ (inr (inl refl)))

  pub variable_has : (x : ℕ) → x < length S.registers → Has all (Register (bits_of (register_kind S x)) (name (Variable x)))
  variable_has x l =
      kept _ (inr (inr (has_left (each (variable S) (length S.registers)) (each (array S) (length S.arrays)) _ (has_each (variable S) (length S.registers) x _ l (inl refl)))))

  pub registers_in : RegisterNets all (kinds_in S) (length S.registers)
  registers_in x l = register_net all (bits_of (register_kind S x)) (name (Variable x)) (variable_has x l)

  pub array_in : (a : ℕ) → a < length S.arrays → IsMemory all (name (Array a)) (bits_of (array_kind S a))
  array_in a l =
      memory_there all (bits_of (array_kind S a)) (name (Array a)) (array_cells S a)
      (kept _ (inr (inr (has_right (each (variable S) (length S.registers)) (each (array S) (length S.arrays)) _ (has_each (array S) (length S.arrays) a _ l (inl refl))))))

pub at_net : (S : Shape) (all : List Element) → IsAmong (each (decoded S) (state_count S)) all → (k : ℕ) → k < state_count S → IsNet all (name (At k)) 1
at_net S all decodes k l = wire_net all 1 (name (At k)) _ (decodes _ (has_each (decoded S) (state_count S) k _ l (inl refl)))

-- ---- the reads of a state

module _ (S : Shape) (T : IsTask S) where
  abbrev K : Kinds
  K = kinds_in S

  abbrev R : Ranges
  R = ranges_in S

  abbrev IsRead : ℕ → ℕ → ArrayRead → Type 0
  IsRead k p r = slice_get (reads_at S k) p ≡ Some r

  -- a read whose index has its kind, and reads what is read before
  pub record IsGood (k p : ℕ) (r : ArrayRead) : Type 0 where
    pub typed : IsOfKind K r.index kind.U64
    pub names : NamesWithin R r.index
    pub there : r.array < length S.arrays
    pub inner : Numbered (λ q s. (q < p) × IsRead k q s) r.first (reads_in r.first r.index)

  good_of : (k : ℕ) (e : Expression) (j : Kind) (m : ℕ) → IsOfKind K e j → NamesWithin R e → Numbered (IsRead k) m (reads_in m e) → Numbered (IsGood k) m (reads_in m e)
  good_of k (CellOf a i) j m t g h =
      let r : ArrayRead = record { array = a; index = i; first = m } in
      let inner = numbered_left (IsRead k) m (reads_in m i) (r ∷ []) h in
      let c = reads_counted m i in
      numbered_join (IsGood k) m i (r ∷ []) (good_of k i kind.U64 m t.1 g.1 inner)
      (record { typed = t.1; names = g.1; there = g.0; inner = numbered_below (IsRead k) (m + read_count i) m (reads_in m i) (omega (arith, c)) inner }, tt)
  good_of k (Converted s q e) j m t g h = good_of k e s m t.1 g h
  good_of k (Applied o i l r) j m t g h =
      numbered_join (IsGood k) m l (reads_in (m + read_count l) r) (good_of k l i m t.1 g.0 (numbered_left (IsRead k) m (reads_in m l) (reads_in (m + read_count l) r) h))
      (good_of k r (right_kind o i) (m + read_count l) t.2 g.1 (numbered_second (IsRead k) m l (reads_in (m + read_count l) r) h))
  good_of k (Flipped i e) j m t g h = good_of k e i m t.1 g h
  good_of k (Inverse e) j m t g h = good_of k e kind.Bool m t.1 g h
  good_of k (Both l r) j m t g h =
      numbered_join (IsGood k) m l (reads_in (m + read_count l) r) (good_of k l kind.Bool m t.1 g.0 (numbered_left (IsRead k) m (reads_in m l) (reads_in (m + read_count l) r) h))
      (good_of k r kind.Bool (m + read_count l) t.2 g.1 (numbered_second (IsRead k) m l (reads_in (m + read_count l) r) h))
  good_of k (Either l r) j m t g h =
      numbered_join (IsGood k) m l (reads_in (m + read_count l) r) (good_of k l kind.Bool m t.1 g.0 (numbered_left (IsRead k) m (reads_in m l) (reads_in (m + read_count l) r) h))
      (good_of k r kind.Bool (m + read_count l) t.2 g.1 (numbered_second (IsRead k) m l (reads_in (m + read_count l) r) h))
  good_of k (Chosen e x y) j m t g h =
      let xs = reads_in (m + read_count e) x in
      let ys = reads_in (m + read_count e + read_count x) y in
      let late = numbered_second (IsRead k) m e (xs ++ ys) h in
      numbered_join (IsGood k) m e (xs ++ ys) (good_of k e kind.Bool m t.0 g.0 (numbered_left (IsRead k) m (reads_in m e) (xs ++ ys) h))
      (numbered_join (IsGood k) (m + read_count e) x ys (good_of k x j (m + read_count e) t.1 g.1 (numbered_left (IsRead k) (m + read_count e) xs ys late))
      (good_of k y j (m + read_count e + read_count x) t.2 g.2 (numbered_second (IsRead k) (m + read_count e) x ys late)))
  good_of k _ j m t g h = tt

  none_before : (m : ℕ) → 0 + m ≡ m
  none_before m = omega arith

  abbrev index_at : ℕ → Expression
  index_at k = index_of (form_at S k)

  abbrev late_reads : ℕ → List ArrayRead
  late_reads k = reads_in (read_count (index_at k)) (value_of (form_at S k))

  are_reads : (k : ℕ) → Numbered (IsRead k) 0 (reads_at S k)
  are_reads k = numbered_from (IsRead k) 0 (reads_at S k) (λ i r e. subst (λ n. IsRead k n r) (sym (none_before i)) e)

  all_good : (k : ℕ) → Numbered (IsGood k) 0 (reads_at S k)
  all_good k =
      let front = numbered_left (IsRead k) 0 (reads_in 0 (index_at k)) (late_reads k) (are_reads k) in
      let late : Numbered (IsRead k) (0 + read_count (index_at k)) (late_reads k) = numbered_second (IsRead k) 0 (index_at k) (late_reads k) (are_reads k) in
      numbered_join (IsGood k) 0 (index_at k) (late_reads k)
      (⊎_elim (λ t. good_of k (index_at k) kind.U64 0 t (index_within R (form_at S k) (T.ranged k)) front) (λ e. subst (λ z. Numbered (IsGood k) 0 (reads_in 0 z)) (sym e) tt) (index_typed S (form_at S k) (T.typed k)))
      (subst (λ z. Numbered (IsGood k) z (late_reads k)) (sym (none_before (read_count (index_at k))))
      (good_of k (value_of (form_at S k)) (value_kind S (form_at S k)) (read_count (index_at k)) (value_typed S (form_at S k) (T.typed k)) (value_within R (form_at S k) (T.ranged k))
      (subst (λ z. Numbered (IsRead k) z (late_reads k)) (none_before (read_count (index_at k))) late)))

  pub good_at : (k p : ℕ) (r : ArrayRead) → IsRead k p r → IsGood k p r
  good_at k p r e = subst (λ n. IsGood k n r) (none_before p) (numbered_at (IsGood k) 0 p (reads_at S k) r (all_good k) e)

  -- ---- their answers

  abbrev answer_wire : ℕ → ℕ → Element
  answer_wire p a =
      Wire (bits_of (array_kind S a)) (name (Answer p a)) (Choose (NetAtom (choice (front (Reads p a)) (entries S (Reads p a)))) (net (Raw p a)) (Literal (bits_of (array_kind S a)) 0))

  abbrev spot_entry : ℕ → ℕ → ArrayRead → Entry
  spot_entry k p r = record { condition = name (ReadOn k p); value = low_bits (index_bits S r.array) (read_index p k r).atom }

  spot_has : (k p : ℕ) (r : ArrayRead) → k < state_count S → IsRead k p r → Has (entries S (Reads p r.array)) (spot_entry k p r)
  spot_has k p r l e =
      has_each (effect S (Reads p r.array)) (state_count S) k (spot_entry k p r) l
      (subst (λ es. Has es (spot_entry k p r)) (sym (ap (spot_of S (ReadOn k p) p r.array k) e ∙ only_entry r.array (spot_entry k p r ∷ []))) (inl refl))

  answer_has : (k p : ℕ) (r : ArrayRead) → k < state_count S → IsRead k p r → r.array < length S.arrays → Has (reads_of S p) (answer_wire p r.array)
  answer_has k p r l e there =
      let a = r.array in
      let f = λ (b : ℕ). unless_none (entries S (Reads p b)) (answered S p b) in
      has_right (each (asked S p) (state_count S)) (each f (length S.arrays)) (answer_wire p a)
      (has_each f (length S.arrays) a (answer_wire p a) there
      (subst (λ es. Has es (answer_wire p a)) (sym (not_none (entries S (Reads p a)) (spot_entry k p r) (answered S p a) (spot_has k p r l e)))
      (has_right (any S (Reads p a) ++ pick S (index_bits S a) (ArrayIndex p a)) _ (answer_wire p a) (inr (inl refl)))))

  pub answer_net : (all : List Element) (k p : ℕ) (r : ArrayRead) → k < state_count S → IsRead k p r → r.array < length S.arrays → IsAmong (reads_of S p) all → AnswerNet all K p r
  answer_net all k p r l e there among = wire_net all (bits_of (array_kind S r.array)) (name (Answer p r.array)) _ (among (answer_wire p r.array) (answer_has k p r l e there))

  -- ---- they fit

  module _ (before : List Element) (kept : IsAmong (held S) before) (decodes : IsAmong (each (decoded S) (state_count S)) before) where
    module _ (p : ℕ) where
      abbrev B : List Element
      B = before ++ each (reads_of S) p

      kept_B : IsAmong (held S) B
      kept_B e h = has_left before (each (reads_of S) p) e (kept e h)

      decodes_B : IsAmong (each (decoded S) (state_count S)) B
      decodes_B e h = has_left before (each (reads_of S) p) e (decodes e h)

      index_built : (k : ℕ) (r : ArrayRead) → k < state_count S → IsRead k p r → IsBuilt B 64 (read_index p k r)
      index_built k r l e =
          let g = good_at k p r e in
          compiled_fits B K R (registers_in S B kept_B) r.index kind.U64 (read_front k p) r.first 0 g.typed g.names
          (numbered_map (λ q s. (q < p) × IsRead k q s) (AnswerNet B K)
          (λ q s t. answer_net B k q s l t.1 (good_at k q s t.1).there (λ d h. has_right before (each (reads_of S) p) d (has_each (reads_of S) p q d t.0 h)))
          r.first (reads_in r.first r.index) g.inner)

      low_cells : (a : ℕ) → array_cells S a < 2 ^ 64
      low_cells a = let f = T.few_cells a in omega (arith, f)

      asked_fits : (k : ℕ) → k < state_count S → (o : Option ArrayRead) → slice_get (reads_at S k) p ≡ o → FitInOrder B (asked_of S p k o)
      asked_fits k l None e = tt
      asked_fits k l (Some r) e =
          let C = read_index p k r in
          let b = index_built k r l e in
          let inside = Wire 1 (name (ReadInside k p)) (Binary C.atom Less (Literal 64 (array_cells S r.array))) in
          let Z = (B ++ C.elements) ++ inside ∷ [] in
          parts_fit B C.elements _ b.fits (
            (refl, (refl, (64, refl, b.atom, (refl, low_cells r.array)))),
            ((refl, (at_net S Z (λ d h. has_left (B ++ C.elements) (inside ∷ []) d (has_left B C.elements d (decodes_B d h))) k l, wire_net Z 1 (name (ReadInside k p)) _ (has_right (B ++ C.elements) (inside ∷ []) inside (inl refl)))), tt),
          )

      abbrev A : List Element
      A = B ++ each (asked S p) (state_count S)

      asked_among : (k : ℕ) (r : ArrayRead) → k < state_count S → IsRead k p r → IsAmong (asked_of S p k (Some r)) A
      asked_among k r l e d h = has_right B (each (asked S p) (state_count S)) d (has_each (asked S p) (state_count S) k d l (subst (λ o. Has (asked_of S p k o) d) (sym e) h))

      -- whether a cell is read
      on_net : (k : ℕ) (r : ArrayRead) → k < state_count S → IsRead k p r → IsNet A (name (ReadOn k p)) 1
      on_net k r l e = wire_net A 1 (name (ReadOn k p)) _ (asked_among k r l e _ (has_right (read_index p k r).elements _ _ (inr (inl refl))))

      here_net : (k : ℕ) → k < state_count S → IsNet A (name (At k)) 1
      here_net k l = at_net S A (λ d h. has_left B (each (asked S p) (state_count S)) d (decodes_B d h)) k l

      -- under a condition that is a net where there is such a read
      spot_fits : (x : Net) (a k : ℕ) (d : Entry) → k < state_count S → ((r : ArrayRead) → IsRead k p r → IsNet A (name x) 1) → (o : Option ArrayRead) → slice_get (reads_at S k) p ≡ o → Has (spot_of S x p a k o) d
          → EntryFits A (index_bits S a) d
      spot_fits x a k d l on None e h = absurd h
      spot_fits x a k d l on (Some r) e h =
          let t = of_at r.array a (entry x (low_bits (index_bits S a) (read_index p k r).atom)) d h in
          let C = read_index p k r in
          let b = index_built k r l e in
          let among = asked_among k r l e in
          let f = few_index S T a in
          of_entry A (index_bits S a) x (low_bits (index_bits S a) C.atom) d (on r e)
          (low_fits A 64 (index_bits S a) C.atom (some_index S T a) (omega (arith, f)) b.whole
          (atom_in (B ++ C.elements) A (both_among B C.elements A (left_among B (each (asked S p) (state_count S))) (λ c i. among c (has_left C.elements _ c i))) 64 C.atom b.atom)) t.1

      reads_fit_in : (a : ℕ) (d : Entry) → Has (entries S (Reads p a)) d → EntryFits A (index_bits S a) d
      reads_fit_in a d h = let r = of_each (effect S (Reads p a)) (state_count S) d h in spot_fits (ReadOn r.0 p) a r.0 d r.1 (λ s e. on_net r.0 s r.1 e) (slice_get (reads_at S r.0) p) refl r.2

      places_fit_in : (a : ℕ) (d : Entry) → Has (entries S (ArrayIndex p a)) d → EntryFits A (index_bits S a) d
      places_fit_in a d h = let r = of_each (effect S (ArrayIndex p a)) (state_count S) d h in spot_fits (At r.0) a r.0 d r.1 (λ s e. here_net r.0 r.1) (slice_get (reads_at S r.0) p) refl r.2

      -- where something is read, there is a place
      place_of : (a k : ℕ) (d : Entry) (o : Option ArrayRead) → Has (spot_of S (ReadOn k p) p a k o) d → (c : Entry) × Has (spot_of S (At k) p a k o) c
      place_of a k d None h = absurd h
      place_of a k d (Some r) h =
          let c : Entry = record { condition = name (At k); value = low_bits (index_bits S a) (read_index p k r).atom } in
          (c, subst (λ es. Has es c) (sym (ap (λ b. cond b (c ∷ []) []) (eq-eqb r.array a (of_at r.array a _ d h).0))) (inl refl))

      place_some : (a : ℕ) → 0 < length (entries S (Reads p a)) → 0 < length (entries S (ArrayIndex p a))
      place_some a some =
          let d = some_of (entries S (Reads p a)) some in
          let r = of_each (effect S (Reads p a)) (state_count S) d.0 d.1 in
          let c = place_of a r.0 d.0 (slice_get (reads_at S r.0) p) r.2 in
          some_length (entries S (ArrayIndex p a)) c.0 (has_each (effect S (ArrayIndex p a)) (state_count S) r.0 c.0 r.1 c.1)

      answered_fits : (a : ℕ) → a < length S.arrays → 0 < length (entries S (Reads p a)) → FitInOrder A (answered S p a)
      answered_fits a l some =
          let w = bits_of (array_kind S a) in
          let xs = any S (Reads p a) in
          let ys = pick S (index_bits S a) (ArrayIndex p a) in
          let Z = A ++ (xs ++ ys) in
          let raw = Wire w (name (Raw p a)) (Cell (name (Array a)) (choice (front (ArrayIndex p a)) (entries S (ArrayIndex p a)))) in
          let Y = Z ++ raw ∷ [] in
          let kept_Z : IsAmong (held S) Z = (λ d h. has_left A (xs ++ ys) d (has_left B (each (asked S p) (state_count S)) d (kept_B d h))) in
          parts_fit A (xs ++ ys) _
          (parts_fit A xs ys (any_fits A (front (Reads p a)) (entries S (Reads p a)) (λ d h. (reads_fit_in a d h).0))
          (fit_behind A xs ys (pick_fits A (index_bits S a) (front (ArrayIndex p a)) (entries S (ArrayIndex p a)) (index_wide S T a) (λ d h. places_fit_in a d h)))) (
            (kind_wide (array_kind S a), (array_in S Z kept_Z a l, (index_bits S a, pick_root Z (index_bits S a) (front (ArrayIndex p a)) (entries S (ArrayIndex p a)) (place_some a some) (λ d h. has_right A (xs ++ ys) d (has_right xs ys d h))))),
            ((kind_wide (array_kind S a), (any_root Y (front (Reads p a)) (entries S (Reads p a)) some (λ d h. has_left Z (raw ∷ []) d (has_right A (xs ++ ys) d (has_left xs ys d h))), wire_net Y w (name (Raw p a)) _ (has_right Z (raw ∷ []) raw (inl refl)), (refl, pow_pos w))), tt),
          )

      read_fits : FitInOrder B (reads_of S p)
      read_fits =
          parts_fit B (each (asked S p) (state_count S)) (each (λ a. unless_none (entries S (Reads p a)) (answered S p a)) (length S.arrays))
          (each_part_fits B (asked S p) (state_count S) (λ k l. asked_fits k l (slice_get (reads_at S k) p) refl))
          (each_part_fits A (λ a. unless_none (entries S (Reads p a)) (answered S p a)) (length S.arrays) (λ a l. unless_fits A (entries S (Reads p a)) (answered S p a) (answered_fits a l)))

    pub reads_fit : (n : ℕ) → FitInOrder before (each (reads_of S) n)
    reads_fit zero = tt
    reads_fit (suc n) = parts_fit before (each (reads_of S) n) (reads_of S n) (reads_fit n) (read_fits n)

  -- the answers of a state's reads, where all reads stand
  module _ (all : List Element) (reads : IsAmong (each (reads_of S) (read_numbers S)) all) (k : ℕ) (low : k < state_count S) where
    abbrev Answers : ℕ → List ArrayRead → Type 0
    Answers m rs = Numbered (AnswerNet all K) m rs

    answers_in : Answers 0 (reads_at S k)
    answers_in =
        numbered_from (AnswerNet all K) 0 (reads_at S k)
        (λ i r e.
        let x : i < length (reads_at S k) = got_low (reads_at S k) i r e in
        let y : length (reads_at S k) ≤ read_numbers S = most_of (λ j. length (reads_at S j)) (state_count S) k low in
        subst (λ n. AnswerNet all K n r) (sym (none_before i)) (answer_net all k i r low e (good_at k i r e).there (λ d h. reads d (has_each (reads_of S) (read_numbers S) i d (omega (arith, x, y)) h))))

    pub index_answers : Answers 0 (reads_in 0 (index_at k))
    index_answers = numbered_left (AnswerNet all K) 0 (reads_in 0 (index_at k)) (late_reads k) answers_in

    pub value_answers : Answers (read_count (index_at k)) (late_reads k)
    value_answers = subst (λ z. Answers z (late_reads k)) (none_before (read_count (index_at k))) (numbered_second (AnswerNet all K) 0 (index_at k) (late_reads k) answers_in)
