-- The wires of an expression read registers, answers and each other alone.
use Rattle.std.proofs.Common.{◌≡◌, ℕ, zero, suc, ◌+◌, ◌-◌, Bool, true, false, cond, eqb, List, [], ◌∷◌, ◌++◌, length, Option, Some, None, inl, inr, refl}
use Rattle.std.specs.Prelude.{nat_lt}
use Rattle.std.specs.List.{AllByRecursion}
use Rattle.tapa_base.specs.declared.kind.Kind.{Kind}
use Rattle.tapa_base.specs.declared.kind.Kind.TheVariants as kind
use Rattle.tapa_base.specs.declared.op.Op.{Op}
use Rattle.tapa_base.specs.declared.op.Op.TheVariants as op
use Rattle.tapa_base.specs.Kinds.{bits_of, is_signed}
use Rattle.tapa_syntax.specs.Typed.{right_kind}
use Rattle.vlog_tree.specs.declared.tree.Atom.{Atom}
use Rattle.vlog_tree.specs.declared.tree.Atom.TheVariants.{Net, Literal}
use Rattle.vlog_tree.specs.declared.tree.BinaryOp.{BinaryOp}
use Rattle.vlog_tree.specs.declared.tree.BinaryOp.TheVariants.{Plus, Minus, Times, Divide, Remainder, And, Or, Xor, ShiftLeft, ShiftRight, Equals, Differs, Less}
use Rattle.vlog_tree.specs.declared.tree.Value.{Value}
use Rattle.vlog_tree.specs.declared.tree.Value.TheVariants.{Plain, Invert, Binary, Choose, Concat}
use Rattle.tapa_base.specs.Lists.{Has}
use Rattle.vlog_tree.specs.Table.{Name}
use Rattle.hw_build.specs.Elements.{Element, Wire}
use Rattle.hw_build.specs.Trees.{numbered}
use Rattle.hw_build.specs.Choices.{Entry, row_of, any_driver, any_elements, pick_driver, pick_elements, choice}
use Rattle.task_fsm.specs.Machine.{Expression, Number, Reg, CellOf, Converted, Applied, Flipped, Inverse, Both, Either, Chosen}
use Rattle.hw_lines.specs.declared.nets.Net.TheVariants.{Variable, Answer}
use Rattle.hw_lines.specs.Nets.{name}
use Rattle.hw_lines.specs.Fixed.{fixed}
use Rattle.hw_lines.specs.Drivers.{Driver, wires_of, wire, after, last_of, one, half, low_bits, sign_of, extended, resized, tested, conversion, turned, turned_atom, less, not_less, as_wide, shift_count, shifted_right, absolute, is_negative, divided, operation}
use Rattle.hw_lines.specs.Wires.{read_count, Compiled, by_fixed, after_operands, converting, one_more, joining, choosing, compiled}
use Rattle.hw_task_laws.proofs.rests.Free.{is_free, free_by, FreeAtom, FreeValue, free_net, free_binary, free_choose, free_concat, Closed, wire_closed, one_closed, both_closed}

abbrev pub FreeDrivers : List Driver → Type 0
FreeDrivers drivers = AllByRecursion (λ (d : Driver). FreeValue d.1) drivers

drivers_append : (xs ys : List Driver) → FreeDrivers xs → FreeDrivers ys → FreeDrivers (xs ++ ys)
drivers_append [] ys h k = k
drivers_append (x ∷ xs) ys h k = (h.0, drivers_append xs ys h.1 k)

-- ---- parts of atoms

pub low_free : (w : ℕ) (a : Atom) → FreeAtom a → FreeAtom (low_bits w a)
low_free w (Literal v n) h = refl
low_free w _ h = h

sign_free : (w : ℕ) (a : Atom) → FreeAtom a → FreeAtom (sign_of w a)
sign_free w (Literal v n) h = refl
sign_free w _ h = h

count_free : (w : ℕ) (a : Atom) → FreeAtom a → FreeAtom (shift_count w a)
count_free w (Literal v n) h = refl
count_free w _ h = h

absolute_free : (w : ℕ) (a : Atom) → FreeAtom a → FreeAtom (absolute w a)
absolute_free w (Literal v n) h = refl
absolute_free w _ h = h

turned_free : (w : ℕ) (a : Atom) → FreeAtom a → FreeDrivers (turned w a)
turned_free w (Literal v n) h = tt
turned_free w g h = (free_binary g Xor (Literal w (half w)) h refl, tt)

pick_free : (c : Bool) (x y : Atom) → FreeAtom x → FreeAtom y → FreeAtom (cond c x y)
pick_free true x y h k = h
pick_free false x y h k = k

-- ---- operators, where the wires of a front are free

module _ (front : Name) (own : (i : ℕ) → is_free (numbered front i) ≡ true) where
  pub wire_free : (i : ℕ) → FreeAtom (wire front i)
  wire_free i = free_net (numbered front i) (own i)

  pub last_free : (n : ℕ) (drivers : List Driver) (a : Atom) → FreeAtom a → FreeAtom (last_of front n drivers a)
  last_free n [] a h = h
  last_free n (d ∷ drivers) a h = last_free (suc n) drivers (wire front n) (wire_free n)

  pub drivers_closed : (n : ℕ) (drivers : List Driver) → FreeDrivers drivers → Closed (wires_of front n drivers)
  drivers_closed n [] h = refl
  drivers_closed n (d ∷ drivers) h = one_closed (Wire d.0 (numbered front n) d.1) (wires_of front (suc n) drivers) (wire_closed d.0 (numbered front n) d.1 h.0) (drivers_closed (suc n) drivers h.1)

  turned_atom_free : (n w : ℕ) (a : Atom) → FreeAtom (turned_atom front n w a)
  turned_atom_free n w (Literal v m) = refl
  turned_atom_free n w _ = wire_free n

  extended_free : (s : Bool) (n narrow w : ℕ) (a : Atom) → FreeAtom a → FreeDrivers (extended s front n narrow w a)
  extended_free false n narrow w a h = (free_concat (Literal (w - narrow) 0) a refl h, tt)
  extended_free true n narrow w a h = (sign_free narrow a h, (free_concat (wire front n) a (wire_free n) h, tt))

  resized_free : (s : Bool) (n old new : ℕ) (a : Atom) → FreeAtom a → FreeDrivers (resized s front n old new a)
  resized_free s n old new a h = here (eqb old new) (nat_lt new old) where
    here : (b c : Bool) → FreeDrivers (cond b [] (cond c (one new (Plain (low_bits new a))) (extended s front n old new a)))
    here true c = tt
    here false true = (low_free new a h, tt)
    here false false = extended_free s n old new a h

  tested_free : (w : ℕ) (a : Atom) → FreeAtom a → FreeDrivers (tested w a)
  tested_free w a h = here (eqb w 1) where
    here : (b : Bool) → FreeDrivers (cond b [] (one 1 (Binary a Differs (Literal w 0))))
    here true = tt
    here false = (free_binary a Differs (Literal w 0) h refl, tt)

  conversion_free : (n : ℕ) (source target : Kind) (a : Atom) → FreeAtom a → FreeDrivers (conversion front n source target a)
  conversion_free n source kind.Bool a h = tested_free (bits_of source) a h
  conversion_free n source kind.I16 a h = resized_free (is_signed source) n (bits_of source) 16 a h
  conversion_free n source kind.U16 a h = resized_free (is_signed source) n (bits_of source) 16 a h
  conversion_free n source kind.I32 a h = resized_free (is_signed source) n (bits_of source) 32 a h
  conversion_free n source kind.U32 a h = resized_free (is_signed source) n (bits_of source) 32 a h
  conversion_free n source kind.I64 a h = resized_free (is_signed source) n (bits_of source) 64 a h
  conversion_free n source kind.U64 a h = resized_free (is_signed source) n (bits_of source) 64 a h
  conversion_free n source _ a h = resized_free (is_signed source) n (bits_of source) 8 a h

  less_free : (s : Bool) (n w : ℕ) (a b : Atom) → FreeAtom a → FreeAtom b → FreeDrivers (less s front n w a b)
  less_free false n w a b h k = (free_binary a Less b h k, tt)
  less_free true n w a b h k =
      let x = turned_atom front n w a in
      let y = turned_atom front (after n (turned w a)) w b in
      drivers_append (turned w a ++ turned w b) (one 1 (Binary x Less y)) (drivers_append (turned w a) (turned w b) (turned_free w a h) (turned_free w b k))
      (free_binary x Less y (turned_atom_free n w a) (turned_atom_free (after n (turned w a)) w b), tt)

  not_less_free : (s : Bool) (n w : ℕ) (a b : Atom) → FreeAtom a → FreeAtom b → FreeDrivers (not_less s front n w a b)
  not_less_free s n w a b h k =
      let drivers = less s front n w a b in
      let inner = last_of front n drivers (Literal 1 0) in
      drivers_append drivers (one 1 (Invert inner)) (less_free s n w a b h k) (last_free n drivers (Literal 1 0) refl, tt)

  wide_free : (n w : ℕ) (drivers : List Driver) → FreeDrivers drivers → FreeDrivers (as_wide front n w drivers)
  wide_free n w drivers h =
      let inner = last_of front n drivers (Literal 1 0) in
      drivers_append drivers (cond (eqb w 1) [] (one w (Concat (Literal (w - 1) 0 ∷ inner ∷ [])))) h (here (eqb w 1) inner (last_free n drivers (Literal 1 0) refl)) where
        here : (b : Bool) (c : Atom) → FreeAtom c → FreeDrivers (cond b [] (one w (Concat (Literal (w - 1) 0 ∷ c ∷ []))))
        here true c k = tt
        here false c k = (free_concat (Literal (w - 1) 0) c refl k, tt)

  shifted_free : (s : Bool) (n w : ℕ) (a b : Atom) → FreeAtom a → FreeAtom b → FreeDrivers (shifted_right s front n w a b)
  shifted_free false n w a b h k = (free_binary a ShiftRight (shift_count w b) h (count_free w b k), tt)
  shifted_free true n w a b h k = (
    h,
    (
      free_choose (sign_of w a) (wire front n) a (sign_free w a h) (wire_free n) h,
      (
        free_binary (wire front (suc n)) ShiftRight (shift_count w b) (wire_free (suc n)) (count_free w b k),
        (wire_free (suc (suc n)), (free_choose (sign_of w a) (wire front (suc (suc (suc n)))) (wire front (suc (suc n))) (sign_free w a h) (wire_free (suc (suc (suc n)))) (wire_free (suc (suc n))), tt)),
      ),
    ),
  )

  divided_free : (s : Bool) (o : BinaryOp) (back : Bool) (n w : ℕ) (a b : Atom) → FreeAtom a → FreeAtom b → FreeDrivers (divided s o back front n w a b)
  divided_free false o back n w a b h k = (free_binary a o b h k, tt)
  divided_free true o back n w a b h k =
      let w2 = wire front (suc (suc n)) in
      let w3 = wire front (suc (suc (suc n))) in
      let f2 = wire_free (suc (suc n)) in
      let f3 = wire_free (suc (suc (suc n))) in (
        free_binary (Literal w 0) Minus a refl h,
        (
          free_choose (sign_of w a) (wire front n) a (sign_free w a h) (wire_free n) h,
          (
            free_binary (wire front (suc n)) o (absolute w b) (wire_free (suc n)) (absolute_free w b k),
            (free_binary (Literal w 0) Minus w2 refl f2, (free_choose (sign_of w a) (cond back w2 w3) (cond back w3 w2) (sign_free w a h) (pick_free back w2 w3 f2 f3) (pick_free back w3 w2 f3 f2), tt)),
          ),
        ),
      )

  operation_free : (n : ℕ) (o : Op) (j k : Kind) (a b : Atom) → FreeAtom a → FreeAtom b → FreeDrivers (operation front n o j k a b)
  operation_free n op.Add j k a b h i = (free_binary a Plus b h i, tt)
  operation_free n op.Sub j k a b h i = (free_binary a Minus b h i, tt)
  operation_free n op.Mul j k a b h i = (free_binary a Times b h i, tt)
  operation_free n op.Div j k a b h i = divided_free (is_signed j) Divide (is_negative (bits_of j) b) n (bits_of j) a b h i
  operation_free n op.Rem j k a b h i = divided_free (is_signed j) Remainder false n (bits_of j) a b h i
  operation_free n op.And j k a b h i = (free_binary a And b h i, tt)
  operation_free n op.Or j k a b h i = (free_binary a Or b h i, tt)
  operation_free n op.Xor j k a b h i = (free_binary a Xor b h i, tt)
  operation_free n op.Shl j k a b h i = (free_binary a ShiftLeft (shift_count (bits_of j) b) h (count_free (bits_of j) b i), tt)
  operation_free n op.Shr j k a b h i = shifted_free (is_signed j) n (bits_of j) a b h i
  operation_free n op.Eq j k a b h i = wide_free n (bits_of k) (one 1 (Binary a Equals b)) (free_binary a Equals b h i, tt)
  operation_free n op.Ne j k a b h i = wide_free n (bits_of k) (one 1 (Binary a Differs b)) (free_binary a Differs b h i, tt)
  operation_free n op.Lt j k a b h i = wide_free n (bits_of k) (less (is_signed j) front n (bits_of j) a b) (less_free (is_signed j) n (bits_of j) a b h i)
  operation_free n op.Le j k a b h i = wide_free n (bits_of k) (not_less (is_signed j) front n (bits_of j) b a) (not_less_free (is_signed j) n (bits_of j) b a i h)
  operation_free n op.Gt j k a b h i = wide_free n (bits_of k) (less (is_signed j) front n (bits_of j) b a) (less_free (is_signed j) n (bits_of j) b a i h)
  operation_free n op.Ge j k a b h i = wide_free n (bits_of k) (not_less (is_signed j) front n (bits_of j) a b) (not_less_free (is_signed j) n (bits_of j) a b h i)

  -- ---- expressions

  pub record IsFree (C : Compiled) : Type 0 where
    pub closed : Closed C.elements
    pub atom : FreeAtom C.atom

  behind_free : (n : ℕ) (es : List Element) (c : ℕ) (drivers : List Driver) (a : Atom) → Closed es → FreeDrivers drivers → FreeAtom a → IsFree (after_operands front n es c drivers a)
  behind_free n es c drivers a h k l = record { closed = both_closed es (wires_of front (n + c) drivers) h (drivers_closed (n + c) drivers k); atom = last_free (n + c) drivers a l }

  fixed_free : (o : Option ℕ) (k : Kind) (C : Compiled) → IsFree C → IsFree (by_fixed o k C)
  fixed_free (Some v) k C h = record { closed = refl; atom = refl }
  fixed_free None k C h = h

  pub compiled_free : (m n : ℕ) (k : Kind) (e : Expression) → IsFree (compiled front m n k e)
  compiled_free m n k (Number j v) = record { closed = refl; atom = refl }
  compiled_free m n k (Reg x) = record { closed = refl; atom = free_net (name (Variable x)) (free_by (Variable x)) }
  compiled_free m n k (CellOf a i) = record { closed = refl; atom = free_net (name (Answer (m + read_count i) a)) (free_by (Answer (m + read_count i) a)) }
  compiled_free m n k (Converted s t e) =
      let C = compiled front m n s e in
      let c = compiled_free m n s e in
      fixed_free (fixed (Converted s t e)) k (converting front n s t C) (behind_free n C.elements C.count (conversion front (n + C.count) s t C.atom) C.atom c.closed (conversion_free (n + C.count) s t C.atom c.atom) c.atom)
  compiled_free m n k (Applied o j l r) =
      let C = compiled front m n j l in
      let D = compiled front (m + read_count l) (n + C.count) (right_kind o j) r in
      let c = compiled_free m n j l in
      let d = compiled_free (m + read_count l) (n + C.count) (right_kind o j) r in
      let i = n + (C.count + D.count) in
      fixed_free (fixed (Applied o j l r)) k (joining front n C D (λ i a b. operation front i o j k a b))
      (behind_free n (C.elements ++ D.elements) (C.count + D.count) (operation front i o j k C.atom D.atom) C.atom (both_closed C.elements D.elements c.closed d.closed) (operation_free i o j k C.atom D.atom c.atom d.atom) c.atom)
  compiled_free m n k (Flipped j e) =
      let C = compiled front m n j e in
      let c = compiled_free m n j e in
      fixed_free (fixed (Flipped j e)) k (one_more front n C (λ a. one (bits_of j) (Invert a))) (behind_free n C.elements C.count (one (bits_of j) (Invert C.atom)) C.atom c.closed (c.atom, tt) c.atom)
  compiled_free m n k (Inverse e) =
      let C = compiled front m n kind.Bool e in
      let c = compiled_free m n kind.Bool e in
      fixed_free (fixed (Inverse e)) k (one_more front n C (λ a. one 1 (Invert a))) (behind_free n C.elements C.count (one 1 (Invert C.atom)) C.atom c.closed (c.atom, tt) c.atom)
  compiled_free m n k (Both l r) =
      let C = compiled front m n kind.Bool l in
      let D = compiled front (m + read_count l) (n + C.count) kind.Bool r in
      let c = compiled_free m n kind.Bool l in
      let d = compiled_free (m + read_count l) (n + C.count) kind.Bool r in
      fixed_free (fixed (Both l r)) k (joining front n C D (λ i a b. one 1 (Binary a And b)))
      (behind_free n (C.elements ++ D.elements) (C.count + D.count) (one 1 (Binary C.atom And D.atom)) C.atom (both_closed C.elements D.elements c.closed d.closed) (free_binary C.atom And D.atom c.atom d.atom, tt) c.atom)
  compiled_free m n k (Either l r) =
      let C = compiled front m n kind.Bool l in
      let D = compiled front (m + read_count l) (n + C.count) kind.Bool r in
      let c = compiled_free m n kind.Bool l in
      let d = compiled_free (m + read_count l) (n + C.count) kind.Bool r in
      fixed_free (fixed (Either l r)) k (joining front n C D (λ i a b. one 1 (Binary a Or b)))
      (behind_free n (C.elements ++ D.elements) (C.count + D.count) (one 1 (Binary C.atom Or D.atom)) C.atom (both_closed C.elements D.elements c.closed d.closed) (free_binary C.atom Or D.atom c.atom d.atom, tt) c.atom)
  compiled_free m n k (Chosen e a b) =
      let C = compiled front m n kind.Bool e in
      let D = compiled front (m + read_count e) (n + C.count) k a in
      let E = compiled front (m + read_count e + read_count a) (n + C.count + D.count) k b in
      let c = compiled_free m n kind.Bool e in
      let d = compiled_free (m + read_count e) (n + C.count) k a in
      let f = compiled_free (m + read_count e + read_count a) (n + C.count + D.count) k b in
      fixed_free (fixed (Chosen e a b)) k (choosing front n k C D E)
      (behind_free n (C.elements ++ (D.elements ++ E.elements)) (C.count + (D.count + E.count)) (one (bits_of k) (Choose C.atom D.atom E.atom)) C.atom
      (both_closed C.elements (D.elements ++ E.elements) c.closed (both_closed D.elements E.elements d.closed f.closed)) (free_choose C.atom D.atom E.atom c.atom d.atom f.atom, tt) c.atom)

  -- ---- choices

  abbrev pub FreeEntries : List Entry → Type 0
  FreeEntries entries = (d : Entry) → Has entries d → (is_free d.condition ≡ true) × FreeAtom d.value

  row_closed : (w : ℕ) (driver : ℕ → Entry → Value) (j : ℕ) (entries : List Entry) → ((i : ℕ) (e : Entry) → Has entries e → FreeValue (driver i e)) → Closed (row_of w front driver j entries)
  row_closed w driver j [] h = refl
  row_closed w driver j (e ∷ entries) h =
      one_closed (Wire w (numbered front j) (driver j e)) (row_of w front driver (suc j) entries) (wire_closed w (numbered front j) (driver j e) (h j e (inl refl))) (row_closed w driver (suc j) entries (λ i d k. h i d (inr k)))

  any_driver_free : (entries : List Entry) → FreeEntries entries → (j : ℕ) (e : Entry) → Has entries e → FreeValue (any_driver front j e)
  any_driver_free entries h zero e k = free_net e.condition (h e k).0
  any_driver_free entries h (suc j) e k = free_binary (Net (numbered front j)) Or (Net e.condition) (wire_free j) (free_net e.condition (h e k).0)

  pub any_closed : (entries : List Entry) → FreeEntries entries → Closed (any_elements front entries)
  any_closed entries h = row_closed 1 (any_driver front) 0 entries (any_driver_free entries h)

  pick_driver_free : (entries : List Entry) → FreeEntries entries → (j : ℕ) (e : Entry) → Has entries e → FreeValue (pick_driver front j e)
  pick_driver_free entries h zero e k = (h e k).1
  pick_driver_free entries h (suc j) e k = let f = h e k in free_choose (Net e.condition) e.value (Net (numbered front j)) (free_net e.condition f.0) f.1 (wire_free j)

  pub pick_closed : (w : ℕ) (entries : List Entry) → FreeEntries entries → Closed (pick_elements w front entries)
  pick_closed w entries h = row_closed w (pick_driver front) 0 entries (pick_driver_free entries h)

  pub root_free : (entries : List Entry) → is_free (choice front entries) ≡ true
  root_free entries = own (length entries - 1)
