-- The wires of an expression show its value.
use Rattle.std.proofs.Common.{◌≡◌, ℕ, zero, suc, ◌+◌, ◌-◌, ◌*◌, ◌^◌, ◌<◌, cond, eqb, List, [], ◌∷◌, ◌++◌, length, Option, Some, None, refl, sym, ap, subst, ◌∙◌, arith, length-append}
use Rattle.std.specs.Prelude.{slice_index, bit_and, bit_or}
use Rattle.tapa_base.specs.declared.kind.Kind.{Kind}
use Rattle.tapa_base.specs.declared.kind.Kind.TheVariants as kind
use Rattle.tapa_base.specs.declared.op.Op.{Op}
use Rattle.tapa_base.specs.declared.op.Op.TheVariants as op
use Rattle.tapa_base.specs.Kinds.{bits_of, values_of}
use Rattle.tapa_base.specs.Operators.{CanApply}
use Rattle.tapa_syntax.specs.LeafKinds.{Kinds}
use Rattle.tapa_syntax.specs.Typed.{right_kind}
use Rattle.kahn_model.specs.Trace.{State, cell, at_zero}
use Rattle.vlog_tree.specs.declared.tree.Atom.{Atom}
use Rattle.vlog_tree.specs.declared.tree.Atom.TheVariants.{Net}
use Rattle.vlog_tree.specs.declared.tree.BinaryOp.TheVariants.{And, Or}
use Rattle.vlog_tree.specs.declared.tree.Value.TheVariants.{Invert, Binary, Choose}
use Rattle.vlog_tree.specs.Table.{Name}
use Rattle.vlog_tree.specs.Cycle.{Cycle, Sizes, atom_value}
use Rattle.tapa_base.proofs.Lists.{has_left, has_right}
use Rattle.hw_build.specs.Elements.{Element, Wire}
use Rattle.task_fsm.specs.Machine.{Expression, Number, Reg, CellOf, Converted, Applied, Flipped, Inverse, Both, Either, Chosen}
use Rattle.task_fsm.specs.MachineKinds.{IsFixed, IsOfKind, HoldsValues}
use Rattle.task_fsm.specs.MachineKinds as machine
use Rattle.task_fsm.specs.Ranges.{Ranges, NamesWithin}
use Rattle.task_fsm.specs.Run.{value}
use Rattle.task_fsm.proofs.Steps.{value_fits}
use Rattle.hw_lines.specs.declared.nets.Net.TheVariants.{Answer}
use Rattle.hw_lines.specs.Nets.{name}
use Rattle.hw_lines.specs.Fixed.{fixed}
use Rattle.hw_lines.specs.Drivers.{wires_of, one, conversion, operation}
use Rattle.hw_lines.specs.Wires.{ArrayRead, read_count, reads_in, Compiled, by_fixed, converting, one_more, joining, choosing, compiled}
use Rattle.hw_task_laws.specs.wires.Shows.{IsNumber, IsDivisor, Shows, AreSaid}
use Rattle.hw_task_laws.specs.wires.Computes.{Numbered, RegistersShown, AnswerShown, AnswersShown}
use Rattle.hw_task_laws.proofs.wires.Shown.{said_first, conversion_shown}
use Rattle.hw_task_laws.proofs.wires.Operated.{operation_shown}
use Rattle.hw_task_laws.proofs.wires.Fixes.{fixed_value, numbers_fixed}

sum_length : (xs ys : List ArrayRead) (n m : ℕ) → length xs ≡ n → length ys ≡ m → length (xs ++ ys) ≡ n + m
sum_length xs ys n m e f = let g = length-append xs ys in omega (arith, e, f, g)

pub reads_counted : (m : ℕ) (e : Expression) → length (reads_in m e) ≡ read_count e
reads_counted m (CellOf a i) = sum_length (reads_in m i) (record { array = a; index = i; first = m } ∷ []) (read_count i) 1 (reads_counted m i) refl
reads_counted m (Converted s t e) = reads_counted m e
reads_counted m (Applied o k l r) = sum_length (reads_in m l) (reads_in (m + read_count l) r) (read_count l) (read_count r) (reads_counted m l) (reads_counted (m + read_count l) r)
reads_counted m (Flipped k e) = reads_counted m e
reads_counted m (Inverse e) = reads_counted m e
reads_counted m (Both l r) = sum_length (reads_in m l) (reads_in (m + read_count l) r) (read_count l) (read_count r) (reads_counted m l) (reads_counted (m + read_count l) r)
reads_counted m (Either l r) = sum_length (reads_in m l) (reads_in (m + read_count l) r) (read_count l) (read_count r) (reads_counted m l) (reads_counted (m + read_count l) r)
reads_counted m (Chosen e a b) =
    sum_length (reads_in m e) (reads_in (m + read_count e) a ++ reads_in (m + read_count e + read_count a) b) (read_count e) (read_count a + read_count b) (reads_counted m e)
    (sum_length (reads_in (m + read_count e) a) (reads_in (m + read_count e + read_count a) b) (read_count a) (read_count b) (reads_counted (m + read_count e) a) (reads_counted (m + read_count e + read_count a) b))
reads_counted m _ = refl

-- reads before and behind others
module _ (P : ℕ → ArrayRead → Type 0) where
  pub numbered_left : (m : ℕ) (xs ys : List ArrayRead) → Numbered P m (xs ++ ys) → Numbered P m xs
  numbered_left m [] ys h = tt
  numbered_left m (x ∷ xs) ys h = (h.0, numbered_left (suc m) xs ys h.1)

  pub numbered_right : (m : ℕ) (xs ys : List ArrayRead) → Numbered P m (xs ++ ys) → Numbered P (m + length xs) ys
  numbered_right m [] ys h = let e : m ≡ m + 0 = omega arith in subst (λ z. Numbered P z ys) e h
  numbered_right m (x ∷ xs) ys h = let e : suc m + length xs ≡ m + suc (length xs) = omega arith in subst (λ z. Numbered P z ys) e (numbered_right (suc m) xs ys h.1)

  pub numbered_both : (m : ℕ) (xs ys : List ArrayRead) → Numbered P m xs → Numbered P (m + length xs) ys → Numbered P m (xs ++ ys)
  numbered_both m [] ys h i = let e : m + 0 ≡ m = omega arith in subst (λ z. Numbered P z ys) e i
  numbered_both m (x ∷ xs) ys h i = let e : m + suc (length xs) ≡ suc m + length xs = omega arith in (h.0, numbered_both (suc m) xs ys h.1 (subst (λ z. Numbered P z ys) e i))

  -- behind the reads of an expression
  pub numbered_second : (m : ℕ) (l : Expression) (ys : List ArrayRead) → Numbered P m (reads_in m l ++ ys) → Numbered P (m + read_count l) ys
  numbered_second m l ys h = subst (λ z. Numbered P (m + z) ys) (reads_counted m l) (numbered_right m (reads_in m l) ys h)

  pub numbered_join : (m : ℕ) (l : Expression) (ys : List ArrayRead) → Numbered P m (reads_in m l) → Numbered P (m + read_count l) ys → Numbered P m (reads_in m l ++ ys)
  numbered_join m l ys h i = numbered_both m (reads_in m l) ys h (subst (λ z. Numbered P (m + z) ys) (sym (reads_counted m l)) i)

-- a constant is a number
number_of : (o : Option ℕ) (v : ℕ) → o ≡ Some v → (k : Kind) (C : Compiled) → IsNumber (by_fixed o k C).atom
number_of None v e k C = cc
number_of (Some w) v e k C = tt

constant_atom : (front : Name) (m n : ℕ) (k : Kind) (e : Expression) (v : ℕ) → IsFixed e → fixed e ≡ Some v → IsNumber (compiled front m n k e).atom
constant_atom front m n k (Number j w) v f h = tt
constant_atom front m n k (Reg x) v f h = absurd f
constant_atom front m n k (CellOf a i) v f h = absurd f
constant_atom front m n k g v f h = number_of (fixed g) v h k _

and_bits : (a b : ℕ) → a < 2 → b < 2 → bit_and a b ≡ a * b
and_bits zero zero h i = refl
and_bits zero (suc zero) h i = refl
and_bits (suc zero) zero h i = refl
and_bits (suc zero) (suc zero) h i = refl
and_bits zero (suc (suc b)) h i = absurd (omega (arith, i))
and_bits (suc zero) (suc (suc b)) h i = absurd (omega (arith, i))
and_bits (suc (suc a)) b h i = absurd (omega (arith, h))

or_bits : (a b : ℕ) → a < 2 → b < 2 → bit_or a b ≡ 1 - (1 - a) * (1 - b)
or_bits zero zero h i = refl
or_bits zero (suc zero) h i = refl
or_bits (suc zero) zero h i = refl
or_bits (suc zero) (suc zero) h i = refl
or_bits zero (suc (suc b)) h i = absurd (omega (arith, i))
or_bits (suc zero) (suc (suc b)) h i = absurd (omega (arith, i))
or_bits (suc (suc a)) b h i = absurd (omega (arith, h))

pub choose_bit : (v x y : ℕ) → v < 2 → cond (eqb v 1) x y ≡ at_zero v y x
choose_bit zero x y h = refl
choose_bit (suc zero) x y h = refl
choose_bit (suc (suc v)) x y h = absurd (omega (arith, h))

can_apply : (o : Op) (j : Kind) (r : Expression) (σ : State) → value r σ < values_of (right_kind o j) → machine.IsDivisor o r → CanApply o j (value r σ)
can_apply op.Div j r σ h d = (d.1 σ, h)
can_apply op.Rem j r σ h d = (d.1 σ, h)
can_apply op.Shl j r σ h d = tt
can_apply op.Shr j r σ h d = tt
can_apply _ j r σ h d = h

divisor_atom : (o : Op) (r : Expression) (a : Atom) → (IsFixed r → IsNumber a) → machine.IsDivisor o r → IsDivisor o a
divisor_atom op.Div r a f d = f d.0
divisor_atom op.Rem r a f d = f d.0
divisor_atom _ r a f d = tt

module _ (s : Sizes) (c : Cycle) where
  -- wires before and behind
  before : (xs ys : List Element) → AreSaid s c (xs ++ ys) → AreSaid s c xs
  before xs ys said w x v h = said w x v (has_left xs ys (Wire w x v) h)

  rest : (xs ys : List Element) → AreSaid s c (xs ++ ys) → AreSaid s c ys
  rest xs ys said w x v h = said w x v (has_right xs ys (Wire w x v) h)

  module _ (K : Kinds) (σ : State) where
    answers_left : (m : ℕ) (xs ys : List ArrayRead) → AnswersShown s c K σ m (xs ++ ys) → AnswersShown s c K σ m xs
    answers_left m xs ys h = numbered_left (AnswerShown s c K σ) m xs ys h

    -- the reads of a second operand
    second : (m : ℕ) (l : Expression) (ys : List ArrayRead) → AnswersShown s c K σ m (reads_in m l ++ ys) → AnswersShown s c K σ (m + read_count l) ys
    second m l ys h = numbered_second (AnswerShown s c K σ) m l ys h

    -- a number in place of wires
    numbered : (k : Kind) (e : Expression) (o : Option ℕ) → fixed e ≡ o → (C : Compiled) → (AreSaid s c C.elements → Shows s c C.atom (bits_of k) (value e σ))
        → AreSaid s c (by_fixed o k C).elements → Shows s c (by_fixed o k C).atom (bits_of k) (value e σ)
    numbered k e (Some v) is C f said = record { whole = tt; width = refl; value = sym (fixed_value e σ v is) }
    numbered k e None is C f said = f said

  of_kind : (a : Atom) (j k : Kind) (v : ℕ) → j ≡ k → Shows s c a (bits_of j) v → Shows s c a (bits_of k) v
  of_kind a j k v e h = subst (λ z. Shows s c a (bits_of z) v) e h

  module _ (K : Kinds) (R : Ranges) (σ : State) (fits : HoldsValues K σ) (registers : RegistersShown s c K R.registers σ) where
    pub computed : (e : Expression) (k : Kind) (front : Name) (m n : ℕ) → IsOfKind K e k → NamesWithin R e → AnswersShown s c K σ m (reads_in m e) → AreSaid s c (compiled front m n k e).elements
        → Shows s c (compiled front m n k e).atom (bits_of k) (value e σ)
    computed (Number j v) k front m n t g answers said = record { whole = tt; width = refl; value = refl }
    computed (Reg x) k front m n t g answers said = of_kind _ (K.vars x) k (slice_index σ.vars x) t (registers x g)
    computed (CellOf a i) k front m n t g answers said =
        of_kind (Net (name (Answer (m + read_count i) a))) (K.arrays a) k (cell σ.arrays a (value i σ)) t.0 (second K σ m i (record { array = a; index = i; first = m } ∷ []) answers).0
    computed (Converted source target e) k front m n t g answers said =
        let C = compiled front m n source e in
        numbered K σ k (Converted source target e) (fixed (Converted source target e)) refl (converting front n source target C)
        (λ told.
        of_kind _ target k (value (Converted source target e) σ) t.0
        (conversion_shown s c source target front (n + C.count) (value e σ) C.atom (value_fits K e source σ t.1 fits)
        (computed e source front m n t.1 g answers (before C.elements (wires_of front (n + C.count) (conversion front (n + C.count) source target C.atom)) told))
        (rest C.elements (wires_of front (n + C.count) (conversion front (n + C.count) source target C.atom)) told)))
        said
    computed (Applied o j l r) k front m n t g answers said =
        let C = compiled front m n j l in
        let D = compiled front (m + read_count l) (n + C.count) (right_kind o j) r in
        let i = n + (C.count + D.count) in
        let ops = wires_of front i (operation front i o j k C.atom D.atom) in
        let high = value_fits K r (right_kind o j) σ t.2 fits in
        numbered K σ k (Applied o j l r) (fixed (Applied o j l r)) refl (joining front n C D (λ i a b. operation front i o j k a b))
        (λ told.
        let two = before (C.elements ++ D.elements) ops told in
        operation_shown s c o j k front i (value l σ) (value r σ) C.atom D.atom C.atom (value_fits K l j σ t.1 fits) (can_apply o j r σ high t.3)
        (divisor_atom o r D.atom (λ f. constant_atom front (m + read_count l) (n + C.count) (right_kind o j) r (value r σ) f (numbers_fixed K r (right_kind o j) σ t.2 fits f)) t.3) t.0
        (computed l j front m n t.1 g.0 (answers_left K σ m (reads_in m l) (reads_in (m + read_count l) r) answers) (before C.elements D.elements two))
        (computed r (right_kind o j) front (m + read_count l) (n + C.count) t.2 g.1 (second K σ m l (reads_in (m + read_count l) r) answers) (rest C.elements D.elements two))
        (rest (C.elements ++ D.elements) ops told))
        said
    computed (Flipped j e) k front m n t g answers said =
        let C = compiled front m n j e in
        let ops = wires_of front (n + C.count) (one (bits_of j) (Invert C.atom)) in
        numbered K σ k (Flipped j e) (fixed (Flipped j e)) refl (one_more front n C (λ a. one (bits_of j) (Invert a)))
        (λ told.
        of_kind _ j k (value (Flipped j e) σ) t.0
        (let r = computed e j front m n t.1 g answers (before C.elements ops told) in
        said_first s c front (n + C.count) (bits_of j) (2 ^ bits_of j - 1 - value e σ) (Invert C.atom) [] (rest C.elements ops told) (ap (λ z. 2 ^ bits_of j - 1 - z) r.value)))
        said
    computed (Inverse e) k front m n t g answers said =
        let C = compiled front m n kind.Bool e in
        let ops = wires_of front (n + C.count) (one 1 (Invert C.atom)) in
        numbered K σ k (Inverse e) (fixed (Inverse e)) refl (one_more front n C (λ a. one 1 (Invert a)))
        (λ told.
        of_kind _ kind.Bool k (1 - value e σ) t.0
        (let r = computed e kind.Bool front m n t.1 g answers (before C.elements ops told) in
        said_first s c front (n + C.count) 1 (1 - value e σ) (Invert C.atom) [] (rest C.elements ops told) (ap (λ z. 2 ^ 1 - 1 - z) r.value)))
        said
    computed (Both l r) k front m n t g answers said =
        let C = compiled front m n kind.Bool l in
        let D = compiled front (m + read_count l) (n + C.count) kind.Bool r in
        let i = n + (C.count + D.count) in
        let ops = wires_of front i (one 1 (Binary C.atom And D.atom)) in
        numbered K σ k (Both l r) (fixed (Both l r)) refl (joining front n C D (λ i a b. one 1 (Binary a And b)))
        (λ told.
        let two = before (C.elements ++ D.elements) ops told in
        let x = computed l kind.Bool front m n t.1 g.0 (answers_left K σ m (reads_in m l) (reads_in (m + read_count l) r) answers) (before C.elements D.elements two) in
        let y = computed r kind.Bool front (m + read_count l) (n + C.count) t.2 g.1 (second K σ m l (reads_in (m + read_count l) r) answers) (rest C.elements D.elements two) in
        of_kind _ kind.Bool k (value l σ * value r σ) t.0
        (said_first s c front i 1 (value l σ * value r σ) (Binary C.atom And D.atom) [] (rest (C.elements ++ D.elements) ops told)
        (ap (λ z. bit_and z (atom_value c D.atom)) x.value ∙ ap (bit_and (value l σ)) y.value ∙ and_bits (value l σ) (value r σ) (value_fits K l kind.Bool σ t.1 fits) (value_fits K r kind.Bool σ t.2 fits))))
        said
    computed (Either l r) k front m n t g answers said =
        let C = compiled front m n kind.Bool l in
        let D = compiled front (m + read_count l) (n + C.count) kind.Bool r in
        let i = n + (C.count + D.count) in
        let ops = wires_of front i (one 1 (Binary C.atom Or D.atom)) in
        numbered K σ k (Either l r) (fixed (Either l r)) refl (joining front n C D (λ i a b. one 1 (Binary a Or b)))
        (λ told.
        let two = before (C.elements ++ D.elements) ops told in
        let x = computed l kind.Bool front m n t.1 g.0 (answers_left K σ m (reads_in m l) (reads_in (m + read_count l) r) answers) (before C.elements D.elements two) in
        let y = computed r kind.Bool front (m + read_count l) (n + C.count) t.2 g.1 (second K σ m l (reads_in (m + read_count l) r) answers) (rest C.elements D.elements two) in
        of_kind _ kind.Bool k (1 - (1 - value l σ) * (1 - value r σ)) t.0
        (said_first s c front i 1 (1 - (1 - value l σ) * (1 - value r σ)) (Binary C.atom Or D.atom) [] (rest (C.elements ++ D.elements) ops told)
        (ap (λ z. bit_or z (atom_value c D.atom)) x.value ∙ ap (bit_or (value l σ)) y.value ∙ or_bits (value l σ) (value r σ) (value_fits K l kind.Bool σ t.1 fits) (value_fits K r kind.Bool σ t.2 fits))))
        said
    computed (Chosen e a b) k front m n t g answers said =
        let C = compiled front m n kind.Bool e in
        let D = compiled front (m + read_count e) (n + C.count) k a in
        let E = compiled front (m + read_count e + read_count a) (n + C.count + D.count) k b in
        let i = n + (C.count + (D.count + E.count)) in
        let ops = wires_of front i (one (bits_of k) (Choose C.atom D.atom E.atom)) in
        let ab = reads_in (m + read_count e) a ++ reads_in (m + read_count e + read_count a) b in
        let late = second K σ m e ab answers in
        numbered K σ k (Chosen e a b) (fixed (Chosen e a b)) refl (choosing front n k C D E)
        (λ told.
        let three = before (C.elements ++ (D.elements ++ E.elements)) ops told in
        let two = rest C.elements (D.elements ++ E.elements) three in
        let x = computed e kind.Bool front m n t.0 g.0 (answers_left K σ m (reads_in m e) ab answers) (before C.elements (D.elements ++ E.elements) three) in
        let y = computed a k front (m + read_count e) (n + C.count) t.1 g.1 (answers_left K σ (m + read_count e) (reads_in (m + read_count e) a) (reads_in (m + read_count e + read_count a) b) late) (before D.elements E.elements two) in
        let z = computed b k front (m + read_count e + read_count a) (n + C.count + D.count) t.2 g.2 (second K σ (m + read_count e) a (reads_in (m + read_count e + read_count a) b) late) (rest D.elements E.elements two) in
        said_first s c front i (bits_of k) (value (Chosen e a b) σ) (Choose C.atom D.atom E.atom) [] (rest (C.elements ++ (D.elements ++ E.elements)) ops told)
        (ap (λ q. cond (eqb q 1) (atom_value c D.atom) (atom_value c E.atom)) x.value ∙ ap (λ q. cond (eqb (value e σ) 1) q (atom_value c E.atom)) y.value ∙ ap (cond (eqb (value e σ) 1) (value a σ)) z.value
        ∙ choose_bit (value e σ) (value a σ) (value b σ) (value_fits K e kind.Bool σ t.0 fits)))
        said
