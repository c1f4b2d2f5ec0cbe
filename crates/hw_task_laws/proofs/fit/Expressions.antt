-- The wires of an expression fit after_operands its registers and the answers of its reads.
use Rattle.std.proofs.Common.{◌≡◌, ℕ, ◌+◌, ◌<◌, List, [], ◌∷◌, ◌++◌, Option, Some, None, refl, sym, ap, subst, arith, append_assoc}
use Rattle.std.proofs.Math.Pow.{pow_pos}
use Rattle.tapa_base.specs.declared.kind.Kind.{Kind}
use Rattle.tapa_base.specs.declared.kind.Kind.TheVariants as kind
use Rattle.tapa_base.specs.declared.op.Op.{Op}
use Rattle.tapa_base.specs.declared.op.Op.TheVariants as op
use Rattle.tapa_base.specs.Kinds.{bits_of, values_of}
use Rattle.tapa_syntax.specs.LeafKinds.{Kinds}
use Rattle.tapa_syntax.specs.Typed.{right_kind}
use Rattle.kahn_model.specs.Trace.{State}
use Rattle.vlog_tree.specs.declared.tree.Atom.{Atom}
use Rattle.vlog_tree.specs.declared.tree.Atom.TheVariants.{Net}
use Rattle.vlog_tree.specs.declared.tree.BinaryOp.TheVariants.{And, Or}
use Rattle.vlog_tree.specs.declared.tree.Value.TheVariants.{Invert, Binary, Choose}
use Rattle.vlog_tree.specs.Table.{Name}
use Rattle.tapa_base.proofs.Lists.{has_left, has_right}
use Rattle.hw_build.specs.Elements.{Element}
use Rattle.hw_build.specs.Scope.{IsNet, AtomIs, FitInOrder}
use Rattle.hw_build.specs.Fits.{IsAmong}
use Rattle.hw_build.proofs.Parts.{parts_fit}
use Rattle.task_fsm.specs.Machine.{Expression, Number, Reg, CellOf, Converted, Applied, Flipped, Inverse, Both, Either, Chosen}
use Rattle.task_fsm.specs.MachineKinds.{IsFixed, IsDivisor, IsOfKind, HoldsValues}
use Rattle.task_fsm.specs.Ranges.{Ranges, NamesWithin}
use Rattle.task_fsm.specs.Run.{value}
use Rattle.task_fsm.proofs.Steps.{value_fits}
use Rattle.hw_lines.specs.declared.nets.Net.TheVariants.{Variable, Answer}
use Rattle.hw_lines.specs.Nets.{name}
use Rattle.hw_lines.specs.Fixed.{fixed}
use Rattle.hw_lines.specs.Drivers.{Driver, wires_of, last_of, one, conversion, operation}
use Rattle.hw_lines.specs.Wires.{ArrayRead, read_count, reads_in, Compiled, constant, by_fixed, after_operands, converting, one_more, joining, choosing, compiled}
use Rattle.hw_task_laws.specs.wires.Computes.{Numbered}
use Rattle.hw_task_laws.proofs.wires.Fixes.{fixed_value, numbers_fixed, some_same}
use Rattle.hw_task_laws.proofs.wires.Computed.{numbered_left, numbered_second}
use Rattle.hw_task_laws.specs.fit.Built.{AnswerNet, RegisterNets, IsBuilt}
use Rattle.hw_task_laws.proofs.fit.Scopes.{left_among, both_among, atom_in, fit_behind, kind_wide}
use Rattle.hw_task_laws.proofs.fit.Operators.{IsDriven, IsSome, DividesBy, not_zero, one_driven, conversion_driven, operation_driven}

-- ---- constants

-- a state in which all is 0
abbrev empty_state : State
empty_state = record { vars = []; arrays = []; cells = [] }

empty_fits : (K : Kinds) → HoldsValues K empty_state
empty_fits K = record { vars = λ x. pow_pos (bits_of (K.vars x)); arrays = λ a i. pow_pos (bits_of (K.arrays a)); cells = λ m i. pow_pos (bits_of (K.memories m)); few = λ a. omega arith }

constant_low : (K : Kinds) (e : Expression) (k : Kind) (v : ℕ) → IsOfKind K e k → fixed e ≡ Some v → v < values_of k
constant_low K e k v t h = subst (λ z. z < values_of k) (fixed_value e empty_state v h) (value_fits K e k empty_state t (empty_fits K))

as_constant : (o : Option ℕ) (v : ℕ) (k : Kind) (C : Compiled) → o ≡ Some v → by_fixed o k C ≡ constant k v
as_constant o v k C e = ap (λ z. by_fixed z k C) e

constant_compiled : (front : Name) (m n : ℕ) (k : Kind) (e : Expression) (v : ℕ) → IsFixed e → fixed e ≡ Some v → compiled front m n k e ≡ constant k v
constant_compiled front m n k (Number j w) v f h = ap (constant k) (some_same w v h)
constant_compiled front m n k (Reg x) v f h = absurd f
constant_compiled front m n k (CellOf a i) v f h = absurd f
constant_compiled front m n k g v f h = as_constant (fixed g) v k _ h

some_atom : (K : Kinds) (front : Name) (m n : ℕ) (k : Kind) (e : Expression) → IsOfKind K e k → IsFixed e → ((σ : State) → 0 < value e σ) → IsSome (compiled front m n k e).atom
some_atom K front m n k e t f some =
    subst (λ (C : Compiled). IsSome C.atom) (sym (constant_compiled front m n k e (value e empty_state) f (numbers_fixed K e k empty_state t (empty_fits K) f))) (not_zero (value e empty_state) (some empty_state))

divides_by : (K : Kinds) (front : Name) (m n : ℕ) (o : Op) (j : Kind) (r : Expression) → IsOfKind K r (right_kind o j) → IsDivisor o r → DividesBy o (compiled front m n (right_kind o j) r).atom
divides_by K front m n op.Div j r t d = some_atom K front m n j r t d.0 d.1
divides_by K front m n op.Rem j r t d = some_atom K front m n j r t d.0 d.1
divides_by K front m n _ j r t d = tt

-- ---- expressions

module _ (before : List Element) (K : Kinds) where
  -- an atom as it is
  as_it_is : (w u : ℕ) (x : Name) → IsNet before x u → u ≡ w → IsBuilt before w (record { elements = []; count = 0; atom = Net x })
  as_it_is w u x h e = record { fits = tt; atom = subst (λ z. AtomIs (before ++ []) z (Net x)) e (atom_in before (before ++ []) (left_among before []) u (Net x) h); whole = tt }

  of_number : (k : Kind) (v : ℕ) → v < values_of k → IsBuilt before (bits_of k) (constant k v)
  of_number k v h = record { fits = tt; atom = (refl, h); whole = tt }

  or_number : (k : Kind) (e : Expression) (o : Option ℕ) → fixed e ≡ o → IsOfKind K e k → (C : Compiled) → IsBuilt before (bits_of k) C → IsBuilt before (bits_of k) (by_fixed o k C)
  or_number k e (Some v) is t C h = of_number k v (constant_low K e k v t is)
  or_number k e None is t C h = h

  -- drivers after_operands what their operands need
  driven : (front : Name) (n : ℕ) (es : List Element) (c : ℕ) (drivers : List Driver) (a : Atom) (w : ℕ) → FitInOrder before es → IsDriven (before ++ es) front (n + c) drivers w (last_of front (n + c) drivers a)
      → IsBuilt before w (after_operands front n es c drivers a)
  driven front n es c drivers a w h d = record {
    fits = parts_fit before es (wires_of front (n + c) drivers) h d.fits;
    atom = subst (λ (l : List Element). AtomIs l w (last_of front (n + c) drivers a)) (append_assoc before es (wires_of front (n + c) drivers)) d.atom;
    whole = d.whole;
  }

  -- two parts one after another, and their atoms after_operands both
  two_fit : (xs ys : List Element) → FitInOrder before xs → FitInOrder before ys → FitInOrder before (xs ++ ys)
  two_fit xs ys h k = parts_fit before xs ys h (fit_behind before xs ys k)

  first_in : (xs ys : List Element) → IsAmong (before ++ xs) (before ++ (xs ++ ys))
  first_in xs ys = both_among before xs (before ++ (xs ++ ys)) (left_among before (xs ++ ys)) (λ e h. has_right before (xs ++ ys) e (has_left xs ys e h))

  second_in : (xs ys : List Element) → IsAmong (before ++ ys) (before ++ (xs ++ ys))
  second_in xs ys = both_among before ys (before ++ (xs ++ ys)) (left_among before (xs ++ ys)) (λ e h. has_right before (xs ++ ys) e (has_right xs ys e h))

  of_kind : (j k : Kind) (C : Compiled) → j ≡ k → IsBuilt before (bits_of j) C → IsBuilt before (bits_of k) C
  of_kind j k C e h = subst (λ z. IsBuilt before (bits_of z) C) e h

  module _ (R : Ranges) (registers : RegisterNets before K R.registers) where
    abbrev Answers : ℕ → List ArrayRead → Type 0
    Answers m reads = Numbered (AnswerNet before K) m reads

    answers_left : (m : ℕ) (xs ys : List ArrayRead) → Answers m (xs ++ ys) → Answers m xs
    answers_left m xs ys h = numbered_left (AnswerNet before K) m xs ys h

    answers_second : (m : ℕ) (l : Expression) (ys : List ArrayRead) → Answers m (reads_in m l ++ ys) → Answers (m + read_count l) ys
    answers_second m l ys h = numbered_second (AnswerNet before K) m l ys h

    pub compiled_fits : (e : Expression) (k : Kind) (front : Name) (m n : ℕ) → IsOfKind K e k → NamesWithin R e → Answers m (reads_in m e) → IsBuilt before (bits_of k) (compiled front m n k e)
    compiled_fits (Number j v) k front m n t g answers = of_number k v t.1
    compiled_fits (Reg x) k front m n t g answers = as_it_is (bits_of k) (bits_of (K.vars x)) (name (Variable x)) (registers x g) (ap bits_of t)
    compiled_fits (CellOf a i) k front m n t g answers =
        as_it_is (bits_of k) (bits_of (K.arrays a)) (name (Answer (m + read_count i) a)) (answers_second m i (record { array = a; index = i; first = m } ∷ []) answers).0 (ap bits_of t.0)
    compiled_fits (Converted source target e) k front m n t g answers =
        let C = compiled front m n source e in
        let c = compiled_fits e source front m n t.1 g answers in
        or_number k (Converted source target e) (fixed (Converted source target e)) refl t (converting front n source target C)
        (of_kind target k (converting front n source target C) t.0
        (driven front n C.elements C.count (conversion front (n + C.count) source target C.atom) C.atom (bits_of target) c.fits
        (conversion_driven (before ++ C.elements) front (n + C.count) source target C.atom c.whole c.atom)))
    compiled_fits (Applied o j l r) k front m n t g answers =
        let C = compiled front m n j l in
        let D = compiled front (m + read_count l) (n + C.count) (right_kind o j) r in
        let c = compiled_fits l j front m n t.1 g.0 (answers_left m (reads_in m l) (reads_in (m + read_count l) r) answers) in
        let d = compiled_fits r (right_kind o j) front (m + read_count l) (n + C.count) t.2 g.1 (answers_second m l (reads_in (m + read_count l) r) answers) in
        let es = C.elements ++ D.elements in
        let i = n + (C.count + D.count) in
        or_number k (Applied o j l r) (fixed (Applied o j l r)) refl t (joining front n C D (λ i a b. operation front i o j k a b))
        (driven front n es (C.count + D.count) (operation front i o j k C.atom D.atom) C.atom (bits_of k) (two_fit C.elements D.elements c.fits d.fits)
        (operation_driven (before ++ es) front i o j k C.atom D.atom C.atom t.0 c.whole d.whole (atom_in (before ++ C.elements) (before ++ es) (first_in C.elements D.elements) (bits_of j) C.atom c.atom)
        (atom_in (before ++ D.elements) (before ++ es) (second_in C.elements D.elements) (bits_of (right_kind o j)) D.atom d.atom)
        (divides_by K front (m + read_count l) (n + C.count) o j r t.2 t.3)))
    compiled_fits (Flipped j e) k front m n t g answers =
        let C = compiled front m n j e in
        let c = compiled_fits e j front m n t.1 g answers in
        or_number k (Flipped j e) (fixed (Flipped j e)) refl t (one_more front n C (λ a. one (bits_of j) (Invert a)))
        (of_kind j k (one_more front n C (λ a. one (bits_of j) (Invert a))) t.0
        (driven front n C.elements C.count (one (bits_of j) (Invert C.atom)) C.atom (bits_of j) c.fits (one_driven (before ++ C.elements) front (n + C.count) (bits_of j) (Invert C.atom) (kind_wide j) c.atom)))
    compiled_fits (Inverse e) k front m n t g answers =
        let C = compiled front m n kind.Bool e in
        let c = compiled_fits e kind.Bool front m n t.1 g answers in
        or_number k (Inverse e) (fixed (Inverse e)) refl t (one_more front n C (λ a. one 1 (Invert a)))
        (of_kind kind.Bool k (one_more front n C (λ a. one 1 (Invert a))) t.0
        (driven front n C.elements C.count (one 1 (Invert C.atom)) C.atom 1 c.fits (one_driven (before ++ C.elements) front (n + C.count) 1 (Invert C.atom) refl c.atom)))
    compiled_fits (Both l r) k front m n t g answers =
        let C = compiled front m n kind.Bool l in
        let D = compiled front (m + read_count l) (n + C.count) kind.Bool r in
        let c = compiled_fits l kind.Bool front m n t.1 g.0 (answers_left m (reads_in m l) (reads_in (m + read_count l) r) answers) in
        let d = compiled_fits r kind.Bool front (m + read_count l) (n + C.count) t.2 g.1 (answers_second m l (reads_in (m + read_count l) r) answers) in
        let es = C.elements ++ D.elements in
        let join = joining front n C D (λ i a b. one 1 (Binary a And b)) in
        or_number k (Both l r) (fixed (Both l r)) refl t join
        (of_kind kind.Bool k join t.0
        (driven front n es (C.count + D.count) (one 1 (Binary C.atom And D.atom)) C.atom 1 (two_fit C.elements D.elements c.fits d.fits)
        (one_driven (before ++ es) front (n + (C.count + D.count)) 1 (Binary C.atom And D.atom) refl
        (atom_in (before ++ C.elements) (before ++ es) (first_in C.elements D.elements) 1 C.atom c.atom, atom_in (before ++ D.elements) (before ++ es) (second_in C.elements D.elements) 1 D.atom d.atom))))
    compiled_fits (Either l r) k front m n t g answers =
        let C = compiled front m n kind.Bool l in
        let D = compiled front (m + read_count l) (n + C.count) kind.Bool r in
        let c = compiled_fits l kind.Bool front m n t.1 g.0 (answers_left m (reads_in m l) (reads_in (m + read_count l) r) answers) in
        let d = compiled_fits r kind.Bool front (m + read_count l) (n + C.count) t.2 g.1 (answers_second m l (reads_in (m + read_count l) r) answers) in
        let es = C.elements ++ D.elements in
        let join = joining front n C D (λ i a b. one 1 (Binary a Or b)) in
        or_number k (Either l r) (fixed (Either l r)) refl t join
        (of_kind kind.Bool k join t.0
        (driven front n es (C.count + D.count) (one 1 (Binary C.atom Or D.atom)) C.atom 1 (two_fit C.elements D.elements c.fits d.fits)
        (one_driven (before ++ es) front (n + (C.count + D.count)) 1 (Binary C.atom Or D.atom) refl
        (atom_in (before ++ C.elements) (before ++ es) (first_in C.elements D.elements) 1 C.atom c.atom, atom_in (before ++ D.elements) (before ++ es) (second_in C.elements D.elements) 1 D.atom d.atom))))
    compiled_fits (Chosen e a b) k front m n t g answers =
        let C = compiled front m n kind.Bool e in
        let D = compiled front (m + read_count e) (n + C.count) k a in
        let E = compiled front (m + read_count e + read_count a) (n + C.count + D.count) k b in
        let ab = reads_in (m + read_count e) a ++ reads_in (m + read_count e + read_count a) b in
        let late = answers_second m e ab answers in
        let c = compiled_fits e kind.Bool front m n t.0 g.0 (answers_left m (reads_in m e) ab answers) in
        let d = compiled_fits a k front (m + read_count e) (n + C.count) t.1 g.1 (answers_left (m + read_count e) (reads_in (m + read_count e) a) (reads_in (m + read_count e + read_count a) b) late) in
        let f = compiled_fits b k front (m + read_count e + read_count a) (n + C.count + D.count) t.2 g.2 (answers_second (m + read_count e) a (reads_in (m + read_count e + read_count a) b) late) in
        let two = D.elements ++ E.elements in
        let es = C.elements ++ two in
        let lift = second_in C.elements two in
        or_number k (Chosen e a b) (fixed (Chosen e a b)) refl t (choosing front n k C D E)
        (driven front n es (C.count + (D.count + E.count)) (one (bits_of k) (Choose C.atom D.atom E.atom)) C.atom (bits_of k) (two_fit C.elements two c.fits (two_fit D.elements E.elements d.fits f.fits))
        (one_driven (before ++ es) front (n + (C.count + (D.count + E.count))) (bits_of k) (Choose C.atom D.atom E.atom) (kind_wide k) (
          atom_in (before ++ C.elements) (before ++ es) (first_in C.elements two) 1 C.atom c.atom,
          atom_in (before ++ two) (before ++ es) lift (bits_of k) D.atom (atom_in (before ++ D.elements) (before ++ two) (first_in D.elements E.elements) (bits_of k) D.atom d.atom),
          atom_in (before ++ two) (before ++ es) lift (bits_of k) E.atom (atom_in (before ++ E.elements) (before ++ two) (second_in D.elements E.elements) (bits_of k) E.atom f.atom),
        )))
