-- A module that grows by the wires of an expression.
use Rattle.std.proofs.Common.{◌≡◌, ℕ, suc, ◌+◌, ◌<◌, List, [], ◌∷◌, ◌++◌, length, get_or, Option, Some, None, Bool as Bit, true, false, eqb, refl, sym, ap, subst, ◌∙◌, arith, add-one}
use Rattle.std.specs.List.{remove}
use Rattle.std.proofs.lemmas.Bool.{eqb-true, eqb-false}
use Rattle.tapa_base.specs.declared.kind.Kind.{Kind}
use Rattle.tapa_base.specs.declared.kind.Kind.TheVariants.{Bool}
use Rattle.tapa_base.specs.Kinds.{bits_of}
use Rattle.tapa_syntax.specs.Typed.{right_kind}
use Rattle.vlog_tree.specs.declared.tree.Atom.{Atom}
use Rattle.vlog_tree.specs.declared.tree.Atom.TheVariants.{Literal}
use Rattle.vlog_tree.specs.declared.tree.BinaryOp.TheVariants.{And, Or}
use Rattle.vlog_tree.specs.declared.tree.Value.TheVariants.{Invert, Binary}
use Rattle.vlog_tree.specs.Form.{ModuleTree}
use Rattle.vlog_tree.specs.Table.{Name}
use Rattle.hw_build.specs.Elements.{Element, Wire, with, with_all}
use Rattle.hw_build.specs.Trees.{numbered}
use Rattle.task_fsm.specs.Machine.{Expression, Number, Reg, CellOf, Converted, Applied, Flipped, Inverse, Both, Either, Chosen}
use Rattle.hw_lines.specs.Fixed.{fixed}
use Rattle.hw_lines.specs.Drivers.{Driver, wires_of, last_of, one, operation}
use Rattle.hw_lines.specs.Wires.{Compiled, read_count, constant, after_operands, by_fixed, converting, one_more, joining, choosing, compiled}
use Rattle.hw_nets.proofs.Grows.{both}
use Rattle.hw_operators.specs.declared.drivers.Numbered.{Numbered}
use Rattle.hw_expressions.specs.declared.wires.Wired.{Wired}
use Rattle.hw_expressions.specs.Grown.{Grows}

-- the first of some drivers
pub wires_next : (front : Name) (n : ℕ) (xs : List Driver) (d : Driver) (m : ModuleTree) → 0 < length xs → d ≡ get_or xs 0 d
    → with_all m (wires_of front n xs) ≡ with_all (with m (Wire d.0 (numbered front n) d.1)) (wires_of front (n + 1) (remove xs 0))
wires_next front n [] d m h e = absurd (omega arith)
wires_next front n (x ∷ xs) d m h e =
    ap (λ (y : Driver). with_all (with m (Wire y.0 (numbered front n) y.1)) (wires_of front (suc n) xs)) (sym e)
    ∙ ap (λ k. with_all (with m (Wire d.0 (numbered front n) d.1)) (wires_of front k xs)) (sym (add-one n))

-- whether some are left
pub some_left : (n : ℕ) (b : Bit) → b ≡ eqb n 0 → b ≡ false → 0 < n
some_left n b e f = let not_zero : n ≡ 0 → ⊥ = eqb-false n 0 (sym e ∙ f) in omega arith

pub none_left : (n : ℕ) (b : Bit) → b ≡ eqb n 0 → b ≡ true → n ≡ 0
none_left n b e f = eqb-true n 0 (sym e ∙ f)

pub wires_done : (front : Name) (n : ℕ) (xs : List Driver) (m : ModuleTree) → length xs ≡ 0 → m ≡ with_all m (wires_of front n xs)
wires_done front n [] m h = refl
wires_done front n (x ∷ xs) m h = absurd (omega arith)

-- what is after_operands the wires of the operands
pub behind_grows : (old mid new : ModuleTree) (told : Wired) (front : Name) (k n : ℕ) (elements : List Element) (count : ℕ) (drivers : List Driver) (a : Atom) → mid ≡ with_all old elements
    → new ≡ with_all mid (wires_of front n drivers) → n ≡ k + count → told.atom ≡ last_of front n drivers a → told.count ≡ count + length drivers → Grows old new told (after_operands front k elements count drivers a)
behind_grows old mid new told front k n elements count drivers a p q e x y = record {
  elements = both old mid new elements (wires_of front (k + count) drivers) p (q ∙ ap (λ i. with_all mid (wires_of front i drivers)) e);
  atom = x ∙ ap (λ i. last_of front i drivers a) e;
  count = y;
}

behind_same : (old new : ModuleTree) (told : Wired) (x y : Name) (k : ℕ) (elements : List Element) (c d : ℕ) (xs ys : List Driver) (a b : Atom) → x ≡ y → c ≡ d → xs ≡ ys → a ≡ b
    → Grows old new told (after_operands x k elements c xs a) → Grows old new told (after_operands y k elements d ys b)
behind_same old new told x y k elements c d xs ys a b t e f g h =
    subst (λ i. Grows old new told (after_operands i k elements d ys b)) t
    (subst (λ i. Grows old new told (after_operands x k elements i ys b)) e
    (subst (λ i. Grows old new told (after_operands x k elements c i b)) f (subst (λ i. Grows old new told (after_operands x k elements c xs i)) g h)))

-- what the wires of an operator add, after_operands any elements
abbrev pub AddsBehind : (mid new : ModuleTree) (told : Wired) (next : Numbered) (count : ℕ) (drivers : List Driver) (a : Atom) → Type 0
AddsBehind mid new told next count drivers a =
    (old : ModuleTree) (elements : List Element) (k : ℕ) → mid ≡ with_all old elements → next.first ≡ k + count → Grows old new told (after_operands next.front.now k elements count drivers a)

pub one_operand : (old mid new : ModuleTree) (at next : Numbered) (operand told : Wired) (xs ys : List Driver) (C : Compiled) → AddsBehind mid new told next operand.count xs operand.atom
    → next.front.now ≡ at.front.now → next.first ≡ at.first + operand.count → Grows old mid operand C → xs ≡ ys → Grows old new told (after_operands at.front.now at.first C.elements C.count ys C.atom)
one_operand old mid new at next operand told xs ys C h t e g s =
    behind_same old new told next.front.now at.front.now at.first C.elements operand.count C.count xs ys operand.atom C.atom t g.count s g.atom (h old C.elements at.first g.elements e)

pub two_operands : (old second mid new : ModuleTree) (at next : Numbered) (count : ℕ) (left right told : Wired) (xs ys : List Driver) (C D : Compiled)
    → AddsBehind mid new told next count xs left.atom → count ≡ left.count + right.count → next.front.now ≡ at.front.now → next.first ≡ at.first + count → Grows old second left C → Grows second mid right D
    → xs ≡ ys → Grows old new told (after_operands at.front.now at.first (C.elements ++ D.elements) (C.count + D.count) ys C.atom)
two_operands old second mid new at next count left right told xs ys C D h n t e g f s =
    let all : count ≡ C.count + D.count = omega (arith, n, g.count, f.count) in
    behind_same old new told next.front.now at.front.now at.first (C.elements ++ D.elements) count (C.count + D.count) xs ys left.atom C.atom t all s g.atom
    (h old (C.elements ++ D.elements) at.first (both old second mid C.elements D.elements g.elements f.elements) e)

pub three_operands : (old second third mid new : ModuleTree) (at next : Numbered) (count : ℕ) (test left right told : Wired) (xs ys : List Driver) (C D E : Compiled)
    → AddsBehind mid new told next count xs test.atom → count ≡ test.count + (left.count + right.count) → next.front.now ≡ at.front.now → next.first ≡ at.first + count → Grows old second test C
    → Grows second third left D → Grows third mid right E → xs ≡ ys
    → Grows old new told (after_operands at.front.now at.first (C.elements ++ (D.elements ++ E.elements)) (C.count + (D.count + E.count)) ys C.atom)
three_operands old second third mid new at next count test left right told xs ys C D E h n t e g f l s =
    let all : count ≡ C.count + (D.count + E.count) = omega (arith, n, g.count, f.count, l.count) in
    behind_same old new told next.front.now at.front.now at.first (C.elements ++ (D.elements ++ E.elements)) count (C.count + (D.count + E.count)) xs ys test.atom C.atom t all s g.atom
    (h old (C.elements ++ (D.elements ++ E.elements)) at.first
    (both old second mid C.elements (D.elements ++ E.elements) g.elements (both second third mid D.elements E.elements f.elements l.elements)) e)

-- the wires of an expression that begin at equal numbers
pub same_start : (old new : ModuleTree) (told : Wired) (x y : Name) (p q : Kind) (E : Expression) (a b i j : ℕ) → x ≡ y → p ≡ q → a ≡ b → i ≡ j
    → Grows old new told (compiled x a i p E) → Grows old new told (compiled y b j q E)
same_start old new told x y p q E a b i j t r e f h =
    subst (λ z. Grows old new told (compiled z b j q E)) t
    (subst (λ z. Grows old new told (compiled x b j z E)) r (subst (λ z. Grows old new told (compiled x b z p E)) f (subst (λ z. Grows old new told (compiled x z i p E)) e h)))

-- an expression of numbers alone
fixed_by : (o : Option ℕ) (v : ℕ) (k : Kind) (X : Compiled) → o ≡ Some v → constant k v ≡ by_fixed o k X
fixed_by o v k X e = sym (ap (λ z. by_fixed z k X) e)

constant_is : (front : Name) (m n : ℕ) (k : Kind) (E : Expression) (v : ℕ) → fixed E ≡ Some v → constant k v ≡ compiled front m n k E
constant_is front m n k (Number j w) v e = let i : w ≡ v = cc in ap (constant k) (sym i)
constant_is front m n k (Reg x) v e = cc
constant_is front m n k (CellOf a i) v e = cc
constant_is front m n k (Converted s t a) v e = fixed_by (fixed (Converted s t a)) v k (converting front n s t (compiled front m n s a)) e
constant_is front m n k (Applied op j l r) v e =
    fixed_by (fixed (Applied op j l r)) v k
    (joining front n (compiled front m n j l) (compiled front (m + read_count l) (n + (compiled front m n j l).count) (right_kind op j) r) (λ i a b. operation front i op j k a b)) e
constant_is front m n k (Flipped j a) v e = fixed_by (fixed (Flipped j a)) v k (one_more front n (compiled front m n j a) (λ x. one (bits_of j) (Invert x))) e
constant_is front m n k (Inverse a) v e = fixed_by (fixed (Inverse a)) v k (one_more front n (compiled front m n Bool a) (λ x. one 1 (Invert x))) e
constant_is front m n k (Both l r) v e =
    fixed_by (fixed (Both l r)) v k
    (joining front n (compiled front m n Bool l) (compiled front (m + read_count l) (n + (compiled front m n Bool l).count) Bool r) (λ i a b. one 1 (Binary a And b))) e
constant_is front m n k (Either l r) v e =
    fixed_by (fixed (Either l r)) v k
    (joining front n (compiled front m n Bool l) (compiled front (m + read_count l) (n + (compiled front m n Bool l).count) Bool r) (λ i a b. one 1 (Binary a Or b))) e
constant_is front m n k (Chosen t a b) v e =
    fixed_by (fixed (Chosen t a b)) v k
    (choosing front n k (compiled front m n Bool t) (compiled front (m + read_count t) (n + (compiled front m n Bool t).count) k a)
    (compiled front (m + read_count t + read_count a) (n + (compiled front m n Bool t).count + (compiled front (m + read_count t) (n + (compiled front m n Bool t).count) k a).count) k b)) e

pub constant_grows : (d : ModuleTree) (told : Wired) (front : Name) (m n : ℕ) (k : Kind) (E : Expression) (v : ℕ) → fixed E ≡ Some v → told.atom ≡ Literal (bits_of k) v → told.count ≡ 0
    → Grows d d told (compiled front m n k E)
constant_grows d told front m n k E v e a c = subst (Grows d d told) (constant_is front m n k E v e) (record { elements = refl; atom = a; count = c })

-- an expression with an operator
none_by : (o : Option ℕ) (k : Kind) (X : Compiled) → o ≡ None → X ≡ by_fixed o k X
none_by o k X e = sym (ap (λ z. by_fixed z k X) e)

pub compound : (old new : ModuleTree) (told : Wired) (front : Name) (m n : ℕ) (k : Kind) (E F : Expression) (X : Compiled) → E ≡ F → fixed E ≡ None → compiled front m n k F ≡ by_fixed (fixed F) k X
    → Grows old new told X → Grows old new told (compiled front m n k E)
compound old new told front m n k E F X is none form h =
    subst (Grows old new told) (none_by (fixed F) k X (sym (ap fixed is) ∙ none) ∙ sym form ∙ sym (ap (compiled front m n k) is)) h
