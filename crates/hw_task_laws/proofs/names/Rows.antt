-- Wires with numbered names, one after another: those of drivers, of an expression, and of a choice.
use Rattle.std.proofs.Common.{◌≡◌, ℕ, suc, ◌+◌, ◌<◌, ◌≤◌, List, [], ◌∷◌, ◌++◌, length, Option, Some, None, inl, inr, refl, sym, ap, subst, arith, length-append, ⊎_elim}
use Rattle.std.specs.List.{flat_map}
use Rattle.tapa_base.specs.declared.kind.Kind.{Kind}
use Rattle.tapa_base.specs.declared.kind.Kind.TheVariants as kind
use Rattle.tapa_base.specs.Kinds.{bits_of}
use Rattle.tapa_syntax.specs.Typed.{right_kind}
use Rattle.vlog_tree.specs.declared.tree.Atom.{Atom}
use Rattle.vlog_tree.specs.declared.tree.BinaryOp.TheVariants.{And, Or}
use Rattle.vlog_tree.specs.declared.tree.Value.{Value}
use Rattle.vlog_tree.specs.declared.tree.Value.TheVariants.{Invert, Binary, Choose}
use Rattle.tapa_base.specs.Lists.{Has}
use Rattle.vlog_tree.specs.Table.{Name}
use Rattle.tapa_base.proofs.Lists.{has_split}
use Rattle.hw_build.specs.Elements.{Element, Wire}
use Rattle.hw_build.specs.Trees.{numbered}
use Rattle.hw_build.specs.Choices.{Entry, row_of, any_driver, any_elements, pick_driver, pick_elements}
use Rattle.hw_build.specs.Fits.{declared_names}
use Rattle.task_fsm.specs.Machine.{Expression, Converted, Applied, Flipped, Inverse, Both, Either, Chosen}
use Rattle.hw_lines.specs.Fixed.{fixed}
use Rattle.hw_lines.specs.Drivers.{Driver, wires_of, one, conversion, operation}
use Rattle.hw_lines.specs.Wires.{read_count, Compiled, by_fixed, after_operands, converting, one_more, joining, choosing, compiled}

abbrev pub IsWire : Name → Element → Type 0
IsWire x e = (w : ℕ) × (v : Value) × (e ≡ Wire w x v)

abbrev pub AreRow : Name → ℕ → List Element → Type 0
AreRow front n [] = Unit {0}
AreRow front n (e ∷ es) = IsWire (numbered front n) e × AreRow front (suc n) es

pub row_append : (front : Name) (n : ℕ) (xs ys : List Element) → AreRow front n xs → AreRow front (n + length xs) ys → AreRow front n (xs ++ ys)
row_append front n [] ys h k = let e : n + 0 ≡ n = omega arith in subst (λ z. AreRow front z ys) e k
row_append front n (x ∷ xs) ys h k =
    let e : n + suc (length xs) ≡ suc n + length xs = omega arith in
    (h.0, row_append front (suc n) xs ys h.1 (subst (λ z. AreRow front z ys) e k))

-- so many of them, from a number on
pub record IsRow (front : Name) (n c : ℕ) (es : List Element) : Type 0 where
  pub wires : AreRow front n es
  pub count : length es ≡ c

row_none : (front : Name) (n : ℕ) → IsRow front n 0 []
row_none front n = record { wires = tt; count = refl }

row_join : (front : Name) (n c d : ℕ) (xs ys : List Element) → IsRow front n c xs → IsRow front (n + c) d ys → IsRow front n (c + d) (xs ++ ys)
row_join front n c d xs ys h k = record {
  wires = row_append front n xs ys h.wires (subst (λ z. AreRow front (n + z) ys) (sym h.count) k.wires);
  count = let e = length-append xs ys in let f = h.count in let g = k.count in omega (arith, e, f, g);
}

-- ---- drivers and expressions

drivers_wires : (front : Name) (n : ℕ) (drivers : List Driver) → AreRow front n (wires_of front n drivers)
drivers_wires front n [] = tt
drivers_wires front n (d ∷ drivers) = ((d.0, d.1, refl), drivers_wires front (suc n) drivers)

drivers_count : (front : Name) (n : ℕ) (drivers : List Driver) → length (wires_of front n drivers) ≡ length drivers
drivers_count front n [] = refl
drivers_count front n (d ∷ drivers) = ap suc (drivers_count front (suc n) drivers)

pub drivers_row : (front : Name) (n : ℕ) (drivers : List Driver) → IsRow front n (length drivers) (wires_of front n drivers)
drivers_row front n drivers = record { wires = drivers_wires front n drivers; count = drivers_count front n drivers }

abbrev IsCompiledRow : Name → ℕ → Compiled → Type 0
IsCompiledRow front n C = IsRow front n C.count C.elements

behind_row : (front : Name) (n : ℕ) (es : List Element) (c : ℕ) (drivers : List Driver) (a : Atom) → IsRow front n c es → IsCompiledRow front n (after_operands front n es c drivers a)
behind_row front n es c drivers a h = row_join front n c (length drivers) es (wires_of front (n + c) drivers) h (drivers_row front (n + c) drivers)

fixed_row : (front : Name) (n : ℕ) (o : Option ℕ) (k : Kind) (C : Compiled) → IsCompiledRow front n C → IsCompiledRow front n (by_fixed o k C)
fixed_row front n (Some v) k C h = row_none front n
fixed_row front n None k C h = h

-- the wires of an expression
pub compiled_row : (front : Name) (m n : ℕ) (k : Kind) (e : Expression) → IsCompiledRow front n (compiled front m n k e)
compiled_row front m n k (Converted s t e) =
    let C = compiled front m n s e in
    fixed_row front n (fixed (Converted s t e)) k (converting front n s t C) (behind_row front n C.elements C.count (conversion front (n + C.count) s t C.atom) C.atom (compiled_row front m n s e))
compiled_row front m n k (Applied o j l r) =
    let C = compiled front m n j l in
    let D = compiled front (m + read_count l) (n + C.count) (right_kind o j) r in
    fixed_row front n (fixed (Applied o j l r)) k (joining front n C D (λ i a b. operation front i o j k a b))
    (behind_row front n (C.elements ++ D.elements) (C.count + D.count) (operation front (n + (C.count + D.count)) o j k C.atom D.atom) C.atom
    (row_join front n C.count D.count C.elements D.elements (compiled_row front m n j l) (compiled_row front (m + read_count l) (n + C.count) (right_kind o j) r)))
compiled_row front m n k (Flipped j e) =
    let C = compiled front m n j e in
    fixed_row front n (fixed (Flipped j e)) k (one_more front n C (λ a. one (bits_of j) (Invert a))) (behind_row front n C.elements C.count (one (bits_of j) (Invert C.atom)) C.atom (compiled_row front m n j e))
compiled_row front m n k (Inverse e) =
    let C = compiled front m n kind.Bool e in
    fixed_row front n (fixed (Inverse e)) k (one_more front n C (λ a. one 1 (Invert a))) (behind_row front n C.elements C.count (one 1 (Invert C.atom)) C.atom (compiled_row front m n kind.Bool e))
compiled_row front m n k (Both l r) =
    let C = compiled front m n kind.Bool l in
    let D = compiled front (m + read_count l) (n + C.count) kind.Bool r in
    fixed_row front n (fixed (Both l r)) k (joining front n C D (λ i a b. one 1 (Binary a And b)))
    (behind_row front n (C.elements ++ D.elements) (C.count + D.count) (one 1 (Binary C.atom And D.atom)) C.atom
    (row_join front n C.count D.count C.elements D.elements (compiled_row front m n kind.Bool l) (compiled_row front (m + read_count l) (n + C.count) kind.Bool r)))
compiled_row front m n k (Either l r) =
    let C = compiled front m n kind.Bool l in
    let D = compiled front (m + read_count l) (n + C.count) kind.Bool r in
    fixed_row front n (fixed (Either l r)) k (joining front n C D (λ i a b. one 1 (Binary a Or b)))
    (behind_row front n (C.elements ++ D.elements) (C.count + D.count) (one 1 (Binary C.atom Or D.atom)) C.atom
    (row_join front n C.count D.count C.elements D.elements (compiled_row front m n kind.Bool l) (compiled_row front (m + read_count l) (n + C.count) kind.Bool r)))
compiled_row front m n k (Chosen e a b) =
    let C = compiled front m n kind.Bool e in
    let D = compiled front (m + read_count e) (n + C.count) k a in
    let E = compiled front (m + read_count e + read_count a) (n + C.count + D.count) k b in
    fixed_row front n (fixed (Chosen e a b)) k (choosing front n k C D E)
    (behind_row front n (C.elements ++ (D.elements ++ E.elements)) (C.count + (D.count + E.count)) (one (bits_of k) (Choose C.atom D.atom E.atom)) C.atom
    (row_join front n C.count (D.count + E.count) C.elements (D.elements ++ E.elements) (compiled_row front m n kind.Bool e)
    (row_join front (n + C.count) D.count E.count D.elements E.elements (compiled_row front (m + read_count e) (n + C.count) k a)
    (compiled_row front (m + read_count e + read_count a) (n + C.count + D.count) k b))))
compiled_row front m n k _ = row_none front n

-- ---- choices

choice_row : (w : ℕ) (front : Name) (driver : ℕ → Entry → Value) (j : ℕ) (entries : List Entry) → AreRow front j (row_of w front driver j entries)
choice_row w front driver j [] = tt
choice_row w front driver j (e ∷ entries) = ((w, driver j e, refl), choice_row w front driver (suc j) entries)

pub any_row : (front : Name) (entries : List Entry) → AreRow front 0 (any_elements front entries)
any_row front entries = choice_row 1 front (any_driver front) 0 entries

pub pick_row : (w : ℕ) (front : Name) (entries : List Entry) → AreRow front 0 (pick_elements w front entries)
pick_row w front entries = choice_row w front (pick_driver front) 0 entries

-- ---- their names

pub named_so : (e : Element) (x y : Name) → IsWire y e → Has (declared_names e) x → x ≡ y
named_so e x y h k = ⊎_elim (λ s. sym s) (λ n. absurd n) (subst (λ l. Has l x) (ap declared_names h.2) k)

pub row_names : (front : Name) (n : ℕ) (es : List Element) → AreRow front n es → (x : Name) → Has (flat_map declared_names es) x → (i : ℕ) × (n ≤ i) × (i < n + length es) × (x ≡ numbered front i)
row_names front n [] h x k = absurd k
row_names front n (e ∷ es) h x k = elim (has_split (declared_names e) (flat_map declared_names es) x k) [
  | inl l ↦ (n, omega arith, omega arith, named_so e x (numbered front n) h.0 l)
  | inr r ↦ (let t = row_names front (suc n) es h.1 x r in let low : suc n ≤ t.0 = t.1 in let high : t.0 < suc n + length es = t.2 in (t.0, omega (arith, low), omega (arith, high), t.3))
]
