-- The wires of an expression: those of its parts, and then those of its operator. What it reads of arrays has numbers, the
-- inner reads first and the left before the right.
use Rattle.std.specs.Prelude.{ℕ, ◌+◌, List, [], ◌∷◌, ◌++◌, length, Option, Some, None}
use Rattle.tapa_base.specs.declared.kind.Kind.{Kind}
use Rattle.tapa_base.specs.declared.kind.Kind.TheVariants.{Bool, U64}
use Rattle.tapa_base.specs.Kinds.{bits_of}
use Rattle.tapa_syntax.specs.Typed.{right_kind}
use Rattle.vlog_tree.specs.declared.tree.Atom.{Atom}
use Rattle.vlog_tree.specs.declared.tree.Atom.TheVariants.{Net, Literal}
use Rattle.vlog_tree.specs.declared.tree.BinaryOp.TheVariants.{And, Or}
use Rattle.vlog_tree.specs.declared.tree.Value.TheVariants.{Invert, Binary, Choose}
use Rattle.vlog_tree.specs.Table.{Name}
use Rattle.hw_build.specs.Elements.{Element}
use Rattle.task_fsm.specs.Machine.{Expression, Number, Reg, CellOf, Converted, Applied, Flipped, Inverse, Both, Either, Chosen}
use Rattle.hw_lines.specs.Nets.{Variable, Answer, name}
use Rattle.hw_lines.specs.Fixed.{fixed}
use Rattle.hw_lines.specs.Drivers.{Driver, wires_of, last_of, one, conversion, operation}

-- a read of an array: its index, and the number of the first read in that
pub record ArrayRead : Type 0 where
  pub array : ℕ
  pub index : Expression
  pub first : ℕ

abbrev pub read_count : Expression → ℕ
read_count (Number k n) = 0
read_count (Reg x) = 0
read_count (CellOf a i) = read_count i + 1
read_count (Converted source target e) = read_count e
read_count (Applied op k l r) = read_count l + read_count r
read_count (Flipped k e) = read_count e
read_count (Inverse e) = read_count e
read_count (Both l r) = read_count l + read_count r
read_count (Either l r) = read_count l + read_count r
read_count (Chosen e a b) = read_count e + (read_count a + read_count b)

-- the reads of an expression, of which the first has number m
abbrev pub reads_in : ℕ → Expression → List ArrayRead
reads_in m (Number k n) = []
reads_in m (Reg x) = []
reads_in m (CellOf a i) = reads_in m i ++ record { array = a; index = i; first = m } ∷ []
reads_in m (Converted source target e) = reads_in m e
reads_in m (Applied op k l r) = reads_in m l ++ reads_in (m + read_count l) r
reads_in m (Flipped k e) = reads_in m e
reads_in m (Inverse e) = reads_in m e
reads_in m (Both l r) = reads_in m l ++ reads_in (m + read_count l) r
reads_in m (Either l r) = reads_in m l ++ reads_in (m + read_count l) r
reads_in m (Chosen e a b) = reads_in m e ++ (reads_in (m + read_count e) a ++ reads_in (m + read_count e + read_count a) b)

-- the wires of an expression, how many there are, and the atom with its value
pub record Compiled : Type 0 where
  pub elements : List Element
  pub count : ℕ
  pub atom : Atom

abbrev pub constant : Kind → ℕ → Compiled
constant k n = record { elements = []; count = 0; atom = Literal (bits_of k) n }

abbrev pub as_is : Atom → Compiled
as_is a = record { elements = []; count = 0; atom = a }

-- the elements of two operands
abbrev pub two : Compiled → Compiled → List Element
two C D = C.elements ++ D.elements

-- an operator after the wires of its operands, the first of which has number n
abbrev pub after_operands : Name → ℕ → List Element → ℕ → List Driver → Atom → Compiled
after_operands front n elements count drivers a = record {
  elements = elements ++ wires_of front (n + count) drivers;
  count = count + length drivers;
  atom = last_of front (n + count) drivers a;
}

abbrev pub by_fixed : Option ℕ → Kind → Compiled → Compiled
by_fixed (Some v) k C = constant k v
by_fixed None k C = C

abbrev pub converting : Name → ℕ → (source target : Kind) → Compiled → Compiled
converting front n source target C = after_operands front n C.elements C.count (conversion front (n + C.count) source target C.atom) C.atom

abbrev pub one_more : Name → ℕ → Compiled → (Atom → List Driver) → Compiled
one_more front n C drivers = after_operands front n C.elements C.count (drivers C.atom) C.atom

abbrev pub joining : Name → ℕ → Compiled → Compiled → (ℕ → Atom → Atom → List Driver) → Compiled
joining front n C D drivers = after_operands front n (C.elements ++ D.elements) (C.count + D.count) (drivers (n + (C.count + D.count)) C.atom D.atom) C.atom

abbrev pub choosing : Name → ℕ → Kind → Compiled → Compiled → Compiled → Compiled
choosing front n k C D E =
    after_operands front n (C.elements ++ (D.elements ++ E.elements)) (C.count + (D.count + E.count)) (one (bits_of k) (Choose C.atom D.atom E.atom)) C.atom

-- an expression of kind k, whose first wire has number n and whose first read number m
abbrev pub compiled : Name → (m n : ℕ) → Kind → Expression → Compiled
compiled front m n k (Number j v) = constant k v
compiled front m n k (Reg x) = as_is (Net (name (Variable x)))
compiled front m n k (CellOf a i) = as_is (Net (name (Answer (m + read_count i) a)))
compiled front m n k (Converted source target e) =
    by_fixed (fixed (Converted source target e)) k (converting front n source target (compiled front m n source e))
compiled front m n k (Applied op j l r) =
    by_fixed (fixed (Applied op j l r)) k
    (joining front n (compiled front m n j l) (compiled front (m + read_count l) (n + (compiled front m n j l).count) (right_kind op j) r) (λ i a b. operation front i op j k a b))
compiled front m n k (Flipped j e) = by_fixed (fixed (Flipped j e)) k (one_more front n (compiled front m n j e) (λ a. one (bits_of j) (Invert a)))
compiled front m n k (Inverse e) = by_fixed (fixed (Inverse e)) k (one_more front n (compiled front m n Bool e) (λ a. one 1 (Invert a)))
compiled front m n k (Both l r) =
    by_fixed (fixed (Both l r)) k
    (joining front n (compiled front m n Bool l) (compiled front (m + read_count l) (n + (compiled front m n Bool l).count) Bool r) (λ i a b. one 1 (Binary a And b)))
compiled front m n k (Either l r) =
    by_fixed (fixed (Either l r)) k
    (joining front n (compiled front m n Bool l) (compiled front (m + read_count l) (n + (compiled front m n Bool l).count) Bool r) (λ i a b. one 1 (Binary a Or b)))
compiled front m n k (Chosen e a b) =
    by_fixed (fixed (Chosen e a b)) k
    (choosing front n k (compiled front m n Bool e) (compiled front (m + read_count e) (n + (compiled front m n Bool e).count) k a)
    (compiled front (m + read_count e + read_count a) (n + (compiled front m n Bool e).count + (compiled front (m + read_count e) (n + (compiled front m n Bool e).count) k a).count) k b))
