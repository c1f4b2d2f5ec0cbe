-- How many reads an expression has.
use Rattle.std.proofs.Common.{◌≡◌, ℕ, ◌+◌, List, [], ◌∷◌, ◌++◌, length, refl, arith, length-append}
use Rattle.task_fsm.specs.Machine.{Expression, Number, Reg, CellOf, Converted, Applied, Flipped, Inverse, Both, Either, Chosen}
use Rattle.hw_lines.specs.Wires.{ArrayRead, read_count, reads_in}

two : (xs ys : List ArrayRead) (a b : ℕ) → length xs ≡ a → length ys ≡ b → length (xs ++ ys) ≡ a + b
two xs ys a b p q = let e : length (xs ++ ys) ≡ length xs + length ys = length-append xs ys in omega (arith, e, p, q)

pub reads_length : (m : ℕ) (E : Expression) → length (reads_in m E) ≡ read_count E
reads_length m (Number k n) = refl
reads_length m (Reg x) = refl
reads_length m (CellOf a i) = two (reads_in m i) (record { array = a; index = i; first = m } ∷ []) (read_count i) 1 (reads_length m i) refl
reads_length m (Converted s t e) = reads_length m e
reads_length m (Applied op k l r) = two (reads_in m l) (reads_in (m + read_count l) r) (read_count l) (read_count r) (reads_length m l) (reads_length (m + read_count l) r)
reads_length m (Flipped k e) = reads_length m e
reads_length m (Inverse e) = reads_length m e
reads_length m (Both l r) = two (reads_in m l) (reads_in (m + read_count l) r) (read_count l) (read_count r) (reads_length m l) (reads_length (m + read_count l) r)
reads_length m (Either l r) = two (reads_in m l) (reads_in (m + read_count l) r) (read_count l) (read_count r) (reads_length m l) (reads_length (m + read_count l) r)
reads_length m (Chosen e a b) =
    two (reads_in m e) (reads_in (m + read_count e) a ++ reads_in (m + read_count e + read_count a) b) (read_count e) (read_count a + read_count b) (reads_length m e)
    (two (reads_in (m + read_count e) a) (reads_in (m + read_count e + read_count a) b) (read_count a) (read_count b) (reads_length (m + read_count e) a) (reads_length (m + read_count e + read_count a) b))

pub reads_total : (i v : Expression) → length (reads_in 0 i ++ reads_in (read_count i) v) ≡ read_count i + read_count v
reads_total i v = two (reads_in 0 i) (reads_in (read_count i) v) (read_count i) (read_count v) (reads_length 0 i) (reads_length (read_count i) v)
