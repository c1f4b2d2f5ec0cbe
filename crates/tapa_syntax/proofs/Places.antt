-- The place behind one more byte.
use Rattle.std.proofs.Common.{◌≡◌, ℕ, suc, ◌+◌, ◌≤◌, Bool, true, false, cond, [], ◌∷◌, ◌++◌, length, refl, sym, ap, ◌∙◌, arith, nat_eq}
use Rattle.std.specs.Prelude.{count_by}
use Rattle.std.proofs.lemmas.List.{length-append}
use Rattle.std.proofs.lemmas.List.Sums.{sum_by-append, count_by-le-length}
use Rattle.tapa_base.specs.declared.text.Place.{Place}
use Rattle.tapa_base.specs.Gaps.{Bytes}
use Rattle.tapa_syntax.specs.Characters.{line_behind, last_line, place_of}

pub line_behind_append : (line a z : Bytes) → line_behind line (a ++ z) ≡ line_behind (line_behind line a) z
line_behind_append line [] z = refl
line_behind_append line (b ∷ a) z = line_behind_append (cond (nat_eq b 10) [] (line ++ b ∷ [])) a z

feeds_append : (a : Bytes) (b : ℕ) → count_by (λ x. nat_eq x 10) (a ++ b ∷ []) ≡ count_by (λ x. nat_eq x 10) a + count_by (λ x. nat_eq x 10) (b ∷ [])
feeds_append a b = sum_by-append (λ x. cond (nat_eq x 10) 1 0) a (b ∷ [])

last_line_append : (before : Bytes) (b : ℕ) → last_line (before ++ b ∷ []) ≡ cond (nat_eq b 10) [] (last_line before ++ b ∷ [])
last_line_append before b = line_behind_append [] before (b ∷ [])

pub line_after_feed : (before : Bytes) (b : ℕ) → nat_eq b 10 ≡ true → last_line (before ++ b ∷ []) ≡ []
line_after_feed before b e = last_line_append before b ∙ rw e refl

pub line_after_byte : (before : Bytes) (b : ℕ) → nat_eq b 10 ≡ false → last_line (before ++ b ∷ []) ≡ last_line before ++ b ∷ []
line_after_byte before b e = last_line_append before b ∙ rw e refl

pub place_same : (l c m d : ℕ) → l ≡ m → c ≡ d → let p : Place = record { line = l; col = c } in let q : Place = record { line = m; col = d } in p ≡ q
place_same l c m d e f = cc

-- a line feed begins the next line
pub place_after_feed : (before : Bytes) (b line col : ℕ) → nat_eq b 10 ≡ true → (let p : Place = record { line = line; col = col } in p ≡ place_of before) → let q : Place = record { line = line + 1; col = 1 } in q ≡ place_of (before ++ b ∷ [])
place_after_feed before b line col e h =
    let one : count_by (λ x. nat_eq x 10) (b ∷ []) ≡ 1 = rw e refl in
    let here : line ≡ 1 + count_by (λ x. nat_eq x 10) before = ap (λ (p : Place). p.line) h in
    place_same _ _ _ _ (omega (arith, here, one, feeds_append before b)) (sym (ap (λ (l : Bytes). 1 + length l) (line_after_feed before b e)))

-- any other byte stands in the next column
pub place_after_byte : (before : Bytes) (b line col : ℕ) → nat_eq b 10 ≡ false → (let p : Place = record { line = line; col = col } in p ≡ place_of before) → let q : Place = record { line = line; col = col + 1 } in q ≡ place_of (before ++ b ∷ [])
place_after_byte before b line col e h =
    let none : count_by (λ x. nat_eq x 10) (b ∷ []) ≡ 0 = rw e refl in
    let here : line ≡ 1 + count_by (λ x. nat_eq x 10) before = ap (λ (p : Place). p.line) h in
    let there : col ≡ 1 + length (last_line before) = ap (λ (p : Place). p.col) h in
    place_same _ _ _ _ (omega (arith, here, none, feeds_append before b)) (omega (arith, there, ap length (line_after_byte before b e), length-append (last_line before) (b ∷ [])))

-- a line and a column are at most as many as the bytes before them, and one
pub line_within : (before : Bytes) → (place_of before).line ≤ 1 + length before
line_within before = omega (arith, count_by-le-length (λ x. nat_eq x 10) before)

line_length : (line z : Bytes) → length (line_behind line z) ≤ length line + length z
line_length line [] = omega arith
line_length line (b ∷ z) = by_test (nat_eq b 10) (line_length [] z) (line_length (line ++ b ∷ []) z)
  where
    by_test : (t : Bool) → length (line_behind [] z) ≤ 0 + length z → length (line_behind (line ++ b ∷ []) z) ≤ length (line ++ b ∷ []) + length z → length (line_behind (cond t [] (line ++ b ∷ [])) z) ≤ length line + suc (length z)
    by_test true p q = omega arith
    by_test false p q = omega (arith, length-append line (b ∷ []))

pub col_within : (before : Bytes) → (place_of before).col ≤ 1 + length before
col_within before = omega (arith, line_length [] before)
