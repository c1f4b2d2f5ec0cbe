-- Sized literals (IEEE 1364-2005, 3.5.1): a decimal size, `'`, a letter for the base and digits of it. The subset has the
-- bases 2, 10 and 16, without signs, `_`, `x` and `z`, and no blanks within.
use Rattle.std.specs.Prelude.{◌≡◌, ℕ, ◌∷◌, ◌++◌, if◌then◌else◌, ◌==◌}
use Rattle.std.specs.Str.Parse.{IsNumeral, digits_value}
use Rattle.vlog_tree.specs.Spelling.{Word}

-- `d`, `h` or `b`; no byte is a digit of base 0
abbrev pub base_of : ℕ → ℕ
base_of letter = if letter == 100 then 10 else (if letter == 104 then 16 else (if letter == 98 then 2 else 0))

-- the parts of a literal
pub record Sized : Type 0 where
  pub size : Word
  pub letter : ℕ
  pub digits : Word

-- and their bytes
abbrev pub sized_word : Sized → Word
sized_word l = l.size ++ 39 ∷ l.letter ∷ l.digits

-- both numerals have at least one digit, and may begin with zeros
abbrev pub IsSized : Sized → Type 0
IsSized l = IsNumeral 10 l.size × IsNumeral (base_of l.letter) l.digits

-- a numeral of base 10 for this number
abbrev pub IsNumber : ℕ → Word → Type 0
IsNumber n w = IsNumeral 10 w × (digits_value 10 w ≡ n)

-- a literal of this width and this value
abbrev pub IsLiteral : ℕ → ℕ → Word → Type 0
IsLiteral width value w = (l : Sized) × IsSized l × (w ≡ sized_word l) × (digits_value 10 l.size ≡ width) × (digits_value (base_of l.letter) l.digits ≡ value)
