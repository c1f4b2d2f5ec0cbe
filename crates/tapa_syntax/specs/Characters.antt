-- The bytes of a source: their classes, and their lines and columns (ISO C++ [lex.charset], [lex.name]).
use Rattle.std.specs.Prelude.{ℕ, ◌+◌, Bool, not, ◌&&◌, ◌||◌, if◌then◌else◌, ◌==◌, nat_le, List, [], ◌∷◌, ◌++◌, length, count_by}
use Rattle.std.specs.List.{list_any, list_all}
use Rattle.tapa_base.specs.declared.text.Place.{Place}
use Rattle.tapa_base.specs.Gaps.{Bytes, is_blank}

abbrev pub is_digit : ℕ → Bool
is_digit b = nat_le 48 b && nat_le b 57

-- a letter or `_`
abbrev pub is_letter : ℕ → Bool
is_letter b = (nat_le 97 b && nat_le b 122) || (nat_le 65 b && nat_le b 90) || b == 95

-- what a name or a number goes on with
abbrev pub is_word_byte : ℕ → Bool
is_word_byte b = is_letter b || is_digit b

-- a byte that may be between the quotes of a string: printable, and neither `"` nor `\`
abbrev pub is_plain : ℕ → Bool
is_plain b = nat_le 32 b && nat_le b 126 && not (b == 34) && not (b == 92)

-- a byte is one of these
abbrev pub is_among : List ℕ → ℕ → Bool
is_among set b = list_any (λ c. c == b) set

-- the number of leading bytes of a class
abbrev pub run : (ℕ → Bool) → Bytes → ℕ
run class [] = 0
run class (b ∷ z) = if class b then run class z + 1 else 0

-- the bytes after the last line feed, where `line` are the bytes of the line so far
abbrev pub line_behind : Bytes → Bytes → Bytes
line_behind line [] = line
line_behind line (b ∷ z) = line_behind (if b == 10 then [] else line ++ b ∷ []) z

abbrev pub last_line : Bytes → Bytes
last_line = line_behind []

-- the line so far has only blanks
abbrev pub opens_line : Bytes → Bool
opens_line before = list_all is_blank (last_line before)

-- the place of the byte after these: lines and columns count from 1
abbrev pub place_of : Bytes → Place
place_of before = record { line = 1 + count_by (λ b. b == 10) before; col = 1 + length (last_line before) }
