-- The gaps between the words of a text: blanks and comments, as in C++ (ISO C++ [lex.comment]) and in Verilog
-- (IEEE 1364-2005, 3.2 and 3.3).
use Rattle.std.specs.Prelude.{◌≡◌, ℕ, Bool, true, false, not, ◌&&◌, ◌||◌, ◌==◌, List, [], ◌∷◌, ◌++◌, slice_index}
use Rattle.std.specs.List.{list_all}

abbrev pub Bytes : Type 0
Bytes = List ℕ

-- the first byte is of a class; there is none in no bytes
abbrev pub begins : (ℕ → Bool) → Bytes → Bool
begins class [] = false
begins class (b ∷ z) = class b

-- space, tab, carriage return, line feed
abbrev pub is_blank : ℕ → Bool
is_blank b = b == 32 || b == 9 || b == 13 || b == 10

-- anything but the line feed, which ends a line
abbrev pub is_in_line : ℕ → Bool
is_in_line b = not (b == 10)

-- one blank
abbrev pub IsBlank : Bytes → Type 0
IsBlank bytes = (b : ℕ) × (bytes ≡ b ∷ []) × (is_blank b ≡ true)

-- a line ends here: nothing follows, or a line feed
abbrev pub EndsLine : Bytes → Type 0
EndsLine rest = begins is_in_line rest ≡ false

-- `//` to the line's end, or to the end of the text
abbrev pub IsLineComment : Bytes → Bytes → Type 0
IsLineComment bytes rest = (body : Bytes) × (bytes ≡ 47 ∷ 47 ∷ body) × (list_all is_in_line body ≡ true) × EndsLine rest

-- `*/` occurs in these bytes
unfoldable pub has_close : Bytes → Bool
has_close [] = false
has_close (b ∷ z) = (b == 42 && slice_index z 0 == 47) || has_close z

-- `/*` to the first `*/`
abbrev pub IsBlockComment : Bytes → Type 0
IsBlockComment bytes = (body : Bytes) × (bytes ≡ 47 ∷ 42 ∷ body ++ 42 ∷ 47 ∷ []) × (has_close (body ++ 42 ∷ []) ≡ false)
