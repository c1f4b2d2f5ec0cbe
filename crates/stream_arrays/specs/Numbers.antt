-- Names that denote numbers, and counts.
use Rattle.std.specs.Prelude.{◌&&◌, ◌||◌, ◌==◌, if◌then◌else◌, ◌∷◌}
use Rattle.std.specs.Prelude.{ℕ, Bool, not, nat_le, List, [], length, map, slice_index, Option, Some, None, option_and_then, bytes_eq, Vec}
use Rattle.std.specs.List.{list_all}
use Rattle.std.specs.declared.alloc.Global.{Global}
use Rattle.tapa_base.specs.Gaps.{Bytes}
use Rattle.tapa_syntax.specs.Characters.{is_digit}
use Rattle.tapa_syntax.specs.declared.lexeme.LexKind.{LexKind}
use Rattle.tapa_syntax.specs.declared.lexeme.LexKind.TheVariants.{Literal}
use Rattle.tapa_syntax.specs.declared.lexeme.Lexeme.{Lexeme}
use Rattle.tapa_syntax.specs.declared.terminal.Terminal.TheVariants as terminal
use Rattle.tapa_syntax.specs.Symbols.{text_of}
use Rattle.stream_arrays.specs.Standing.{is, is_named}

-- names and their numbers
abbrev pub Numbering : Type 0
Numbering = List (Bytes × ℕ)

-- the numbering of a table's entries
abbrev pub numbering_of : List (Vec ℕ Global × ℕ) → Numbering
numbering_of entries = map (λ e. (e.0.items, e.1)) entries

-- the number of a name
abbrev pub found : Numbering → Bytes → Option ℕ
found [] x = None
found (e ∷ es) x = if bytes_eq e.0 x then Some e.1 else found es x

-- a name has this number from now on
abbrev pub numbered : Numbering → Bytes → ℕ → Numbering
numbered [] x n = (x, n) ∷ []
numbered (e ∷ es) x n = if bytes_eq e.0 x then (e.0, n) ∷ es else e ∷ numbered es x n

-- decimal digits without a suffix: `0`, or no 0 as the first digit
abbrev pub is_decimal : Bytes → Bool
is_decimal word = list_all is_digit word && (not (slice_index word 0 == 48) || (length word == 1))

abbrev pub value_of : LexKind → Option ℕ
value_of (Literal kind value) = Some value
value_of _ = None

-- the number that a decimal literal is
abbrev pub literal_of : Bytes → Lexeme → Option ℕ
literal_of text l = if is_decimal (text_of text l) then value_of l.kind else None

-- the number that a decimal literal is, or a constant
abbrev pub number_of : Bytes → Numbering → Lexeme → Option ℕ
number_of text constants l =
    if is text terminal.Literal l then literal_of text l
    else (if is_named text l then found constants (text_of text l) else None)

abbrev pub most_elements : ℕ
most_elements = 512

abbrev pub in_bounds : ℕ → Option ℕ
in_bounds n = if nat_le 1 n && nat_le n most_elements then Some n else None

-- a count is a number from 1 to 512
abbrev pub count_of : Bytes → Numbering → Lexeme → Option ℕ
count_of text constants l = option_and_then in_bounds (number_of text constants l)

-- a literal or a name, which may be a count
abbrev pub may_count : Bytes → Lexeme → Bool
may_count text l = is text terminal.Literal l || is_named text l
