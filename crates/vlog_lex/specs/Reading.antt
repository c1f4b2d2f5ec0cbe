-- What the lexer reads at the start of a text.
use Rattle.std.specs.Prelude.{ℕ, ◌+◌, Bool, ◌&&◌, ◌||◌, if◌then◌else◌, ◌==◌, List, [], drop, slice_index, Option, Some, None, codes}
use Rattle.tapa_syntax.specs.Comments.{closing}
use Rattle.tapa_syntax.specs.Characters.{is_among, run}
use Rattle.vlog_tree.specs.Names.{starts_name, goes_on}
use Rattle.vlog_lex.specs.Numerals.{base_of}
use Rattle.tapa_base.specs.Gaps.{Bytes, is_blank, is_in_line}
use Rattle.vlog_lex.specs.Lexemes.{is_digit_of, makes_literal}
use Rattle.vlog_lex.specs.declared.class.Class.{Class}
use Rattle.vlog_lex.specs.declared.class.Class.TheVariants as class
use Rattle.vlog_lex.specs.declared.cut.Sort.{Sort}
use Rattle.vlog_lex.specs.declared.cut.Sort.TheVariants.{Gap, Word}

abbrev pub is_in : Class → ℕ → Bool
is_in class.Name = goes_on
is_in class.InLine = is_in_line
is_in (class.DigitOf base) = is_digit_of base

-- ---- signs

-- of one byte
abbrev pub singles : List ℕ
singles = codes "()[]{};:,.=+-*/%&|^~?<@"

-- of two: `<<` `>>` `==`
abbrev pub doubled : List ℕ
doubled = codes "<>="

-- of two: `<=` `!=`
abbrev pub before_equals : List ℕ
before_equals = codes "<!"

abbrev pub is_single : ℕ → Bool
is_single = is_among singles

abbrev pub is_pair : ℕ → ℕ → Bool
is_pair b c = (b == c && is_among doubled b) || (c == 61 && is_among before_equals b)

-- how many bytes the longest sign has, and 0 where there is none
unfoldable pub sign_length : ℕ → ℕ → ℕ
sign_length b c = if is_pair b c then 2 else (if is_single b then 1 else 0)

-- ---- pieces

-- a piece and its length, or none where no piece begins
abbrev pub Cut : Type 0
Cut = Option (Sort × ℕ)

abbrev pub cut_comment : Option ℕ → Cut
cut_comment None = None
cut_comment (Some n) = Some (Gap, n + 2)

abbrev pub cut_sign : ℕ → Cut
cut_sign n = if n == 0 then None else Some (Word, n)

unfoldable pub cut_mark : Bytes → Cut
cut_mark z =
    if slice_index z 0 == 47 && slice_index z 1 == 47 then Some (Gap, run is_in_line z)
    else (if slice_index z 0 == 47 && slice_index z 1 == 42 then cut_comment (closing (drop 2 z))
    else cut_sign (sign_length (slice_index z 0) (slice_index z 1)))

-- of a text that begins with a digit: of a number, or of the literal of which it is the size
unfoldable pub number_length : Bytes → ℕ
number_length z =
    let n = run (is_digit_of 10) z in
    let behind = drop n z in
    if makes_literal behind then n + 2 + run (is_digit_of (base_of (slice_index behind 1))) (drop 2 behind) else n

-- the piece that comes first
unfoldable pub cut : Bytes → Cut
cut z =
    if is_blank (slice_index z 0) then Some (Gap, 1)
    else (if starts_name (slice_index z 0) then Some (Word, run goes_on z)
    else (if is_digit_of 10 (slice_index z 0) then Some (Word, number_length z) else cut_mark z))
