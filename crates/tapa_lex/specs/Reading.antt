-- What the lexer computes at the start of a text.
use Rattle.std.specs.Prelude.{ℕ, ◌+◌, Bool, ◌&&◌, ◌||◌, if◌then◌else◌, ◌==◌, List, [], take, drop, slice_index, Option, Some, None, Result, Ok, Err, codes}
use Rattle.std.specs.Str.{bytes_eq}
use Rattle.tapa_base.specs.declared.kind.Kind.{Kind}
use Rattle.tapa_syntax.specs.declared.lexeme.LexKind.{LexKind}
use Rattle.tapa_syntax.specs.declared.lexeme.LexKind.TheVariants as kind
use Rattle.tapa_base.specs.Gaps.{Bytes, is_blank, is_in_line}
use Rattle.tapa_syntax.specs.Comments.{closing}
use Rattle.tapa_syntax.specs.Characters.{is_digit, is_letter, is_word_byte, is_plain, is_among, run}
use Rattle.tapa_syntax.specs.Literals.{is_digit_of, literal_of}
use Rattle.tapa_syntax.specs.Lexemes.{is_inner_blank}
use Rattle.tapa_lex.specs.declared.class.Class.{Class}
use Rattle.tapa_lex.specs.declared.class.Class.TheVariants as class
use Rattle.tapa_lex.specs.declared.fault.LexCode.{LexCode}
use Rattle.tapa_lex.specs.declared.fault.LexCode.TheVariants.{L1, L2, L3, L4}

abbrev pub is_in : Class → ℕ → Bool
is_in class.Word = is_word_byte
is_in class.InLine = is_in_line
is_in class.InnerBlank = is_inner_blank
is_in class.Plain = is_plain
is_in (class.DigitOf base) = is_digit_of base

-- ---- signs

-- of one byte
abbrev pub singles : List ℕ
singles = codes "(){}[]<>,;:?.=+-*/%&|^~!"

-- of two: `::` `<<` `>>` `==` `&&` `||` `++` `--`
abbrev pub doubled : List ℕ
doubled = codes ":<>=&|+-"

-- of two: `<=` `>=` `!=` `+=` `-=` `*=` `/=` `%=` `&=` `|=` `^=`
abbrev pub before_equals : List ℕ
before_equals = codes "<>!+-*/%&|^"

-- of three: `<<=` `>>=`
abbrev pub shifts : List ℕ
shifts = codes "<>"

abbrev pub is_single : ℕ → Bool
is_single = is_among singles

abbrev pub is_pair : ℕ → ℕ → Bool
is_pair b c = (b == c && is_among doubled b) || (c == 61 && is_among before_equals b)

abbrev pub is_triple : ℕ → ℕ → ℕ → Bool
is_triple b c d = b == c && d == 61 && is_among shifts b

-- how many bytes the longest sign has, and 0 where there is none
unfoldable pub sign_length : ℕ → ℕ → ℕ → ℕ
sign_length b c d = if is_triple b c d then 3 else (if is_pair b c then 2 else (if is_single b then 1 else 0))

-- a piece and its length, or why the text begins with none
abbrev pub Cut : Type 0
Cut = Result (Option LexKind × ℕ) LexCode

abbrev pub cut_literal : ℕ → Option (Kind × ℕ) → Cut
cut_literal n None = Err L3
cut_literal n (Some l) = Ok (Some (kind.Literal l.0 l.1), n)

-- of a text that begins with `"`
unfoldable pub cut_string : Bytes → Cut
cut_string z =
    let n = run is_plain (drop 1 z) in
    if slice_index z (n + 1) == 34 then Ok (Some kind.Str, n + 2) else Err L2

-- the first word of a line that begins with `#`
unfoldable pub first_word : Bytes → Bytes
first_word z = let behind = drop (run is_inner_blank (drop 1 z) + 1) z in take (run is_word_byte behind) behind

abbrev pub is_known : Bytes → Bool
is_known word = bytes_eq word (codes "include") || bytes_eq word (codes "pragma")

-- of a text that begins with `#`
unfoldable pub cut_line : Bool → Bytes → Cut
cut_line opens z = if opens then (if is_known (first_word z) then Ok (None, run is_in_line z) else Err L4) else Err L1

abbrev pub cut_comment : Option ℕ → Cut
cut_comment None = Err L2
cut_comment (Some n) = Ok (None, n + 2)

abbrev pub cut_sign : ℕ → Cut
cut_sign n = if n == 0 then Err L1 else Ok (Some kind.Punct, n)

unfoldable pub cut_mark : Bytes → Cut
cut_mark z =
    if slice_index z 0 == 47 && slice_index z 1 == 47 then Ok (None, run is_in_line z)
    else (if slice_index z 0 == 47 && slice_index z 1 == 42 then cut_comment (closing (drop 2 z))
    else cut_sign (sign_length (slice_index z 0) (slice_index z 1) (slice_index z 2)))

unfoldable pub cut_quoted : Bool → Bytes → Cut
cut_quoted opens z =
    if slice_index z 0 == 34 then cut_string z
    else (if slice_index z 0 == 35 then cut_line opens z else cut_mark z)

unfoldable pub cut_word : Bool → Bytes → Cut
cut_word opens z =
    if is_letter (slice_index z 0) then Ok (Some kind.Word, run is_word_byte z)
    else (if is_digit (slice_index z 0) then cut_literal (run is_word_byte z) (literal_of (take (run is_word_byte z) z))
    else cut_quoted opens z)

-- the piece that comes first; `opens` says whether only blanks are before it in its line
unfoldable pub cut : Bool → Bytes → Cut
cut opens z = if is_blank (slice_index z 0) then Ok (None, 1) else cut_word opens z
