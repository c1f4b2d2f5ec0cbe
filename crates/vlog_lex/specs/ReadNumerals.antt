-- What words write as numbers, each cut where the rule on widths refuses all that are larger.
use Rattle.std.specs.Prelude.{ℕ, ◌+◌, Bool, not, ◌&&◌, ◌==◌, if◌then◌else◌, ◌∷◌, length, take, drop, Option, Some, None}
use Rattle.std.specs.Str.Parse.{digits_value}
use Rattle.tapa_syntax.specs.Characters.{run}
use Rattle.vlog_tree.specs.declared.tree.Atom.{Atom}
use Rattle.vlog_tree.specs.declared.tree.Atom.TheVariants.{Literal}
use Rattle.vlog_tree.specs.Spelling.{Word}
use Rattle.vlog_tree.specs.Clamped.{clamped_width, clamped_cells, clamped_atom}
use Rattle.vlog_lex.specs.Numerals.{base_of}
use Rattle.vlog_lex.specs.Lexemes.{is_digit_of}

abbrev pub is_numeral : ℕ → Word → Bool
is_numeral base w = not (length w == 0) && run (is_digit_of base) w == length w

abbrev pub is_number : Word → Bool
is_number w = is_numeral 10 w

abbrev pub width_at : Word → ℕ
width_at w = clamped_width (digits_value 10 w)

-- of a vector whose last bit this is, and of a memory whose last cell
abbrev pub width_behind : Word → ℕ
width_behind w = clamped_width (digits_value 10 w + 1)

abbrev pub cells_behind : Word → ℕ
cells_behind w = clamped_cells (digits_value 10 w + 1)

abbrev pub sized_atom : Word → ℕ → Word → Atom
sized_atom size base digits = clamped_atom (Literal (digits_value 10 size) (digits_value base digits))

-- the literal of a size and the word after it, or none
abbrev pub based_of : Word → Word → Option Atom
based_of size (quote ∷ letter ∷ digits) = if quote == 39 && is_numeral (base_of letter) digits then Some (sized_atom size (base_of letter) digits) else None
based_of size _ = None

abbrev pub literal_of : Word → Option Atom
literal_of w = let n = run (is_digit_of 10) w in if n == 0 then None else based_of (take n w) (drop n w)
