-- The form at the start of a list of lexemes (TAPA documentation, `tapa::streams` and `invoke<mode, n>`).
use Rattle.std.specs.Prelude.{◌-◌, ◌&&◌, ◌||◌, ◌==◌, if◌then◌else◌, ◌∷◌, ◌++◌}
use Rattle.std.specs.Prelude.{ℕ, zero, suc, Bool, false, List, [], length, take, drop, slice_get, codes, bytes_eq, Option, Some, None, option_map}
use Rattle.tapa_base.specs.Gaps.{Bytes}
use Rattle.tapa_syntax.specs.declared.lexeme.Lexeme.{Lexeme}
use Rattle.tapa_syntax.specs.declared.terminal.Terminal.TheVariants as terminal
use Rattle.tapa_syntax.specs.Symbols.{text_of}
use Rattle.stream_arrays.specs.Standing.{is, is_named, stand, first_word, type_size}
use Rattle.stream_arrays.specs.Numbers.{literal_of, may_count}

-- ---- `tapa::streams<T, N, D> name, name;`

-- the words of the type, the count, the depth where one is given, the names, and how many lexemes are left after the semicolon
pub record Declaration : Type 0 where
  pub element : List Lexeme
  pub count : Lexeme
  pub depth : Option Lexeme
  pub names : List Lexeme
  pub left : ℕ

-- how many lexemes the string in parentheses after a name has; 0 where there is none
abbrev pub label_size : Bytes → List Lexeme → ℕ
label_size text ls = if stand text (terminal.LeftParen ∷ terminal.Str ∷ terminal.RightParen ∷ []) ls then 3 else 0

-- what follows a name: the semicolon, or a comma and more names
abbrev pub names_behind : Bytes → (List Lexeme → List Lexeme → Option (List Lexeme × ℕ)) → List Lexeme → List Lexeme → Option (List Lexeme × ℕ)
names_behind text more names [] = None
names_behind text more names (l ∷ ls) = if is text terminal.Semicolon l then Some (names, length ls) else (if is text terminal.Comma l then more names ls else None)

-- the names so far and those up to the semicolon, and how many lexemes are left after it. The number bounds the turns, and each
-- turn takes a name.
abbrev pub names_from : Bytes → ℕ → List Lexeme → List Lexeme → Option (List Lexeme × ℕ)
names_from text zero names ls = None
names_from text (suc turns) names [] = None
names_from text (suc turns) names (l ∷ ls) = if is_named text l then names_behind text (names_from text turns) (names ++ l ∷ []) (drop (label_size text ls) ls) else None

abbrev pub declared_as : List Lexeme → Lexeme → Option Lexeme → List Lexeme × ℕ → Declaration
declared_as element count depth p = record { element = element; count = count; depth = depth; names = p.0; left = p.1 }

abbrev pub with_names : Bytes → List Lexeme → Lexeme → Option Lexeme → List Lexeme → Option Declaration
with_names text element count depth ls = option_map (declared_as element count depth) (names_from text (length ls) [] ls)

-- from the depth on, after its comma
abbrev pub with_depth : Bytes → List Lexeme → Lexeme → List Lexeme → Option Declaration
with_depth text element count (d ∷ c ∷ ls) = if may_count text d && is text terminal.Greater c then with_names text element count (Some d) ls else None
with_depth text element count _ = None

-- from the lexeme after the count on
abbrev pub behind_count : Bytes → List Lexeme → Lexeme → List Lexeme → Option Declaration
behind_count text element count [] = None
behind_count text element count (l ∷ ls) =
    if is text terminal.Greater l then with_names text element count None ls else (if is text terminal.Comma l then with_depth text element count ls else None)

-- from the comma before the count on
abbrev pub behind_type : Bytes → List Lexeme → List Lexeme → Option Declaration
behind_type text element (c ∷ n ∷ ls) = if is text terminal.Comma c && may_count text n then behind_count text element n ls else None
behind_type text element _ = None

abbrev pub with_type : Bytes → List Lexeme → Option ℕ → Option Declaration
with_type text ls None = None
with_type text ls (Some n) = behind_type text (take n ls) (drop n ls)

abbrev pub begins_declaration : Bytes → List Lexeme → Bool
begins_declaration text ls = stand text (terminal.Tapa ∷ terminal.Scope ∷ terminal.Name ∷ terminal.Less ∷ []) ls && bytes_eq (first_word text (drop 2 ls)) (codes "streams")

abbrev pub declaration : Bytes → List Lexeme → Option Declaration
declaration text ls = if begins_declaration text ls then with_type text (drop 4 ls) (type_size text (drop 4 ls)) else None

-- ---- `.invoke<tapa::M, N>( .. )`

-- the count, and the lexemes between the parentheses
pub record Invocation : Type 0 where
  pub count : Lexeme
  pub inside : List Lexeme

-- the number of open parentheses after a lexeme
abbrev pub open_behind : Bytes → ℕ → Lexeme → ℕ
open_behind text count l = if is text terminal.RightParen l then count - 1 else (if is text terminal.LeftParen l then suc count else count)

-- how many lexemes come before the parenthesis that closes the one open at the start; count more are open inside it
abbrev pub inside_size : Bytes → ℕ → List Lexeme → Option ℕ
inside_size text count [] = None
inside_size text count (l ∷ ls) = if is text terminal.RightParen l && (count == 0) then Some 0 else option_map suc (inside_size text (open_behind text count l) ls)

abbrev pub is_mode : Bytes → Bool
is_mode word = bytes_eq word (codes "join") || bytes_eq word (codes "detach")

abbrev pub first_may_count : Bytes → List Lexeme → Bool
first_may_count text [] = false
first_may_count text (l ∷ ls) = may_count text l

abbrev pub begins_invocation : Bytes → List Lexeme → Bool
begins_invocation text ls =
    stand text (terminal.Dot ∷ terminal.Invoke ∷ terminal.Less ∷ terminal.Tapa ∷ terminal.Scope ∷ []) ls && is_mode (first_word text (drop 5 ls))
    && stand text (terminal.Comma ∷ []) (drop 6 ls)
    && first_may_count text (drop 7 ls) && stand text (terminal.Greater ∷ terminal.LeftParen ∷ []) (drop 8 ls)

abbrev pub invoked : List Lexeme → Option Lexeme → Option ℕ → Option Invocation
invoked ls (Some count) (Some n) = Some (record { count = count; inside = take n ls })
invoked ls _ _ = None

-- the parenthesis must be closed
abbrev pub invocation : Bytes → List Lexeme → Option Invocation
invocation text ls = if begins_invocation text ls then invoked (drop 10 ls) (slice_get ls 7) (inside_size text 0 (drop 10 ls)) else None

-- how many lexemes an argument has: it ends before a comma outside of parentheses
abbrev pub argument_size : Bytes → ℕ → List Lexeme → ℕ
argument_size text count [] = 0
argument_size text count (l ∷ ls) = if is text terminal.Comma l && (count == 0) then 0 else suc (argument_size text (open_behind text count l) ls)

-- ---- constants of the file: `const T NAME = N;`

abbrev pub named_constant : Bytes → Lexeme → Option ℕ → Option (Bytes × ℕ)
named_constant text x n = option_map (λ v. (text_of text x, v)) n

abbrev pub initialised : Bytes → List Lexeme → Option (Bytes × ℕ)
initialised text (x ∷ a ∷ v ∷ c ∷ ls) =
    if is_named text x && is text terminal.Assign a && is text terminal.Literal v && is text terminal.Semicolon c then named_constant text x (literal_of text v) else None
initialised text _ = None

abbrev pub constant_typed : Bytes → List Lexeme → Option ℕ → Option (Bytes × ℕ)
constant_typed text ls None = None
constant_typed text ls (Some n) = initialised text (drop n ls)

-- from the type of a constant on, after `const` or `constexpr`
abbrev pub constant_behind : Bytes → List Lexeme → Option (Bytes × ℕ)
constant_behind text ls = constant_typed text ls (type_size text ls)

abbrev pub begins_constant : Bytes → Lexeme → Bool
begins_constant text l = is text terminal.Const l || is text terminal.Constexpr l
