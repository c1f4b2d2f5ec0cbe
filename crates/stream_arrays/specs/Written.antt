-- The text in which stream arrays and counted invokes are written out, and where a text has none.
use Rattle.std.specs.Prelude.{◌+◌, ◌-◌, ◌&&◌, ◌||◌, ◌==◌, if◌then◌else◌, ◌∷◌, ◌++◌}
use Rattle.std.specs.Prelude.{ℕ, zero, suc, Bool, true, false, nat_le, nat_lt, List, [], length, map, take, drop}
use Rattle.std.specs.Prelude.{slice_get, slice_range, codes, Option, Some, None, is_some, option_map, unwrap_or, Result, Ok, Err}
use Rattle.tapa_base.specs.Gaps.{Bytes}
use Rattle.tapa_base.specs.declared.text.Place.{Place}
use Rattle.tapa_syntax.specs.declared.lexeme.Lexeme.{Lexeme}
use Rattle.tapa_syntax.specs.declared.terminal.Terminal.TheVariants as terminal
use Rattle.tapa_syntax.specs.Symbols.{text_of}
use Rattle.stream_arrays.specs.declared.fault.ArrayCode.{ArrayCode}
use Rattle.stream_arrays.specs.declared.fault.ArrayCode.TheVariants.{A1, A2, A3, A4}
use Rattle.stream_arrays.specs.declared.fault.ArrayFault.{ArrayFault}
use Rattle.stream_arrays.specs.declared.piece.Piece.{Piece}
use Rattle.stream_arrays.specs.declared.piece.Piece.TheVariants.{Word, Comma, Instance, Element}
use Rattle.stream_arrays.specs.Standing.{is, is_named, stand, stand_last}
use Rattle.stream_arrays.specs.Numbers.{Numbering, found, numbered, number_of, count_of}
use Rattle.stream_arrays.specs.Forms.{Declaration, declaration, Invocation, invocation, argument_size, constant_behind, begins_constant}
use Rattle.stream_arrays.specs.Words.{end_of, form_text, element_words, name_words, depth_words, words_of, invoke_words}

-- What is known before a lexeme: the constants of the file; the arrays, with how many elements each has; how many braces are open;
-- and of each open parenthesis, the innermost last, whether it is that of an invoke.
pub record Scope : Type 0 where
  pub constants : Numbering
  pub arrays : Numbering
  pub depth : ℕ
  pub opened : List Bool

-- What a form becomes, what is known after it, and how many lexemes it has after its first.
pub record Step : Type 0 where
  pub written : Bytes
  pub scope : Scope
  pub more : ℕ

abbrev pub Outcome : Type 0 → Type 0
Outcome A = Result A ArrayFault

abbrev pub and_then : {A B : Type 0} → Outcome A → (A → Outcome B) → Outcome B
and_then (Ok a) f = f a
and_then (Err e) f = Err e

abbrev pub faulty : {A : Type 0} → ArrayCode → Place → Outcome A
faulty code place = Err (record { code = code; place = place })

-- what is there, or else a fault
abbrev pub some_or : {A : Type 0} → ArrayCode → Place → Option A → Outcome A
some_or code place None = faulty code place
some_or code place (Some a) = Ok a

-- ---- names of arrays

-- a word directly after `.` or `tapa ::` is no name of an array
abbrev pub is_selected : Bytes → List Lexeme → Bool
is_selected text before = stand_last text (terminal.Dot ∷ []) before || stand_last text (terminal.Tapa ∷ terminal.Scope ∷ []) before

-- how many elements the array has whose name a lexeme is, given the lexemes before it
abbrev pub array_at : Bytes → Numbering → List Lexeme → Lexeme → Option ℕ
array_at text arrays before l = if is_named text l && (if is_selected text before then false else true) then found arrays (text_of text l) else None

-- none of these lexemes is the name of an array, given the lexemes before them
abbrev pub without_arrays : Bytes → Numbering → List Lexeme → List Lexeme → Outcome (Unit {0})
without_arrays text arrays before [] = Ok tt
without_arrays text arrays before (l ∷ ls) = if is_some (array_at text arrays before l) then faulty A3 l.place else without_arrays text arrays (before ++ l ∷ []) ls

-- the count of a form, which is no name of an array
abbrev pub count_in : Bytes → Scope → Lexeme → Outcome ℕ
count_in text s l = and_then (without_arrays text s.arrays [] (l ∷ [])) (λ _. some_or A1 l.place (count_of text s.constants l))

-- the number that an index is, where it is no name of an array
abbrev pub index_of : Bytes → Scope → Lexeme → Option ℕ
index_of text s k = if is_some (array_at text s.arrays [] k) then None else number_of text s.constants k

-- the length and the index, where the lexemes begin with the name of an array and a number in brackets
abbrev pub both : Option ℕ → Option ℕ → Option (ℕ × ℕ)
both (Some m) (Some k) = Some (m, k)
both _ _ = None

abbrev pub element_in : Bytes → Scope → List Lexeme → Option (ℕ × ℕ)
element_in text s (l ∷ a ∷ k ∷ b ∷ ls) = if is text terminal.LeftBracket a && is text terminal.RightBracket b then both (array_at text s.arrays [] l) (index_of text s k) else None
element_in text s _ = None

-- an index is below the length
abbrev pub index_in : Place → ℕ × ℕ → Outcome ℕ
index_in place p = if nat_lt p.1 p.0 then Ok p.1 else faulty A3 place

-- ---- declarations of arrays

abbrev pub without_array : Bytes → Numbering → Option Lexeme → Outcome (Unit {0})
without_array text arrays None = Ok tt
without_array text arrays (Some d) = without_arrays text arrays [] (d ∷ [])

-- names of arrays of n elements, each of which is none yet
abbrev pub with_arrays : Bytes → ℕ → Numbering → List Lexeme → Outcome Numbering
with_arrays text n arrays [] = Ok arrays
with_arrays text n arrays (x ∷ xs) = if is_some (found arrays (text_of text x)) then faulty A3 x.place else with_arrays text n (numbered arrays (text_of text x) n) xs

abbrev pub declaration_words : Bytes → Declaration → ℕ → List Bytes
declaration_words text d n =
    codes "tapa" ∷ codes "::" ∷ codes "stream" ∷ codes "<" ∷ (words_of text d.element ++ (depth_words text d.depth ++ (codes ">" ∷ (name_words text n d.names ++ codes ";" ∷ []))))

abbrev pub declared_in : Bytes → Scope → List Lexeme → Declaration → ℕ → Numbering → Step
declared_in text s ls d n arrays = record {
  written = form_text text (take (suc (length ls - suc d.left)) ls) (declaration_words text d n);
  scope = record { constants = s.constants; arrays = arrays; depth = s.depth; opened = s.opened };
  more = length ls - suc d.left;
}

abbrev pub declaration_step : Bytes → Scope → List Lexeme → Declaration → Outcome Step
declaration_step text s ls d =
    and_then (count_in text s d.count) (λ n.
    and_then (without_array text s.arrays d.depth) (λ _.
    and_then (with_arrays text n s.arrays d.names) (λ arrays.
    Ok (declared_in text s ls d n arrays))))

-- ---- counted invokes

-- the length of the array, where an argument is only the name of an array
abbrev pub whole_array : Bytes → Scope → List Lexeme → Option ℕ
whole_array text s (l ∷ []) = array_at text s.arrays [] l
whole_array text s _ = None

abbrev pub first_place : List Lexeme → Place
first_place [] = record { line = 0; col = 0 }
first_place (l ∷ ls) = l.place

abbrev pub instances : List Lexeme → List Piece
instances [] = []
instances (l ∷ ls) = Instance l ∷ []

abbrev pub element_pieces : List Lexeme → ℕ → List Piece
element_pieces [] k = []
element_pieces (l ∷ ls) k = Element l k ∷ []

-- an argument that is neither an array nor an element
abbrev pub plain_pieces : Bytes → Scope → List Lexeme → Outcome (List Piece)
plain_pieces text s a = and_then (without_arrays text s.arrays [] a) (λ _. Ok (map Word a))

abbrev pub by_element : Bytes → Scope → List Lexeme → Option (ℕ × ℕ) → Outcome (List Piece)
by_element text s a None = plain_pieces text s a
by_element text s a (Some p) = and_then (index_in (first_place a) p) (λ k. Ok (element_pieces a k))

abbrev pub by_array : Bytes → Scope → ℕ → List Lexeme → Option ℕ → Outcome (List Piece)
by_array text s n a None = by_element text s a (if length a == 4 then element_in text s a else None)
by_array text s n a (Some m) = if m == n then Ok (instances a) else faulty A2 (first_place a)

-- the pieces of an argument of a counted invoke of n
abbrev pub argument_pieces : Bytes → Scope → ℕ → List Lexeme → Outcome (List Piece)
argument_pieces text s n a = by_array text s n a (whole_array text s a)

-- the pieces so far and those of the arguments, with commas. The number bounds the turns, and each turn takes an argument.
abbrev pub pieces_from : Bytes → Scope → ℕ → ℕ → List Piece → List Lexeme → Outcome (List Piece)
pieces_from text s n zero pieces ls = Ok pieces
pieces_from text s n (suc turns) pieces ls =
    and_then (argument_pieces text s n (take (argument_size text 0 ls) ls)) (λ more.
    if nat_lt (argument_size text 0 ls) (length ls) then pieces_from text s n turns (pieces ++ more ++ Comma ∷ []) (drop (suc (argument_size text 0 ls)) ls)
    else Ok (pieces ++ more))

-- how many lexemes a counted invoke has before its arguments
abbrev pub head_size : ℕ
head_size = 10

-- the pieces of one invoke: those of the form without the comma and the count
abbrev pub invocation_pieces : Bytes → Scope → List Lexeme → List Lexeme → ℕ → Outcome (List Piece)
invocation_pieces text s ls inside n =
    and_then (pieces_from text s n (suc (length inside)) (map Word (take 6 ls) ++ map Word (take 2 (drop 8 ls))) inside) (λ pieces.
    Ok (pieces ++ map Word (take 1 (drop (head_size + length inside) ls))))

abbrev pub invoked_in : Bytes → Scope → List Lexeme → Invocation → ℕ → List Piece → Step
invoked_in text s ls v n pieces = record {
  written = form_text text (take (head_size + length v.inside + 1) ls) (invoke_words text pieces n);
  scope = s;
  more = head_size + length v.inside;
}

abbrev pub invocation_step : Bytes → Scope → List Lexeme → Invocation → Outcome Step
invocation_step text s ls v =
    and_then (count_in text s v.count) (λ n.
    and_then (invocation_pieces text s ls v.inside n) (λ pieces.
    Ok (invoked_in text s ls v n pieces)))

-- ---- elements of arrays as arguments of any invoke

-- the innermost parenthesis that is open is an invoke's
abbrev pub in_invoke : List Bool → Bool
in_invoke opened = unwrap_or (slice_get opened (length opened - 1)) false

-- an argument of an invoke begins after these lexemes
abbrev pub begins_argument : Bytes → Scope → List Lexeme → Bool
begins_argument text s before = (stand_last text (terminal.LeftParen ∷ []) before || stand_last text (terminal.Comma ∷ []) before) && in_invoke s.opened

-- an argument of an invoke ends before these lexemes
abbrev pub ends_argument : Bytes → List Lexeme → Bool
ends_argument text ls = stand text (terminal.Comma ∷ []) ls || stand text (terminal.RightParen ∷ []) ls

abbrev pub element_written : Bytes → Scope → List Lexeme → ℕ → Step
element_written text s ls k = record { written = form_text text (take 4 ls) (element_words text ls k); scope = s; more = 3 }

abbrev pub element_step : Bytes → Scope → List Lexeme → ℕ × ℕ → Outcome Step
element_step text s ls p = and_then (index_in (first_place ls) p) (λ k. Ok (element_written text s ls k))

abbrev pub argument_element : Bytes → Scope → List Lexeme → List Lexeme → Option (ℕ × ℕ)
argument_element text s before ls = if begins_argument text s before && ends_argument text (drop 4 ls) then element_in text s ls else None

-- ---- all other lexemes

-- these lexemes end with all that comes before the parenthesis of an invoke, with a mode or without
abbrev pub ends_invoke : Bytes → List Lexeme → Bool
ends_invoke text before =
    stand_last text (terminal.Dot ∷ terminal.Invoke ∷ []) before
    || stand_last text (terminal.Dot ∷ terminal.Invoke ∷ terminal.Less ∷ terminal.Tapa ∷ terminal.Scope ∷ terminal.Name ∷ terminal.Greater ∷ []) before

-- one constant more
abbrev pub with_constant : Numbering → Option (Bytes × ℕ) → Numbering
with_constant constants None = constants
with_constant constants (Some p) = numbered constants p.0 p.1

-- the constants of the file after lexeme l, which ls follow
abbrev pub constants_behind : Bytes → Scope → Lexeme → List Lexeme → Numbering
constants_behind text s l ls = if begins_constant text l && (s.depth == 0) then with_constant s.constants (constant_behind text ls) else s.constants

abbrev pub depth_behind : Bytes → ℕ → Lexeme → ℕ
depth_behind text depth l = if is text terminal.RightBrace l then depth - 1 else (if is text terminal.LeftBrace l then depth + 1 else depth)

-- the arrays after a lexeme: the brace that closes a task's body ends their scope
abbrev pub arrays_behind : Bytes → Scope → Lexeme → Numbering
arrays_behind text s l = if is text terminal.RightBrace l && (s.depth - 1 == 0) then [] else s.arrays

abbrev pub opened_behind : Bytes → Scope → List Lexeme → Lexeme → List Bool
opened_behind text s before l =
    if is text terminal.LeftParen l then s.opened ++ ends_invoke text before ∷ [] else (if is text terminal.RightParen l then take (length s.opened - 1) s.opened else s.opened)

abbrev pub scope_behind : Bytes → Scope → List Lexeme → Lexeme → List Lexeme → Scope
scope_behind text s before l ls = record { constants = constants_behind text s l ls; arrays = arrays_behind text s l; depth = depth_behind text s.depth l; opened = opened_behind text s before l }

-- a lexeme of no form is copied
abbrev pub other_step : Bytes → Scope → List Lexeme → List Lexeme → Outcome Step
other_step text s before [] = Ok (record { written = []; scope = s; more = 0 })
other_step text s before (l ∷ ls) =
    if is_some (array_at text s.arrays before l) then faulty A3 l.place
    else Ok (record { written = text_of text l; scope = scope_behind text s before l ls; more = 0 })

-- ---- whole texts

-- the form at the start of lexemes, given those before them
abbrev pub step : Bytes → Scope → List Lexeme → List Lexeme → Outcome Step
step text s before ls =
    unwrap_or (option_map (declaration_step text s ls) (declaration text ls))
    (unwrap_or (option_map (invocation_step text s ls) (invocation text ls))
    (unwrap_or (option_map (element_step text s ls) (argument_element text s before ls))
    (other_step text s before ls)))

-- the text from index at on, with the forms of the lexemes ls written out, where `before` are the lexemes so far. What is between two
-- forms is copied. The number bounds the turns, and each turn takes a form.
abbrev pub written_from : Bytes → ℕ → Scope → List Lexeme → ℕ → List Lexeme → Outcome Bytes
written_from text zero s before at ls = Ok (drop at text)
written_from text (suc turns) s before at [] = Ok (drop at text)
written_from text (suc turns) s before at (l ∷ ls) =
    and_then (step text s before (l ∷ ls)) (λ r.
    and_then (written_from text turns r.scope (before ++ l ∷ take r.more ls) (end_of l.to (take r.more ls)) (drop r.more ls)) (λ rest.
    Ok (slice_range text at l.from ++ (r.written ++ rest))))

-- nothing is known at the text's beginning
abbrev pub nothing : Scope
nothing = record { constants = []; arrays = []; depth = 0; opened = [] }

-- what is written of all lexemes
abbrev pub whole : Bytes → List Lexeme → Outcome Bytes
whole text ls = written_from text (length ls) nothing [] 0 ls

-- the most bytes that a text has when it is written out
abbrev pub most : ℕ
most = 4194304

abbrev pub within_most : Bytes → Outcome Bytes
within_most out = if nat_le (length out) most then Ok out else faulty A4 (record { line = 1; col = 1 })

-- the text in which its arrays and counted invokes are written out, or the first fault of its forms, or that it is too long
abbrev pub written_out : Bytes → List Lexeme → Outcome Bytes
written_out text ls = and_then (whole text ls) within_most
