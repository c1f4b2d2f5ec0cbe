-- What the code's values mean.
use Rattle.std.specs.Prelude.{◌≡◌, ℕ, suc, ◌≤◌, Bool, List, [], ◌∷◌, ◌++◌, codes, length, drop, slice_get, Option, Some, option_map, Result, Ok, Err, Vec}
use Rattle.std.specs.declared.alloc.Global.{Global}
use Rattle.tapa_base.specs.Gaps.{Bytes}
use Rattle.tapa_syntax.specs.declared.lexeme.Lexeme.{Lexeme}
use Rattle.tapa_syntax.specs.Symbols.{text_of}
use Rattle.stream_arrays.specs.declared.fault.ArrayRefusal.{ArrayRefusal}
use Rattle.stream_arrays.specs.declared.scope.Scope.{Scope as Known}
use Rattle.stream_arrays.specs.declared.writer.Writer.{Writer}
use Rattle.stream_arrays.specs.declared.piece.Piece.{Piece}
use Rattle.stream_arrays.specs.declared.declaration.Declaration.{Declaration as Declared}
use Rattle.stream_arrays.specs.declared.counted.Invocation.{Invocation as Invoked}
use Rattle.stream_arrays.specs.Numbers.{Numbering}
use Rattle.stream_arrays.specs.Forms.{Declaration, Invocation, inside_size}
use Rattle.stream_arrays.specs.Written.{Scope, Step, Outcome, and_then, depth_behind, arrays_behind}
use Rattle.stream_arrays.specs.Words.{words_of, depth_words}
use Rattle.stream_arrays.specs.Answers.{IsArrayCause}
use Rattle.stream_arrays.specs.Writing.{writing, more}

abbrev pub known : Known → Scope
known s = record { constants = s.constants; arrays = s.arrays; depth = s.depth; opened = s.opened.items }

abbrev pub with_constants : Scope → Numbering → Scope
with_constants s constants = record { constants = constants; arrays = s.arrays; depth = s.depth; opened = s.opened }

abbrev pub past_brace : Bytes → Scope → Lexeme → Scope
past_brace text s l = record { constants = s.constants; arrays = arrays_behind text s l; depth = depth_behind text s.depth l; opened = s.opened }

abbrev pub with_opened : Scope → List Bool → Scope
with_opened s opened = record { constants = s.constants; arrays = s.arrays; depth = s.depth; opened = opened }

abbrev pub some_names : Option (Vec Lexeme Global × ℕ) → Option (List Lexeme × ℕ)
some_names o = option_map (λ p. (p.0.items, p.1)) o

abbrev pub named_by : Bytes → Lexeme × ℕ → Bytes × ℕ
named_by text p = (text_of text p.0, p.1)

abbrev pub declaration_of : Declared → Declaration
declaration_of d = record { element = d.element.now; count = d.count; depth = d.depth; names = d.names.items; left = d.left }

-- the words before the names
abbrev pub head_words : Bytes → Declaration → List Bytes
head_words text d = codes "tapa" ∷ codes "::" ∷ codes "stream" ∷ codes "<" ∷ (words_of text d.element ++ (depth_words text d.depth ++ codes ">" ∷ []))

abbrev pub invocation_of : Invoked → Invocation
invocation_of v = record { count = v.count; inside = v.inside.now }

-- the pieces so far, and then those of the outcome
abbrev pub adding : List Piece → Outcome (List Piece) → Outcome (List Piece)
adding pieces outcome = and_then outcome (λ more. Ok (pieces ++ more))

-- for each lexeme, the number of lexemes from it on before the parenthesis that closes the innermost open one
abbrev pub AreClosings : Bytes → List Lexeme → List (Option ℕ) → Type 0
AreClosings text ls table = (length table ≡ suc (length ls)) × ((i : ℕ) → i ≤ length ls → slice_get table i ≡ Some (inside_size text 0 (drop i ls)))

-- a form was written: what it becomes is known but for its bytes where the text is too long
pub record IsStep (r : Step) (size : ℕ) (s : Scope) (before behind : Option Bytes) : Type 0 where
  pub scope : r.scope ≡ s
  pub sized : suc r.more ≡ size
  pub text : behind ≡ more before r.written

abbrev pub Steps : Result ℕ ArrayRefusal → Known → Writer → Writer → Outcome Step → Type 0
Steps (Ok size) s before behind outcome = (r : Step) × (outcome ≡ Ok r) × IsStep r size (known s) (writing before).text (writing behind).text
Steps (Err e) s before behind outcome = IsArrayCause e outcome
