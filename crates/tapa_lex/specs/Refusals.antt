-- Where a text has no lexemes, and what the lexer answers.
use Rattle.std.specs.Prelude.{◌≡◌, ◌<◌, ⊤, Bool, ◌&&◌, ◌⊎◌, if◌then◌else◌, ◌==◌, List, [], length, slice_index, Result, Ok, Err, Vec}
use Rattle.std.specs.Global.{Global}
use Rattle.tapa_base.specs.declared.text.Place.{Place}
use Rattle.tapa_syntax.specs.declared.lexeme.Lexeme.{Lexeme}
use Rattle.tapa_base.specs.Gaps.{Bytes}
use Rattle.tapa_syntax.specs.Characters.{is_digit, opens_line, place_of}
use Rattle.tapa_syntax.specs.Lexemes.{Piece, StandInTurn, text_of, NothingStands, HasLexemes}
use Rattle.tapa_lex.specs.declared.fault.LexCode.{LexCode}
use Rattle.tapa_lex.specs.declared.fault.LexCode.TheVariants.{L1, L2, L3, L4}
use Rattle.tapa_lex.specs.declared.fault.LexFault.{LexFault}
use Rattle.tapa_lex.specs.declared.fault.LexFault.TheVariants.{At, OutOfMemory}

-- what was begun where there is no piece: a number, a string or a comment, a line with `#`, or nothing
abbrev pub code_at : Bool → Bytes → LexCode
code_at opens behind =
    let b = slice_index behind 0 in
    if is_digit b then L3
    else (if b == 34 then L2
    else (if b == 35 && opens then L4
    else (if b == 47 && slice_index behind 1 == 42 then L2 else L1)))

-- the text is pieces up to a place, and then a rest that is not empty and begins with no piece
pub record IsRefused (text : Bytes) (code : LexCode) (place : Place) : Type 0 where
  pub pieces : List Piece
  pub behind : Bytes
  pub is : text_of pieces behind ≡ text
  pub standing : StandInTurn [] pieces behind
  pub more : 0 < length behind
  pub nothing : NothingStands (text_of pieces []) behind
  pub told : code ≡ code_at (opens_line (text_of pieces [])) behind
  pub at : place ≡ place_of (text_of pieces [])

-- a fault reports where the text is refused, unless memory ran out
abbrev pub IsLexCause : Bytes → LexFault → Type 0
IsLexCause text (At code place) = IsRefused text code place
IsLexCause text OutOfMemory = ⊤

-- these lexemes are answered, unless memory ran out
abbrev pub LexerAnswers : Result (Vec Lexeme Global) LexFault → List Lexeme → Type 0
LexerAnswers (Ok v) lexemes = v.items ≡ lexemes
LexerAnswers (Err fault) lexemes = fault ≡ OutOfMemory

-- this refusal is answered, unless memory ran out
abbrev pub Refuses : Result (Vec Lexeme Global) LexFault → LexCode → Place → Type 0
Refuses (Ok v) code place = ⊥
Refuses (Err fault) code place = (fault ≡ At code place) ⊎ (fault ≡ OutOfMemory)

-- a text is refused at one place, with one code
abbrev pub HasOneRefusal : Type 0
HasOneRefusal = (text : Bytes) (code other : LexCode) (place there : Place) → IsRefused text code place → IsRefused text other there → (code ≡ other) × (place ≡ there)

-- a text that is refused has no lexemes
abbrev pub HasLexemesOrRefusal : Type 0
HasLexemesOrRefusal = (text : Bytes) (lexemes : List Lexeme) (code : LexCode) (place : Place) → HasLexemes text lexemes → IsRefused text code place → ⊥
