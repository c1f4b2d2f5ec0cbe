-- Which texts are refused, and where.
use Rattle.std.specs.Prelude.{◌≡◌, ◌⊎◌, ℕ, List, [], ◌∷◌, ◌++◌, Option, Some, None, slice_get, ⊤}
use Rattle.tapa_base.specs.declared.text.Place.{Place}
use Rattle.tapa_syntax.specs.Characters.{place_of}
use Rattle.vlog_tree.specs.declared.fault.VFault.{VFault}
use Rattle.vlog_tree.specs.declared.fault.VFault.TheVariants.{V1, V2, V3, V4, V5, V6, OutOfMemory}
use Rattle.vlog_tree.specs.Form.{ModuleTree}
use Rattle.vlog_tree.specs.Spelling.{Word}
use Rattle.vlog_tree.specs.Refused.{Refuses}
use Rattle.tapa_base.specs.Gaps.{Bytes}
use Rattle.vlog_lex.specs.Lexemes.{Piece, IsWord, text_of, StandInTurn, words_of}
use Rattle.vlog_lex.specs.Grammar.{SpellsDesign, HasTree}
use Rattle.vlog_lex.specs.declared.lexer.Lexeme.{Lexeme}
use Rattle.vlog_lex.specs.Scanned.{NothingStands}
use Rattle.vlog_read.specs.Refused.{Begins}

-- Behind words of a text: a word with which no design goes on, or a byte that begins no word, or the end of the text, where
-- more would have to come.
abbrev pub StopsAt : List Word → Bytes → Type 0
StopsAt words behind =
    ((w : Word) × (rest : Bytes) × (behind ≡ w ++ rest) × IsWord w rest × (Begins (words ++ w ∷ []) → ⊥))
    ⊎ (NothingStands behind × (behind ≡ [] → (ms : List ModuleTree) → SpellsDesign ms words → ⊥))

-- some design begins with the words before a place of a text, and none goes on there
pub record IsRefusedAt (text : Bytes) (place : Place) : Type 0 where
  pub before : List Piece
  pub behind : Bytes
  pub is : text_of before behind ≡ text
  pub standing : StandInTurn before behind
  pub at : place ≡ place_of (text_of before [])
  pub begun : Begins (words_of before)
  pub stops : StopsAt (words_of before) behind

-- a text without a tree is refused at a place
pub record HasNoTree (text : Bytes) (place : Place) : Type 0 where
  pub there : IsRefusedAt text place
  pub none : (ms : List ModuleTree) → HasTree text ms → ⊥

-- and one with a tree by the tree
abbrev pub RefusesTree : Bytes → VFault → Type 0
RefusesTree text e = (ms : List ModuleTree) × HasTree text ms × Refuses ms e

abbrev pub RefusesText : Bytes → VFault → Type 0
RefusesText text (V1 place) = HasNoTree text place
RefusesText text (V2 x) = RefusesTree text (V2 x)
RefusesText text (V3 x) = RefusesTree text (V3 x)
RefusesText text (V4 x) = RefusesTree text (V4 x)
RefusesText text (V5 x) = RefusesTree text (V5 x)
RefusesText text (V6 x) = RefusesTree text (V6 x)
RefusesText text OutOfMemory = ⊤

-- the number of bytes before a word, and before the end where there is no word
abbrev pub from_of : Option Lexeme → ℕ → ℕ
from_of None end = end
from_of (Some l) end = l.from

abbrev pub refused_at : List Lexeme → ℕ → ℕ → ℕ
refused_at lexemes passed end = from_of (slice_get lexemes passed) end
