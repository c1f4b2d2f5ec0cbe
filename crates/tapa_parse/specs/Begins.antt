-- Where a list of symbols stops to be a file of the grammar, and where it passes a limit.
use Rattle.std.specs.Prelude.{◌≡◌, List, [], ◌∷◌, ◌++◌, Some}
use Rattle.tapa_syntax.specs.Symbols.{Symbol}
use Rattle.tapa_syntax.specs.Trees.{ItemTree}
use Rattle.tapa_syntax.specs.Grammar.{IsTreeOf}
use Rattle.tapa_parse.specs.Passing.{over_file}

-- some file begins with these symbols, whatever its nesting and its operators
abbrev pub Begins : List Symbol → Type 0
Begins symbols = (rest : List Symbol) × (items : List ItemTree) × IsTreeOf (symbols ++ rest) items

-- some file begins with the symbols before, and none goes on with the next symbol; at the end, no file consists of them alone
abbrev pub StopsAt : List Symbol → List Symbol → Type 0
StopsAt before [] = (items : List ItemTree) → IsTreeOf before items → ⊥
StopsAt before (x ∷ behind) = Begins (before ++ x ∷ []) → ⊥

-- Some file begins with these symbols and this one, and in it this one is the first to open level 65 or to be the 1,001st operator of
-- an expression.
pub record Passes (before : List Symbol) (x : Symbol) : Type 0 where
  pub rest : List Symbol
  pub items : List ItemTree
  pub spelled : IsTreeOf (before ++ x ∷ rest) items
  pub first : over_file items (before ++ x ∷ rest) spelled ≡ Some (x ∷ rest)

-- none of these symbols passes a limit
abbrev pub NonePasses : List Symbol → Type 0
NonePasses symbols = (before : List Symbol) (x : Symbol) (behind : List Symbol) → symbols ≡ before ++ x ∷ behind → Passes before x → ⊥

-- No file goes on at the first symbol that is left, some file begins with those before it, and none of those passes a limit.
pub record IsUnexpected (symbols left : List Symbol) : Type 0 where
  pub before : List Symbol
  pub is : symbols ≡ before ++ left
  pub begun : Begins before
  pub stops : StopsAt before left
  pub within : NonePasses before

-- The first symbol that is left passes a limit, and none before it does.
pub record IsTooDeep (symbols left : List Symbol) : Type 0 where
  pub before : List Symbol
  pub first : Symbol
  pub behind : List Symbol
  pub is : symbols ≡ before ++ left
  pub left_is : left ≡ first ∷ behind
  pub passes : Passes before first
  pub within : NonePasses before
