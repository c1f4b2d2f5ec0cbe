-- What a source is, with the name of its top task: legal, or refused by the lexer, by the rules on arrays, by the grammar and its limits,
-- or by a rule beyond it.
use Rattle.std.specs.Prelude.{◌≡◌, ◌⊎◌, ℕ, List, []}
use Rattle.tapa_base.specs.declared.text.Place.{Place}
use Rattle.tapa_syntax.specs.declared.lexeme.Lexeme.{Lexeme}
use Rattle.tapa_syntax.specs.Grammar.{IsTreeOf}
use Rattle.tapa_syntax.specs.Lexemes.{HasLexemes}
use Rattle.tapa_syntax.specs.Limits.{IsWithinLimits}
use Rattle.tapa_syntax.specs.Symbols.{symbols_of}
use Rattle.tapa_syntax.specs.Trees.{ItemTree}
use Rattle.tapa_lex.specs.declared.fault.LexCode.{LexCode}
use Rattle.tapa_lex.specs.Refusals.{IsRefused}
use Rattle.tapa_parse_expression.specs.declared.fault.ParseCode.{ParseCode}
use Rattle.tapa_parse.specs.Answers.{Refuses}
use Rattle.tapa_parse.specs.declared.fault.ParseFault.TheVariants.{At}
use Rattle.check_scope.specs.Answers.{IsFirstBroken}
use Rattle.check_scope.specs.declared.fault.Broken.{Broken}
use Rattle.stream_arrays.specs.declared.fault.ArrayCode.{ArrayCode}
use Rattle.stream_check.specs.Programs.{program_faults}
use Rattle.command_source.specs.Source.{HasArrayFault, OfWritten}

-- the text has lexemes, and the grammar has this file for them, within the limits
pub record HasFile (text : List ℕ) (items : List ItemTree) : Type 0 where
  pub lexemes : List Lexeme
  pub are : HasLexemes text lexemes
  pub spelled : IsTreeOf (symbols_of text lexemes) items
  pub within : IsWithinLimits items

-- the text has a file that breaks no rule with this top task
pub record IsLegalText (text top : List ℕ) : Type 0 where
  pub items : List ItemTree
  pub file : HasFile text items
  pub legal : program_faults items top ≡ []

-- the text has lexemes, and the grammar refuses them at this place by this rule
pub record IsUnread (text : List ℕ) (code : ParseCode) (place : Place) : Type 0 where
  pub lexemes : List Lexeme
  pub are : HasLexemes text lexemes
  pub refused : Refuses text (symbols_of text lexemes) (At code place)

-- the text has a file, and this is the first rule that it breaks with this top task
pub record BreaksRule (text top : List ℕ) (broken : Broken) : Type 0 where
  pub items : List ItemTree
  pub file : HasFile text items
  pub first : IsFirstBroken (program_faults items top) broken

abbrev pub IsRefusedTextSomehow : List ℕ → List ℕ → Type 0
IsRefusedTextSomehow text top =
    ((code : LexCode) × (place : Place) × IsRefused text code place)
    ⊎ (((code : ParseCode) × (place : Place) × IsUnread text code place)
    ⊎ ((broken : Broken) × BreaksRule text top broken))

-- the source has a written-out text, which breaks no rule
abbrev pub IsLegal : List ℕ → List ℕ → Type 0
IsLegal text top = OfWritten text (λ out. IsLegalText out top)

-- the source has no lexemes, or something is wrong with its arrays, or its written-out text is refused
abbrev pub IsRefusedSomehow : List ℕ → List ℕ → Type 0
IsRefusedSomehow text top =
    ((code : LexCode) × (place : Place) × IsRefused text code place)
    ⊎ (((code : ArrayCode) × (place : Place) × HasArrayFault text place code)
    ⊎ OfWritten text (λ out. IsRefusedTextSomehow out top))
