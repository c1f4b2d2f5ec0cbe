-- The program of a source, and where a source is refused.
use Rattle.std.specs.Prelude.{◌≡◌, ◌⊎◌, ℕ, List, [], Ok, Err}
use Rattle.tapa_base.specs.declared.text.Place.{Place}
use Rattle.tapa_syntax.specs.declared.lexeme.Lexeme.{Lexeme}
use Rattle.tapa_syntax.specs.declared.program.Program.{Program}
use Rattle.tapa_syntax.specs.declared.tree.File.{File}
use Rattle.tapa_syntax.specs.Lexemes.{HasLexemes}
use Rattle.tapa_syntax.specs.Flat.{flat_program}
use Rattle.tapa_syntax.specs.Grammar.{IsTreeOf}
use Rattle.tapa_syntax.specs.Limits.{IsWithinLimits}
use Rattle.tapa_syntax.specs.Symbols.{symbols_of}
use Rattle.tapa_syntax.specs.Trees.{ItemTree, file_of}
use Rattle.tapa_lex.specs.declared.fault.LexCode.TheVariants as lex
use Rattle.tapa_lex.specs.Refusals.{IsRefused}
use Rattle.tapa_parse_expression.specs.declared.fault.ParseCode.{ParseCode}
use Rattle.tapa_parse_expression.specs.declared.fault.ParseCode.TheVariants as parse
use Rattle.tapa_parse.specs.Answers.{Refuses}
use Rattle.tapa_parse.specs.declared.fault.ParseFault.TheVariants.{At}
use Rattle.stream_arrays.specs.declared.fault.ArrayCode.{ArrayCode}
use Rattle.stream_arrays.specs.declared.fault.ArrayCode.TheVariants as arrays
use Rattle.stream_arrays.specs.Written.{written_out}
use Rattle.check_scope.specs.Answers.{IsFirstBroken}
use Rattle.check_scope.specs.declared.fault.Broken.{Broken}
use Rattle.stream_check.specs.Programs.{program_faults, program_of}
use Rattle.command_answers.specs.declared.source.SourceCode.{SourceCode}
use Rattle.command_answers.specs.declared.source.SourceCode.TheVariants.{L1, L2, L3, L4, A1, A2, A3, A4, P1, P2, Rule}

-- the lexer refuses the text at this place, by this rule
abbrev pub IsUnlexed : List ℕ → Place → SourceCode → Type 0
IsUnlexed text place L1 = IsRefused text lex.L1 place
IsUnlexed text place L2 = IsRefused text lex.L2 place
IsUnlexed text place L3 = IsRefused text lex.L3 place
IsUnlexed text place L4 = IsRefused text lex.L4 place
IsUnlexed text place _ = ⊥

-- ---- what a text is whose arrays are written out

-- the text has lexemes, and this is the file that the grammar has for them, within the limits
pub record HasSourceTree (text : List ℕ) (file : File) : Type 0 where
  pub lexemes : List Lexeme
  pub are : HasLexemes text lexemes
  pub spelled : IsTreeOf (symbols_of text lexemes) (file_of file)
  pub within : IsWithinLimits (file_of file)

-- the flat program of such a text and the name of its top task: the file breaks no rule and means this program
pub record IsProgramOfText (text top : List ℕ) (program : Program) : Type 0 where
  pub file : File
  pub tree : HasSourceTree text file
  pub legal : program_faults (file_of file) top ≡ []
  pub means : flat_program program ≡ program_of (file_of file) top

-- the grammar has no file for the lexemes of the text, within the limits, and refuses them at this place by this rule
pub record HasNoTree (text : List ℕ) (place : Place) (code : ParseCode) : Type 0 where
  pub lexemes : List Lexeme
  pub are : HasLexemes text lexemes
  pub none : (items : List ItemTree) → IsTreeOf (symbols_of text lexemes) items → IsWithinLimits items → ⊥
  pub refused : Refuses text (symbols_of text lexemes) (At code place)

-- the text has a tree, and this is the first rule that it breaks with this top task
pub record BreaksFirst (text top : List ℕ) (broken : Broken) : Type 0 where
  pub file : File
  pub tree : HasSourceTree text file
  pub first : IsFirstBroken (program_faults (file_of file) top) broken

-- the text is refused at this place by this rule: of the grammar, beyond it, or of the lexemes
abbrev pub IsRefusedWrittenOut : List ℕ → List ℕ → Place → SourceCode → Type 0
IsRefusedWrittenOut text top place P1 = HasNoTree text place parse.P1
IsRefusedWrittenOut text top place P2 = HasNoTree text place parse.P2
IsRefusedWrittenOut text top place (Rule code limit) = BreaksFirst text top (record { code = code; place = place; limit = limit })
IsRefusedWrittenOut text top place code = IsUnlexed text place code

-- ---- what a source is: a text that may have arrays

-- the text in which the arrays and counted invokes of a source are written out
pub record IsWrittenOut (text out : List ℕ) : Type 0 where
  pub lexemes : List Lexeme
  pub are : HasLexemes text lexemes
  pub gives : written_out text lexemes ≡ Ok out

-- the source has such a text, of which this holds
abbrev pub OfWritten : List ℕ → (List ℕ → Type 0) → Type 0
OfWritten text P = (out : List ℕ) × IsWrittenOut text out × P out

-- the source has lexemes, and this is wrong with its arrays
pub record HasArrayFault (text : List ℕ) (place : Place) (code : ArrayCode) : Type 0 where
  pub lexemes : List Lexeme
  pub are : HasLexemes text lexemes
  pub fails : written_out text lexemes ≡ Err (record { code = code; place = place })

-- the source has no written-out text: it is refused at this place by this rule of arrays or of the lexemes
abbrev pub IsUnwritten : List ℕ → Place → SourceCode → Type 0
IsUnwritten text place A1 = HasArrayFault text place arrays.A1
IsUnwritten text place A2 = HasArrayFault text place arrays.A2
IsUnwritten text place A3 = HasArrayFault text place arrays.A3
IsUnwritten text place A4 = HasArrayFault text place arrays.A4
IsUnwritten text place code = IsUnlexed text place code

-- the flat program of a source and the name of its top task is that of its written-out text
pub record IsProgramOf (text top : List ℕ) (program : Program) : Type 0 where
  pub out : List ℕ
  pub written : IsWrittenOut text out
  pub means : IsProgramOfText out top program

-- the source is refused at this place by this rule: it has no written-out text, or that is refused so
abbrev pub IsRefusedSource : List ℕ → List ℕ → Place → SourceCode → Type 0
IsRefusedSource text top place code = IsUnwritten text place code ⊎ OfWritten text (λ out. IsRefusedWrittenOut out top place code)

-- the source means no program
abbrev pub MeansNothing : List ℕ → List ℕ → Type 0
MeansNothing text top = (program : Program) → IsProgramOf text top program → ⊥
