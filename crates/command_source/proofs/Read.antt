-- From what lexing, parsing and checking a text give to what is said of it.
use Rattle.std.proofs.Common.{◌≡◌, ℕ, List, Ok, Err, sym, subst}
use Rattle.std.specs.Prelude.{Result}
use Rattle.tapa_base.specs.declared.text.Place.{Place}
use Rattle.tapa_syntax.specs.declared.lexeme.Lexeme.{Lexeme}
use Rattle.tapa_syntax.specs.declared.program.Program.{Program}
use Rattle.tapa_syntax.specs.declared.tree.File.{File}
use Rattle.tapa_syntax.specs.Lexemes.{HasLexemes}
use Rattle.tapa_syntax.specs.Flat.{flat_program}
use Rattle.tapa_syntax.specs.Grammar.{IsTreeOf}
use Rattle.tapa_syntax.specs.Limits.{IsWithinLimits}
use Rattle.tapa_syntax.specs.Symbols.{symbols_of}
use Rattle.tapa_syntax.specs.Trees.{ItemTree, file_of}
use Rattle.tapa_parse_expression.specs.declared.fault.ParseCode.{ParseCode}
use Rattle.tapa_parse.specs.declared.fault.ParseFault.TheVariants.{At, OutOfMemory}
use Rattle.tapa_parse.specs.Answers.{ParserAnswers, Refuses}
use Rattle.check_scope.specs.Answers as check
use Rattle.check_scope.specs.declared.fault.Broken.{Broken}
use Rattle.check_scope.specs.declared.fault.CheckFault.{CheckFault}
use Rattle.check_scope.specs.declared.fault.CheckFault.TheVariants as check_fault
use Rattle.stream_check.specs.Programs.{program_faults, program_of}
use Rattle.command_source.specs.Source.{HasSourceTree, HasNoTree, IsProgramOfText, IsRefusedWrittenOut}
use Rattle.command_answers.specs.declared.source.SourceCode.TheVariants.{Rule}

pub has_tree : (text : List ℕ) (lexemes seen : List Lexeme) (file : File) → HasLexemes text lexemes → seen ≡ lexemes → IsTreeOf (symbols_of text seen) (file_of file) × IsWithinLimits (file_of file) → HasSourceTree text file
has_tree text lexemes seen file are same found =
    record { lexemes = lexemes; are = are; spelled = subst (λ (l : List Lexeme). IsTreeOf (symbols_of text l) (file_of file)) same found.0; within = found.1 }

no_memory : (place : Place) (code : ParseCode) → At code place ≡ OutOfMemory → ⊥
no_memory place code e = cc

pub has_no_tree : (text : List ℕ) (lexemes seen : List Lexeme) (place : Place) (code : ParseCode) → HasLexemes text lexemes → seen ≡ lexemes → Refuses text (symbols_of text seen) (At code place)
    → ((items : List ItemTree) → IsTreeOf (symbols_of text seen) items → IsWithinLimits items → ParserAnswers (Err (At code place)) items) → HasNoTree text place code
has_no_tree text lexemes seen place code are same refused only = record {
  lexemes = lexemes;
  are = are;
  none = λ items tree within. no_memory place code (only items (subst (λ (l : List Lexeme). IsTreeOf (symbols_of text l) items) (sym same) tree) within);
  refused = subst (λ (l : List Lexeme). Refuses text (symbols_of text l) (At code place)) same refused;
}

-- what the check of a file answers
abbrev pub Checks : Result Program CheckFault → File → List ℕ → Type 0
Checks result file top = check.ScopeAnswers flat_program result (program_faults (file_of file) top) (program_of (file_of file) top)

pub program_of_tree : (text top : List ℕ) (program : Program) (file : File) → HasSourceTree text file → Checks (Ok program) file top → IsProgramOfText text top program
program_of_tree text top program file tree means = record { file = file; tree = tree; legal = means.0; means = means.1 }

pub breaks_first : (text top : List ℕ) (broken : Broken) (file : File) → HasSourceTree text file → Checks (Err (check_fault.At broken)) file top → IsRefusedWrittenOut text top broken.place (Rule broken.code broken.limit)
breaks_first text top broken file tree first = record { file = file; tree = tree; first = first }
