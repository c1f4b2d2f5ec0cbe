-- A source has one written-out text and that one tree, and a refused source means no program.
use Rattle.std.proofs.Common.{◌≡◌, inl, inr, ℕ, List, [], Ok, Err, subst}
use Rattle.std.specs.Prelude.{Result}
use Rattle.tapa_base.specs.declared.text.Place.{Place}
use Rattle.tapa_syntax.specs.declared.program.Program.{Program}
use Rattle.tapa_syntax.specs.declared.lexeme.Lexeme.{Lexeme}
use Rattle.tapa_syntax.specs.declared.tree.File.{File}
use Rattle.tapa_syntax.specs.Grammar.{IsTreeOf}
use Rattle.tapa_syntax.specs.Symbols.{symbols_of}
use Rattle.tapa_syntax.specs.Trees.{ItemTree, file_of}
use Rattle.tapa_lex.specs.declared.fault.LexCode.TheVariants as lex
use Rattle.tapa_lex.proofs.Whole.{one_list, not_both}
use Rattle.tapa_parse_expression.specs.declared.fault.ParseCode.{ParseCode}
use Rattle.tapa_parse_expression.specs.declared.fault.ParseCode.TheVariants as parse
use Rattle.tapa_parse.proofs.CompleteFiles.{one_tree as tree_is_one}
use Rattle.stream_arrays.specs.declared.fault.ArrayCode.{ArrayCode}
use Rattle.stream_arrays.specs.declared.fault.ArrayCode.TheVariants as arrays
use Rattle.stream_arrays.specs.declared.fault.ArrayFault.{ArrayFault}
use Rattle.stream_arrays.specs.Written.{written_out}
use Rattle.check_scope.specs.Answers.{IsFirstBroken}
use Rattle.check_scope.specs.declared.fault.Broken.{Broken}
use Rattle.stream_check.specs.Programs.{program_faults}
use Rattle.command_answers.specs.declared.source.SourceCode.{SourceCode}
use Rattle.command_answers.specs.declared.source.SourceCode.TheVariants.{L1, L2, L3, L4, A1, A2, A3, A4, P1, P2, Rule}
use Rattle.command_source.specs.Codes.{parse_code}
use Rattle.command_source.specs.Source.{HasSourceTree, HasNoTree, IsProgramOfText, IsRefusedWrittenOut, IsWrittenOut, HasArrayFault, IsUnwritten, IsRefusedSource, MeansNothing}

-- a text has one tree
pub one_tree : (text : List ℕ) (file other : File) → HasSourceTree text file → HasSourceTree text other → file_of file ≡ file_of other
one_tree text file other a b =
    let same = one_list text a.lexemes b.lexemes a.are b.are in
    tree_is_one (symbols_of text b.lexemes) (file_of file) (file_of other) (subst (λ (l : List Lexeme). IsTreeOf (symbols_of text l) (file_of file)) same a.spelled) b.spelled

pub no_tree : (text : List ℕ) (place : Place) (code : ParseCode) (file : File) → HasNoTree text place code → HasSourceTree text file → ⊥
no_tree text place code file a b =
    let same = one_list text b.lexemes a.lexemes b.are a.are in
    a.none (file_of file) (subst (λ (l : List Lexeme). IsTreeOf (symbols_of text l) (file_of file)) same b.spelled) b.within

pub not_first : (faults : List Broken) (broken : Broken) → faults ≡ [] → IsFirstBroken faults broken → ⊥
not_first faults broken none first = subst (λ (l : List Broken). IsFirstBroken l broken) none first

text_means_nothing : (text top : List ℕ) (place : Place) (code : SourceCode) → IsRefusedWrittenOut text top place code → (program : Program) → IsProgramOfText text top program → ⊥
text_means_nothing text top place L1 h program p = not_both text p.tree.lexemes lex.L1 place p.tree.are h
text_means_nothing text top place L2 h program p = not_both text p.tree.lexemes lex.L2 place p.tree.are h
text_means_nothing text top place L3 h program p = not_both text p.tree.lexemes lex.L3 place p.tree.are h
text_means_nothing text top place L4 h program p = not_both text p.tree.lexemes lex.L4 place p.tree.are h
text_means_nothing text top place A1 h program p = h
text_means_nothing text top place A2 h program p = h
text_means_nothing text top place A3 h program p = h
text_means_nothing text top place A4 h program p = h
text_means_nothing text top place P1 h program p = no_tree text place parse.P1 p.file h p.tree
text_means_nothing text top place P2 h program p = no_tree text place parse.P2 p.file h p.tree
text_means_nothing text top place (Rule code limit) h program p =
    let same = one_tree text p.file h.file p.tree h.tree in
    not_first (program_faults (file_of h.file) top) _ (subst (λ (items : List ItemTree). program_faults items top ≡ []) same p.legal) h.first

-- ---- what is written out of a source

given_once : (o : Result (List ℕ) ArrayFault) (out other : List ℕ) → o ≡ Ok out → o ≡ Ok other → out ≡ other
given_once o out other h k = cc

given_or_failed : (o : Result (List ℕ) ArrayFault) (out : List ℕ) (fault : ArrayFault) → o ≡ Ok out → o ≡ Err fault → ⊥
given_or_failed o out fault h k = cc

-- a source is written out in one way
pub one_written : (text out other : List ℕ) → IsWrittenOut text out → IsWrittenOut text other → out ≡ other
one_written text out other a b =
    let same = one_list text a.lexemes b.lexemes a.are b.are in
    given_once (written_out text b.lexemes) out other (subst (λ (l : List Lexeme). written_out text l ≡ Ok out) same a.gives) b.gives

pub no_fault : (text out : List ℕ) (place : Place) (code : ArrayCode) → HasArrayFault text place code → IsWrittenOut text out → ⊥
no_fault text out place code h w =
    let same = one_list text h.lexemes w.lexemes h.are w.are in
    given_or_failed (written_out text w.lexemes) out _ w.gives (subst (λ (l : List Lexeme). written_out text l ≡ Err (record { code = code; place = place })) same h.fails)

-- a source that is refused before is not written out
pub unwritten : (text out : List ℕ) (place : Place) (code : SourceCode) → IsUnwritten text place code → IsWrittenOut text out → ⊥
unwritten text out place L1 h w = not_both text w.lexemes lex.L1 place w.are h
unwritten text out place L2 h w = not_both text w.lexemes lex.L2 place w.are h
unwritten text out place L3 h w = not_both text w.lexemes lex.L3 place w.are h
unwritten text out place L4 h w = not_both text w.lexemes lex.L4 place w.are h
unwritten text out place A1 h w = no_fault text out place arrays.A1 h w
unwritten text out place A2 h w = no_fault text out place arrays.A2 h w
unwritten text out place A3 h w = no_fault text out place arrays.A3 h w
unwritten text out place A4 h w = no_fault text out place arrays.A4 h w
unwritten text out place P1 h w = h
unwritten text out place P2 h w = h
unwritten text out place (Rule code limit) h w = h

pub means_nothing : (text top : List ℕ) (place : Place) (code : SourceCode) → IsRefusedSource text top place code → MeansNothing text top
means_nothing text top place code (inl h) = λ program p. unwritten text p.out place code h p.written
means_nothing text top place code (inr (out, w, h)) = λ program p.
    text_means_nothing out top place code h program (subst (λ (t : List ℕ). IsProgramOfText t top program) (one_written text p.out out p.written w) p.means)

-- ---- what the parser refuses

pub refused_by_parser : (text top : List ℕ) (place : Place) (code : ParseCode) → HasNoTree text place code → IsRefusedWrittenOut text top place (parse_code code)
refused_by_parser text top place parse.P1 h = h
refused_by_parser text top place parse.P2 h = h
