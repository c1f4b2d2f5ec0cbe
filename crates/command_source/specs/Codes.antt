-- The codes of the lexer, of arrays and of the parser among those of a source, and the refusals that `?` makes of faults of a source.
use Rattle.tapa_lex.specs.declared.fault.LexCode.{LexCode}
use Rattle.tapa_lex.specs.declared.fault.LexCode.TheVariants as lex
use Rattle.tapa_parse_expression.specs.declared.fault.ParseCode.{ParseCode}
use Rattle.tapa_parse_expression.specs.declared.fault.ParseCode.TheVariants as parse
use Rattle.stream_arrays.specs.declared.fault.ArrayCode.{ArrayCode}
use Rattle.stream_arrays.specs.declared.fault.ArrayCode.TheVariants as arrays
use Rattle.command_answers.specs.declared.refusal.Refusal.{Refusal}
use Rattle.command_answers.specs.declared.refusal.Refusal.TheVariants.{Source, Memory}
use Rattle.command_source.specs.declared.program.SourceFault.{SourceFault}
use Rattle.command_source.specs.declared.program.SourceFault.TheVariants.{At, OutOfMemory}
use Rattle.command_answers.specs.declared.source.SourceCode.{SourceCode}
use Rattle.command_answers.specs.declared.source.SourceCode.TheVariants.{L1, L2, L3, L4, A1, A2, A3, A4, P1, P2}

abbrev pub lex_code : LexCode → SourceCode
lex_code lex.L1 = L1
lex_code lex.L2 = L2
lex_code lex.L3 = L3
lex_code lex.L4 = L4

abbrev pub array_code : ArrayCode → SourceCode
array_code arrays.A1 = A1
array_code arrays.A2 = A2
array_code arrays.A3 = A3
array_code arrays.A4 = A4

abbrev pub parse_code : ParseCode → SourceCode
parse_code parse.P1 = P1
parse_code parse.P2 = P2

abbrev pub source_refusal : SourceFault → Refusal
source_refusal (At code place) = Source place code
source_refusal OutOfMemory = Memory
