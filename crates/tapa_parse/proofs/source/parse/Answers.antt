use Rattle.std.proofs.Common.{Ok, Err, rules}
use Rattle.tapa_syntax.specs.Symbols.{symbols_of}
use Rattle.tapa_parse.specs.declared.fault.ParseFault.TheVariants.{At}
use Rattle.tapa_parse.proofs.CompleteFiles.{answered}
use Rattle.tapa_parse.proofs.Places.{refused_so}
use Rattle.tapa_parse.proofs.source.parse.Goals as goal

pub returns-in-Ok-clause-only : goal.returns-in-Ok-clause-only
returns-in-Ok-clause-only c = answered c.args.text.now (Ok c.in-Ok.file) (symbols_of c.args.text.now c.args.lexemes.now) (search rules)

pub returns-in-Err-Refused-clause-only : goal.returns-in-Err-Refused-clause-only
returns-in-Err-Refused-clause-only c = answered c.args.text.now (Err (At c.in-Err-Refused.code c.refused_place.result)) (symbols_of c.args.text.now c.args.lexemes.now) (search rules)

pub returns-in-Err-Refused-clause-refused : goal.returns-in-Err-Refused-clause-refused
returns-in-Err-Refused-clause-refused c = refused_so c.args.text.now (symbols_of c.args.text.now c.args.lexemes.now) c.in-Err-Refused.code c.refused_place.result (search rules)
