use Rattle.std.proofs.Common.{rules, arith}
use Rattle.std.proofs.lemmas.Grind.{common_steps}
use Rattle.vlog_lex.proofs.Ascii.{name_ascii}
use Rattle.vlog_lex.proofs.number.name_of.Goals as goal

pub new-requires : goal.new-requires
new-requires c = let h = name_ascii c.args.word.now c.requires in first_of (search rules, grind (arith, common_steps))
