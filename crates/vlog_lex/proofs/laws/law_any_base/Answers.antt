use Rattle.std.proofs.Common.{codes, refl, arith}
use Rattle.vlog_lex.proofs.laws.law_any_base.Goals as goal

pub returns : goal.returns
returns c = (
  (record { size = codes "8"; letter = 100; digits = codes "255" }, omega arith, refl, refl, refl),
  (record { size = codes "8"; letter = 104; digits = codes "Ff" }, omega arith, refl, refl, refl),
  (record { size = codes "08"; letter = 98; digits = codes "11111111" }, omega arith, refl, refl, refl),
)
