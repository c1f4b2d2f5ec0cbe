use Rattle.std.proofs.Common.{◌∷◌, codes, inr, refl, arith}
use Rattle.vlog_lex.proofs.laws.law_one_bit_range.Goals as goal

pub returns : goal.returns
returns c = λ x j named. (_, refl, (x ∷ codes ";" ∷ j, inr (_, refl, (_, (0, omega arith, (codes "0", ((omega arith, (omega arith, tt)), omega arith), refl)), (_, refl, (_, refl, refl)))), (_, (named, refl), refl)))
