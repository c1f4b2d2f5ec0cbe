use Rattle.std.proofs.Common.{◌∷◌, ap, ◌∙◌, arith, rules}
use Rattle.std.proofs.lemmas.Fmt.{length-decimal-le}
use Rattle.run_data.proofs.lines.write_number.Goals as goal

pub write_digits-digits-requires : goal.write_digits-digits-requires
write_digits-digits-requires c = let long = length-decimal-le 20 c.args.number (omega arith) (omega arith) c.ranges.number.fits in (omega arith, search rules)

pub write_byte-requires-clause-some : goal.write_byte-requires-clause-some
write_byte-requires-clause-some c = let long = length-decimal-le 20 c.args.number (omega arith) (omega arith) c.ranges.number.fits in omega arith

pub returns-clause-start : goal.returns-clause-start
returns-clause-start c = let long = length-decimal-le 20 c.args.number (omega arith) (omega arith) c.ranges.number.fits in omega arith

pub returns-clause-text : goal.returns-clause-text
returns-clause-text c = c.write_byte.ensures.text ∙ ap (λ l. 32 ∷ l) c.write_digits-digits.ensures.written
