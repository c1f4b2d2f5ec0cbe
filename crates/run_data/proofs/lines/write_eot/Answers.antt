use Rattle.std.proofs.Common.{◌∷◌, ap, ◌∙◌}
use Rattle.run_data.proofs.lines.write_eot.Goals as goal

pub returns-clause-text : goal.returns-clause-text
returns-clause-text c =
    c.write_byte.ensures.text ∙ ap (λ l. 32 ∷ l) (c.write_byte-first.ensures.text ∙ ap (λ l. 101 ∷ l) (c.write_byte-second.ensures.text ∙ ap (λ l. 111 ∷ l) c.write_byte-third.ensures.text))
