use Rattle.std.proofs.Common.{◌≡◌, ◌+◌, ◌-◌, ◌∷◌, drop, ap, ◌∙◌, arith}
use Rattle.std.proofs.lemmas.List.{drop-set}
use Rattle.run_data.proofs.lines.write_byte.Goals as goal

pub returns-clause-text : goal.returns-clause-text
returns-clause-text c =
    let e : c.args.end - 1 + 1 ≡ c.args.end = omega arith in
    drop-set c.args.buffer.now (c.args.end - 1) c.args.byte (omega arith) ∙ ap (λ k. c.args.byte ∷ drop k c.args.buffer.now) e
