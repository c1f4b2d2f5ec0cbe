use Rattle.std.proofs.Common.{◌≤◌, List, ℕ, length, sym, subst}
use Rattle.command_gen.specs.Layers.{most_bytes}
use Rattle.command_gen.proofs.Lengths.{text_short}
use Rattle.command_gen.proofs.layers.generate.Goals as goal

pub returns-clause-within : goal.returns-clause-within
returns-clause-within c = subst (λ (l : List ℕ). length l ≤ most_bytes) (sym c.in_ok-text.ensures) (text_short c.args.layers c.requires)
