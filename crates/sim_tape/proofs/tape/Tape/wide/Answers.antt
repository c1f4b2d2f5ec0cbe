use Rattle.std.proofs.Common.{◌≡◌, IfOk, subst}
use Rattle.sim_tape.specs.declared.gates.Wide.{Wide}
use Rattle.sim_tape.specs.Tape.{pair_value, wide_value}
use Rattle.sim_tape.specs.Solved.{Says}
use Rattle.sim_tape.specs.Trees.{tree_of}
use Rattle.sim_tape.proofs.tape.Tape.wide.Goals as goal

pub returns-clause-says : goal.returns-clause-says
returns-clause-says c =
    subst (λ (w : Wide). IfOk c.push_halves.result (λ p. Says (tree_of c.push_halves.new.self) (λ cells ns. pair_value ns p ≡ wide_value w ns)))
    c.in_ok-place.ensures.place.1 c.push_halves.ensures.says
