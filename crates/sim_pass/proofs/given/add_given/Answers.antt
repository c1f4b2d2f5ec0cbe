use Rattle.std.proofs.Common.{◌≡◌, ◌+◌, List, [], ◌∷◌, ◌++◌, ℕ, sym, subst, rules}
use Rattle.sim_tape.specs.Tape.{gate_at}
use Rattle.sim_pass.specs.Marks.{ListsGiven}
use Rattle.sim_tape.specs.declared.gates.Rule.TheVariants.{Given}
use Rattle.sim_pass.proofs.Reading.{given_left, given_pushed}
use Rattle.sim_pass.proofs.given.add_given.Goals as goal

pub returns-in_ok-push : goal.returns-in_ok-push
returns-in_ok-push c =
    let added : c.push.new.self.items ≡ c.args.listed.now.items ++ c.args.at ∷ [] = search rules in
    let is : (gate_at c.args.gates.now c.args.at).rule ≡ Given = search rules in
    subst (λ (l : List ℕ). ListsGiven c.args.gates.now (c.args.at + 1) l) (sym added) (given_pushed c.args.gates.now c.args.at c.args.listed.now.items c.requires.before is)

pub returns-else-eq : goal.returns-else-eq
returns-else-eq c = given_left c.args.gates.now c.args.at c.args.listed.now.items c.requires.before (λ is. search rules)
