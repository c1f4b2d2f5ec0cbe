use Rattle.std.proofs.Common.{◌≡◌, [], ◌∷◌, ◌++◌, ap, ◌∙◌, rules}
use Rattle.std.specs.Prelude.{reverse}
use Rattle.sim_gates.proofs.Walking.{reverse_push, entered}
use Rattle.sim_gates.proofs.parts.enter.Goals as goal

pub returns-clause-slots : goal.returns-clause-slots
returns-clause-slots c =
    let p = c.args.part in
    let parts = c.args.walk.now.parts.items in
    let e : c.push.new.self.items ≡ parts ++ p ∷ [] = search rules in
    entered _ _ c.in_ok-on.on p (reverse parts) (reverse c.push.new.self.items) c.in_ok-on.ensures.extends.grows.gates (ap reverse e ∙ reverse_push parts p) c.in_ok-on.ensures.slot c.requires.test c.requires.walk
