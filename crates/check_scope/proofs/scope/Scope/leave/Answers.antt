use Rattle.std.proofs.Common.{◌≡◌, ◌∷◌, length, arith, ap, ◌∙◌, sym}
use Rattle.check_scope.proofs.Scopes.{same-front, no_front}
use Rattle.check_scope.proofs.scope.Scope.leave.Goals as goal

pub returns-clause-value : goal.returns-clause-value
returns-clause-value c = λ E b l h. same-front (c.self.inside.file.now ∷ c.pop.new.self.items) E c.in-Some._innermost b (ap (λ bs. c.self.inside.file.now ∷ bs) (sym c.in-Some.ensures.items) ∙ c.self.view_is ∙ h)

pub returns-in_default-clause-value : goal.returns-in_default-clause-value
returns-in_default-clause-value c =
    let z : length c.self.inside.blocks.items ≡ 0 = omega (arith, c.in_default.ensures.cases.0, c.self.inside.blocks.ok) in
    λ E b l h. absurd (no_front c.self.inside.file.now c.self.inside.blocks.items E b z l (c.self.view_is ∙ h))
