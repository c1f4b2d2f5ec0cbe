use Rattle.std.proofs.Common.{map, subst}
use Rattle.tapa_syntax.specs.Flat.{flat_statement}
use Rattle.check_scope.specs.Answers.{ScopeAnswers}
use Rattle.check_leaf.specs.Views.{Part}
use Rattle.check_leaf.proofs.Pushed.{if_else-pushed}
use Rattle.check_leaf.proofs.statement.push_if_else.Goals as goal

pub returns : goal.returns
returns c = λ f g faults inner h.
    let k = subst (λ r. ScopeAnswers {B = Part} (λ v. (f, map flat_statement v.items)) r faults (g, inner)) c.in_ok-second.was h in
    (k.0, if_else-pushed f g c.args.code.now.items c.push.new.self.items c.args.turn.test c.args.turn.step c.in_ok-second.second inner c.in_ok-push.ensures.items k.1)
