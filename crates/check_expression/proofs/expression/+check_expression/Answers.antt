use Rattle.std.proofs.Common.{map, ap, ◌∙◌, sym, subst}
use Rattle.tapa_syntax.specs.Trees as tree
use Rattle.tapa_syntax.specs.Trees.{ExpressionTree}
use Rattle.check_scope.specs.Answers.{ScopeAnswers}
use Rattle.check_expression.specs.Expressions.{typed, operand, operand_faults, faults_of, meaning_of, method_of}
use Rattle.check_scope.specs.Scopes.{entity_of}
use Rattle.check_expression.proofs.Rows.{expression-Call, listed-expressions}
use Rattle.check_expression.proofs.expression.+check_expression.Goals as goal

pub returns-in-Call : goal.returns-in-Call
returns-in-Call t c =
    let e = ap tree.expression c.in-Call.is ∙ expression-Call c.in-Call.stream c.in-Call.method c.in-Call.arguments in
    let l = sym (listed-expressions (map tree.expression c.in-Call.arguments.items)) in
    let m = c.method_of.ensures ∙ ap (λ es. method_of c.in-Call.method.text (map tree.expression es)) c.deref-in-Call.ensures.value ∙ ap (method_of c.in-Call.method.text) l in
    let k = subst (λ o. ScopeAnswers typed c.called.result (operand_faults (entity_of c.in-Call.stream.text c.args.scope.now) c.args.conditional o c.in-Call.stream c.in-Call.method) (operand (entity_of c.in-Call.stream.text c.args.scope.now) o)) m c.called.ensures in
    subst (λ (d : ExpressionTree). ScopeAnswers typed c.called.result (faults_of c.args.scope.now c.args.conditional d) (meaning_of c.args.scope.now d)) (sym e) k
