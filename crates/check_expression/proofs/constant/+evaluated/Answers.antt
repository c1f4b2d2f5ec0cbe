use Rattle.std.proofs.Common.{Some, sym, ap, ◌∙◌}
use Rattle.tapa_syntax.specs.Trees as tree
use Rattle.check_expression.specs.Expressions.{constant_of}
use Rattle.check_expression.proofs.Constants.{constant-prefix, constant-binary, constant-conditional}
use Rattle.check_expression.proofs.constant.+evaluated.Goals as goal

pub returns-in_ok-evaluated-in-Prefix-clause-value : goal.returns-in_ok-evaluated-in-Prefix-clause-value
returns-in_ok-evaluated-in-Prefix-clause-value t c =
    ap Some c.prefixed.ensures.value
    ∙ constant-prefix c.args.scope.now c.in-Prefix.operator c.in-Prefix.field-1 (tree.expression c.deref-in-Prefix.result.now) c.in_ok-evaluated-in-Prefix.field-0 c.in_ok-evaluated-in-Prefix.ensures.value
    ∙ ap (λ e. constant_of c.args.scope.now (tree.prefix c.in-Prefix.operator c.in-Prefix.field-1 (tree.expression e))) c.deref-in-Prefix.ensures
    ∙ ap (λ e. constant_of c.args.scope.now (tree.expression e)) (sym c.in-Prefix.is)

pub returns-in_ok-right-in-Binary-clause-value : goal.returns-in_ok-right-in-Binary-clause-value
returns-in_ok-right-in-Binary-clause-value t c =
    let made = tree.binary c.in-Binary.operator c.in-Binary.field-1 in
    ap Some c.binary.ensures.value
    ∙ constant-binary c.args.scope.now c.in-Binary.operator c.in-Binary.field-1 (tree.expression c.deref-in-Binary.result.now) (tree.expression c.deref-in-Binary-2.result.now) c.in_ok-left-in-Binary.left c.in_ok-right-in-Binary.right
    c.in_ok-left-in-Binary.ensures.value c.in_ok-right-in-Binary.ensures.value
    ∙ ap (λ e. constant_of c.args.scope.now (made (tree.expression e) (tree.expression c.deref-in-Binary-2.result.now))) c.deref-in-Binary.ensures
    ∙ ap (λ e. constant_of c.args.scope.now (made (tree.expression c.in-Binary.left.value) (tree.expression e))) c.deref-in-Binary-2.ensures
    ∙ ap (λ e. constant_of c.args.scope.now (tree.expression e)) (sym c.in-Binary.is)

pub returns-in_ok-second-in-Conditional-clause-value : goal.returns-in_ok-second-in-Conditional-clause-value
returns-in_ok-second-in-Conditional-clause-value t c =
    let made = tree.conditional c.in-Conditional.field-0 in
    ap Some c.chosen.ensures.value
    ∙ constant-conditional c.args.scope.now c.in-Conditional.field-0 (tree.expression c.deref-in-Conditional.result.now) (tree.expression c.deref-in-Conditional-2.result.now) (tree.expression c.deref-in-Conditional-3.result.now)
    c.in_ok-test-in-Conditional.test c.in_ok-first-in-Conditional.first c.in_ok-second-in-Conditional.second
    c.in_ok-test-in-Conditional.ensures.value c.in_ok-first-in-Conditional.ensures.value c.in_ok-second-in-Conditional.ensures.value
    ∙ ap (λ e. constant_of c.args.scope.now (made (tree.expression e) (tree.expression c.deref-in-Conditional-2.result.now) (tree.expression c.deref-in-Conditional-3.result.now))) c.deref-in-Conditional.ensures
    ∙ ap (λ e. constant_of c.args.scope.now (made (tree.expression c.in-Conditional.test.value) (tree.expression e) (tree.expression c.deref-in-Conditional-3.result.now))) c.deref-in-Conditional-2.ensures
    ∙ ap (λ e. constant_of c.args.scope.now (made (tree.expression c.in-Conditional.test.value) (tree.expression c.in-Conditional.first.value) (tree.expression e))) c.deref-in-Conditional-3.ensures
    ∙ ap (λ e. constant_of c.args.scope.now (tree.expression e)) (sym c.in-Conditional.is)
