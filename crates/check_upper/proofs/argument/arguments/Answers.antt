use Rattle.std.proofs.Common.{◌+◌, ◌∷◌, drop, map, ap, ◌∙◌}
use Rattle.std.proofs.lemmas.Result.{err_from_is_err_and}
use Rattle.tapa_syntax.specs.Trees as tree
use Rattle.check_upper.specs.Uppers as upper
use Rattle.check_scope.proofs.Order.{refuses}
use Rattle.tapa_base.proofs.Got.{next_of as begins}
use Rattle.check_upper.proofs.argument.arguments.Goals as goal

pub returns-in_err-binding : goal.returns-in_err-binding
returns-in_err-binding c =
    let p = err_from_is_err_and c.from_residual.result c.from_residual.ensures.1 in
    let i = c.loop-position.position in
    let scope = c.args.scope.now in
    let parameter = c.index-parameters-position.result in
    let given = c.index-arguments-position.result in
    let parameters = drop (i + 1) c.args.parameters.now in
    let rest = map tree.argument_of (drop (i + 1) c.args.arguments.now) in
    let e = c.loop-position.invariant.faults
    ∙ ap (λ xs. upper.arguments_faults scope xs (map tree.argument_of (drop i c.args.arguments.now))) (begins c.args.parameters.now i parameter c.loop-position-test.true c.index-parameters-position.is)
    ∙ ap (λ xs. upper.arguments_faults scope (parameter ∷ parameters) (map tree.argument_of xs)) (begins c.args.arguments.now i given c.if-position-arguments.false c.index-arguments-position.is) in
    rw (p.1, p.2) (refuses c.in_err-binding.field-0.0 _ (upper.argument_faults scope parameter given.place (tree.expression given.value)) (upper.arguments_faults scope parameters rest) _ _ c.in_err-binding.ensures e)
