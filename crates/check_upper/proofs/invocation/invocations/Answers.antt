use Rattle.std.proofs.Common.{◌+◌, drop, map, ap, ◌∙◌}
use Rattle.std.proofs.lemmas.Result.{err_from_is_err_and}
use Rattle.tapa_syntax.specs.Trees as tree
use Rattle.check_upper.specs.Uppers as upper
use Rattle.check_upper.specs.Views.{task_view}
use Rattle.check_scope.proofs.Order.{refuses}
use Rattle.tapa_base.proofs.Got.{next_of as begins}
use Rattle.check_upper.proofs.invocation.invocations.Goals as goal

pub returns-in_err-invocation : goal.returns-in_err-invocation
returns-in_err-invocation c =
    let p = err_from_is_err_and c.from_residual.result c.from_residual.ensures.1 in
    let i = c.loop-one.one-index in
    let scope = c.args.scope.now in
    let tasks = map task_view c.args.tasks.now in
    let own = tree.task_of c.args.own.now in
    let first = tree.invocation_of c.one-item.result in
    let rest = map tree.invocation_of (drop (i + 1) c.args.invoked.now) in
    let e = c.loop-one.invariant.faults ∙ ap (λ xs. upper.invocations_faults scope tasks own (map tree.invocation_of xs)) (begins c.args.invoked.now i c.one-item.result c.loop-one-test.true c.one-item.is) in
    rw (p.1, p.2) (refuses c.in_err-invocation.field-0.0 _ (upper.invocation_faults scope tasks own first) (upper.invocations_faults scope tasks own rest) _ _ c.in_err-invocation.ensures e)
