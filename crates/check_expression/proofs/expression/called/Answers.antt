use Rattle.std.proofs.Common.{◌++◌}
use Rattle.std.proofs.lemmas.Result.{err_from_is_err_and}
use Rattle.check_scope.specs.declared.fault.CheckCode.TheVariants.{C8}
use Rattle.check_expression.specs.Expressions.{typed, operand, call_faults, no_value}
use Rattle.check_scope.specs.Faults.{fault, where_so}
use Rattle.check_expression.specs.Methods.{method_view, call_view}
use Rattle.check_scope.specs.Scopes.{entity_of}
use Rattle.check_scope.proofs.Order.{fails}
use Rattle.check_expression.proofs.expression.called.Goals as goal

pub returns-in_err-call : goal.returns-in_err-call
returns-in_err-call c =
    let p = err_from_is_err_and c.from_residual.result c.from_residual.ensures.1 in
    let entity = entity_of c.args.stream.now.text c.args.scope.now in
    let method = method_view c.args.method in
    let first = call_faults entity method c.args.stream.now c.args.name.now in
    let second = no_value method c.args.name.now in
    let h = fails call_view typed c.in_err-call.field-0.0 first second _ (operand entity method) c.in_err-call.ensures in
    rw (p.1, p.2) (fails typed typed c.in_err-call.field-0.0 (first ++ second) (where_so c.args.conditional (fault C8 c.args.name.now.place)) (operand entity method) (operand entity method) h)
