use Rattle.std.proofs.Common.{◌<◌, sym, subst}
use Rattle.std.proofs.lemmas.Result.{err_from_is_err_and, on_err_weaker}
use Rattle.tapa_base.specs.Kinds.{values_of}
use Rattle.tapa_syntax.proofs.Values.{converted_fits}
use Rattle.kahn_reference.proofs.Kept.{applied_below}
use Rattle.kahn_reference.proofs.cells.changed.Goals as goal

pub returns-in_err-value-clause-err : goal.returns-in_err-value-clause-err
returns-in_err-value-clause-err c =
    let p = err_from_is_err_and c.from_residual-in_err-value.result c.from_residual-in_err-value.ensures.1 in
    rw p.1 (λ l r k. c.in_err-value.ensures.err (subst (λ x. x < values_of c.args.kind) (sym c.in_ok-left.ensures.ok) (converted_fits c.args.own c.args.kind c.args.old)) k)

pub returns-clause-err : goal.returns-clause-err
returns-clause-err c =
    on_err_weaker c.convert_value-2.result
    (λ h l r k. h (subst (λ x. x < values_of c.args.kind) (sym c.in_ok-value.ensures.ok)
    (applied_below c.args.op c.args.kind c.in_ok-left.left c.args.v (subst (λ x. x < values_of c.args.kind) (sym c.in_ok-left.ensures.ok) (converted_fits c.args.own c.args.kind c.args.old)) r)))
    c.convert_value-2.ensures.err
