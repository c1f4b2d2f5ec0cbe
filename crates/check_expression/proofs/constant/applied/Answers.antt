use Rattle.std.proofs.Common.{◌<◌, sym, subst}
use Rattle.tapa_base.specs.Kinds.{values_of}
use Rattle.tapa_syntax.specs.Typed.{result_kind}
use Rattle.tapa_syntax.proofs.Values.{applied_fits}
use Rattle.check_expression.proofs.constant.applied.Goals as goal

pub returns-in_default-clause-within : goal.returns-in_default-clause-within
returns-in_default-clause-within c =
    subst (λ v. v < values_of (result_kind c.args.op c.args.kind)) (sym c.apply.ensures) (applied_fits c.args.op c.args.kind c.args.left c.args.right c.requires.left c.requires.right)
