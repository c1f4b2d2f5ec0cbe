use Rattle.std.proofs.Common.{◌∙◌, sym}
use Rattle.tapa_syntax.specs.Trees as tree
use Rattle.check_expression.proofs.Constants.{constant-there}
use Rattle.check_expression.proofs.constant_use.known.Goals as goal

pub unreachable-requires : goal.unreachable-requires
unreachable-requires c = constant-there c.args.scope.now (tree.expression c.args.value.now) c.in_ok-check_names.ensures.0 (sym c.in_default.is ∙ c.evaluated.ensures.value)
