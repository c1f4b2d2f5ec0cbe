use Rattle.std.proofs.Common.{map, sym, ◌∙◌}
use Rattle.tapa_syntax.specs.Flat.{flat_instance}
use Rattle.stream_check.proofs.Bound.{one_detached, nobody_detached, several_detached}
use Rattle.stream_check.proofs.bindings.is_of_detached.Goals as goal

pub returns-in-One : goal.returns-in-One
returns-in-One c = λ bound h. c.is_detached.ensures ∙ one_detached (map flat_instance c.args.instances.now) c.in-One.instance bound (sym c.in-One.is ∙ h)

pub returns-in-Nobody : goal.returns-in-Nobody
returns-in-Nobody c = λ bound h. nobody_detached (map flat_instance c.args.instances.now) bound (sym c.in-Nobody.is ∙ h)

pub returns-in-Several : goal.returns-in-Several
returns-in-Several c = λ bound h. several_detached (map flat_instance c.args.instances.now) bound (sym c.in-Several.is ∙ h)
