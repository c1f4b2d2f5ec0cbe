use Rattle.std.proofs.Common.{ap, ◌∙◌}
use Rattle.std.specs.Prelude.{map}
use Rattle.task_fsm.specs.Machine.{form_of}
use Rattle.task_fsm.proofs.Body.{map_reverse}
use Rattle.task_fsm.proofs.leaf.finished.Goals as goal

pub returns-clause-places : goal.returns-clause-places
returns-clause-places c = ap (map form_of) c.reverse.ensures.items ∙ map_reverse form_of c.args.draft.states.items
