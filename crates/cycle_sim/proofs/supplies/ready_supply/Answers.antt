use Rattle.std.proofs.Common.{sym}
use Rattle.cycle_sim.proofs.Supplying.{label_there, ready_is}
use Rattle.cycle_sim.proofs.supplies.ready_supply.Goals as goal

pub returns-in_default-clause-some : goal.returns-in_default-clause-some
returns-in_default-clause-some c = λ l has name. absurd (label_there c.args.labels.now c.args.label.now l has name (sym c.in_default.ensures))

pub returns-clause-is : goal.returns-clause-is
returns-clause-is c = λ top scalars are. ready_is top c.args.labels.now scalars c.args.label.now c.in-Some.place are (sym c.in-Some.ensures)
