use Rattle.std.proofs.Common.{sym}
use Rattle.cycle_sim.proofs.Supplying.{label_there, scalar_is}
use Rattle.cycle_sim.proofs.supplies.scalar_supply.Goals as goal

pub returns-in_default-clause-some : goal.returns-in_default-clause-some
returns-in_default-clause-some c = λ l has name. absurd (label_there c.args.labels.now c.args.label.now l has name (sym c.in_default.ensures))

pub returns-clause-is : goal.returns-clause-is
returns-clause-is c = λ top are. scalar_is top c.args.labels.now c.args.scalars.now c.args.label.now c.in-Some.place c.number_at.result are (sym c.in-Some.ensures) c.number_at.ensures
