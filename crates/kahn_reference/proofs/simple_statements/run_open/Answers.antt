use Rattle.std.proofs.Common.{refl, ap}
use Rattle.tapa_syntax.specs.declared.program.Stmt.TheVariants.{Open as OpenIt}
use Rattle.kahn_reference.specs.Slow.{point, numbers, state_of}
use Rattle.kahn_reference.proofs.SlowStatements.{open_goes, open_stops}
use Rattle.kahn_reference.proofs.Kept.{stays}
use Rattle.kahn_reference.proofs.simple_statements.run_open.Goals as goal

pub returns-in-Stopped-clause-flow : goal.returns-in-Stopped-clause-flow
returns-in-Stopped-clause-flow c = λ K n.
    open_stops (numbers c.args.streams.now) K n (OpenIt c.args.p) c.args.p (point c.args.lists.now c.args.run.now) (point c.args.lists.now c.ask_at.new.run) c.in_ok-m.field-0 c.in-Stopped.m refl c.in-Stopped.is c.in_ok-m.ensures.value

pub returns-in-Given-clause-flow : goal.returns-in-Given-clause-flow
returns-in-Given-clause-flow c = λ K n.
    open_goes (numbers c.args.streams.now) K n (OpenIt c.args.p) c.args.p (point c.args.lists.now c.args.run.now) (point c.args.lists.now c.ask_at.new.run) c.in_ok-m.field-0 _ refl c.in-Given.is c.in_ok-m.ensures.value (ap state_of c.in_ok-m.ensures.state)

pub returns-in-Given-clause-fits : goal.returns-in-Given-clause-fits
returns-in-Given-clause-fits c =
    λ K w g. stays K c.args.run.now.state c.ask_at.new.run.state c.in_ok-m.ensures.state g.state
