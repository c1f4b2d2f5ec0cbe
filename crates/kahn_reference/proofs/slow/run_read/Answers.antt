use Rattle.kahn_reference.specs.Slow.{point, numbers, state_of}
use Rattle.kahn_model.specs.Behavior.{Await}
use Rattle.kahn_model.specs.declared.tick.StreamOperation.TheVariants.{Read as ByRead}
use Rattle.kahn_model.specs.Trace.{expr}
use Rattle.kahn_reference.proofs.SlowFlows.{ends}
use Rattle.kahn_reference.proofs.Kept.{given}
use Rattle.kahn_reference.proofs.slow.run_read.Goals as goal

pub returns-in-Stopped-2-clause-value : goal.returns-in-Stopped-2-clause-value
returns-in-Stopped-2-clause-value c = λ go.
    let first = rw c.in-Given.is at c.in_ok-m.ensures.value in
    let second = rw c.in-Stopped-2.is at c.in_ok-m-in-Given.ensures.value in
    ends (numbers c.args.streams.now) (point c.args.lists.now c.args.run.now) (point c.args.lists.now c.run_expr.new.run) (point c.args.lists.now c.ask_at.new.run) (expr c.args.index.now (state_of c.args.run.now.state) (λ a. Await c.args.p ByRead (go a))) (Await c.args.p ByRead (go c.in-Given.a)) c.in-Stopped-2.m (first (λ a. Await c.args.p ByRead (go a))) (second (go c.in-Given.a))

pub returns-in-Given-2-clause-fits : goal.returns-in-Given-2-clause-fits
returns-in-Given-2-clause-fits c = λ K j h g. (
  given j c.in_ok-m.field-0 c.in-Given.a c.in-Given.is (c.in_ok-m.ensures.fits K j h g),
  given (K.streams c.args.p) c.in_ok-m-in-Given.field-0 c.in-Given-2.b c.in-Given-2.is (c.in_ok-m-in-Given.ensures.fits (K.streams c.args.p) (g.tokens c.args.p)),
)
