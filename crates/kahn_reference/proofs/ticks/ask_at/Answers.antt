use Rattle.std.proofs.lemmas.Result.{IfOk-weaker}
use Rattle.kahn_reference.specs.Slow.{point, numbers, GivesAnswer, GivesValue}
use Rattle.kahn_model.specs.Behavior.{Await}
use Rattle.kahn_reference.proofs.SlowFlows.{asked_at}
use Rattle.kahn_reference.proofs.ticks.ask_at.Goals as goal

pub returns-clause-value : goal.returns-clause-value
returns-clause-value c =
    IfOk-weaker c.ask.result
    (λ v. GivesAnswer v (point c.args.lists.now c.args.run.now) c.number_at.result c.args.how (point c.args.lists.now c.ask.new.run))
    (λ v. GivesValue (numbers c.args.streams.now) v (point c.args.lists.now c.args.run.now) (λ go. Await c.args.p c.args.how go) (point c.args.lists.now c.ask.new.run))
    (λ v h. asked_at (numbers c.args.streams.now) v (point c.args.lists.now c.args.run.now) (point c.args.lists.now c.ask.new.run) c.number_at.result c.args.p c.args.how c.number_at.ensures h)
    c.ask.ensures.value
