use Rattle.std.proofs.Common.{arith}
use Rattle.std.proofs.lemmas.Result.{IfOk-weaker}
use Rattle.cross_pipe.proofs.RelayRows.{one_added, more_added}
use Rattle.cross_pipe.proofs.relay.+add_relays.Goals as goal

pub returns-then-steps-eq1 : goal.returns-then-steps-eq1
returns-then-steps-eq1 t c = one_added c.args.bits c.args.steps c.args.modules.now.items c.push.new.self.items c.in_ok-step.field-0 c.if-steps-eq1.true c.in_ok-step.ensures c.in_ok-push.ensures.items

pub returns : goal.returns
returns t c =
    IfOk-weaker c.add_relays.result _ _
    (λ u xs. more_added c.args.bits c.args.steps c.args.modules.now.items c.push-2.new.self.items c.add_relays.new.modules.items c.in_ok-row.field-0 (let some = c.requires.steps in let more = c.if-steps-eq1.false in omega (arith, some, more)) c.in_ok-row.ensures c.in_ok-push-2.ensures.items xs)
    c.add_relays.ensures
