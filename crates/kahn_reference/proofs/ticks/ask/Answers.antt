use Rattle.std.proofs.Common.{arith}
use Rattle.kahn_reference.proofs.SlowSteps.{ask_none, ask_wrong, ask_got, feed_past, feed_end, feed_next, feed_stays, feed_took}
use Rattle.kahn_reference.proofs.Kept.{answered, token_fits}
use Rattle.kahn_reference.proofs.ticks.ask.Goals as goal

pub returns-then-i-lists-clause-value : goal.returns-then-i-lists-clause-value
returns-then-i-lists-clause-value c = ask_none c.args.how c.args.s _ _ (feed_past _ _ _ c.if-i-lists.true)

pub returns-then-at-len-clause-value : goal.returns-then-at-len-clause-value
returns-then-at-len-clause-value c =
    ask_none c.args.how c.args.s _ _ (feed_end _ _ _ c.index-at.result.now c.index-lists-i.result c.requires c.if-i-lists.false c.index-lists-i.is c.index-at.ensures (omega (arith, c.index-lists-i.result.ok.0)))

pub returns-in-None-clause-value : goal.returns-in-None-clause-value
returns-in-None-clause-value c =
    ask_wrong c.args.how c.args.s _ _ c.index-token.result.now _
    (feed_next _ _ _ c.index-at.result.now c.index-lists-i.result c.index-token.result.now c.requires c.if-i-lists.false c.index-lists-i.is c.index-at.ensures (omega (arith, c.index-lists-i.result.ok.0)) c.index-token.ensures)
    c.in-None.ensures

pub returns-then-takes-clause-value : goal.returns-then-takes-clause-value
returns-then-takes-clause-value c =
    ask_got c.args.how c.args.s _ _ _ _ c.tick_for.result c.index-token.result.now c.in-Some.v _
    (feed_next _ _ _ c.index-at.result.now c.index-lists-i.result c.index-token.result.now c.requires c.if-i-lists.false c.index-lists-i.is c.index-at.ensures (omega (arith, c.index-lists-i.result.ok.0)) c.index-token.ensures)
    c.in-Some.ensures c.tick_for.ensures c.in_ok-push-in-Some.ensures.items
    (feed_took c.args.how _ _ _ c.index-at.result.now (omega arith) c.index-at.ensures c.if-takes.ensures)

pub returns-else-takes-clause-value : goal.returns-else-takes-clause-value
returns-else-takes-clause-value c =
    ask_got c.args.how c.args.s _ _ _ _ c.tick_for.result c.index-token.result.now c.in-Some.v _
    (feed_next _ _ _ c.index-at.result.now c.index-lists-i.result c.index-token.result.now c.requires c.if-i-lists.false c.index-lists-i.is c.index-at.ensures (omega (arith, c.index-lists-i.result.ok.0)) c.index-token.ensures)
    c.in-Some.ensures c.tick_for.ensures c.in_ok-push-in-Some.ensures.items
    (feed_stays c.args.how c.args.s _ c.if-takes.ensures)

pub returns-then-takes-clause-fits : goal.returns-then-takes-clause-fits
returns-then-takes-clause-fits c =
    λ k h. answered c.args.how k c.index-token.result.now c.in-Some.v (token_fits c.args.lists.now c.args.s c.index-at.result.now c.index-lists-i.result c.index-token.result.now k c.if-i-lists.false c.index-lists-i.is (omega (arith, c.index-lists-i.result.ok.0)) c.index-token.ensures h) c.in-Some.ensures

pub returns-else-takes-clause-fits : goal.returns-else-takes-clause-fits
returns-else-takes-clause-fits c =
    λ k h. answered c.args.how k c.index-token.result.now c.in-Some.v (token_fits c.args.lists.now c.args.s c.index-at.result.now c.index-lists-i.result c.index-token.result.now k c.if-i-lists.false c.index-lists-i.is (omega (arith, c.index-lists-i.result.ok.0)) c.index-token.ensures h) c.in-Some.ensures
