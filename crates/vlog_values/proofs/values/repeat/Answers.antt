use Rattle.std.proofs.Common.{◌≡◌, ap, ◌∙◌, arith}
use Rattle.vlog_tree.specs.Cycle.{copies}
use Rattle.vlog_values.specs.Numbers.{fitting}
use Rattle.vlog_values.proofs.Fits.{is_fit}
use Rattle.vlog_values.proofs.Joins.{copy_more, copies_past}
use Rattle.vlog_values.proofs.values.repeat.Goals as goal

pub returns-in-None : goal.returns-in-None
returns-in-None c = copies_past c.args.bits c.args.a c.loop-i._i c.args.times c.loop-i.n (is_fit (copies c.args.bits c.args.a c.loop-i._i) c.loop-i.n c.loop-i.invariant) c.loop-i-test.true c.in-None.ensures

pub loop-i-preserved : goal.loop-i-preserved
loop-i-preserved c = c.in-Some.ensures ∙ ap fitting (copy_more c.args.bits c.args.a c.loop-i._i c.loop-i.n (is_fit (copies c.args.bits c.args.a c.loop-i._i) c.loop-i.n c.loop-i.invariant))

pub returns : goal.returns
returns c = let e : c.loop-i._i ≡ c.args.times = omega arith in c.loop-i.invariant ∙ ap (λ k. fitting (copies c.args.bits c.args.a k)) e
