use Rattle.std.proofs.Common.{◌<◌, ◌∙◌, arith}
use Rattle.net_core.specs.Bindings.{arity}
use Rattle.net_core.proofs.Loaded.{woken_more}
use Rattle.net_core.proofs.load.list_other_ends.Goals as goal

pub loop-p-preserved : goal.loop-p-preserved
loop-p-preserved c =
    let i = c.loop-p.invariant in
    let e = c.in_ok-enlist.ensures in
    record {
      below = e.below _ i.below c.other_end.ensures.inside;
      listed_len = e.listed_len ∙ i.listed_len;
      listed = e.listed;
      kept = λ x h. e.kept x (i.kept x h);
      woken = woken_more c.args.program.now c.args.i c.loop-p.p c.loop-p.later.items _ c.other_end.result e.kept e.there i.woken c.other_end.ensures.reader c.other_end.ensures.writer;
    }

pub returns-in_err-enlist-clause-below : goal.returns-in_err-enlist-clause-below
returns-in_err-enlist-clause-below c = c.enlist.ensures.below _ c.loop-p.invariant.below c.other_end.ensures.inside

pub returns-in_err-enlist-clause-kept : goal.returns-in_err-enlist-clause-kept
returns-in_err-enlist-clause-kept c = λ x h. c.enlist.ensures.kept x (c.loop-p.invariant.kept x h)

pub returns-clause-woken : goal.returns-clause-woken
returns-clause-woken c = λ p. record {
  reader = λ w. (c.loop-p.invariant.woken p (let l : p < arity c.args.program.now c.args.i = w.0 in omega arith)).reader w;
  writer = λ r. (c.loop-p.invariant.woken p (let l : p < arity c.args.program.now c.args.i = r.0 in omega arith)).writer r;
}
