use Rattle.std.proofs.Common.{◌<◌, ◌≤◌, ◌∙◌, length, refl, arith}
use Rattle.std.proofs.lemmas.Option.{slice_get_read, slice_get_within}
use Rattle.net_core.proofs.Loaded.{all_more}
use Rattle.net_core.proofs.load.wake.Goals as goal

pub enlist-requires-clause-inside : goal.enlist-requires-clause-inside
enlist-requires-clause-inside c =
    let lx : c.loop-x.x < length c.args.near.now.items = let e = c.len-x-end.ensures in let t = c.loop-x-test.true in let o = c.args.near.now.ok.0 in omega arith in
    let at = slice_get_read c.args.near.now.items _ c.loop-x.x c.index.result.now refl lx c.index.ensures in
    let k = c.requires.inside c.loop-x.x c.index.result.now at in
    let e = c.loop-x.invariant.listed_len in
    omega arith

pub loop-x-preserved : goal.loop-x-preserved
loop-x-preserved c =
    let i = c.loop-x.invariant in
    let e = c.in_ok-enlist.ensures in
    let lx : c.loop-x.x < length c.args.near.now.items = let e = c.len-x-end.ensures in let t = c.loop-x-test.true in let o = c.args.near.now.ok.0 in omega arith in
    let at = slice_get_read c.args.near.now.items _ c.loop-x.x c.index.result.now refl lx c.index.ensures in
    record {
      below = λ m hn hl. e.below m (i.below m hn hl) (hn c.loop-x.x c.index.result.now at);
      listed_len = e.listed_len ∙ i.listed_len;
      listed = e.listed;
      kept = λ x h. e.kept x (i.kept x h);
      woken = all_more c.args.near.now.items c.loop-x.later.items _ c.loop-x.x c.index.result.now at e.kept e.there i.woken;
    }

pub returns-in_err-enlist-clause-below : goal.returns-in_err-enlist-clause-below
returns-in_err-enlist-clause-below c =
    let lx : c.loop-x.x < length c.args.near.now.items = let e = c.len-x-end.ensures in let t = c.loop-x-test.true in let o = c.args.near.now.ok.0 in omega arith in
    let at = slice_get_read c.args.near.now.items _ c.loop-x.x c.index.result.now refl lx c.index.ensures in
    λ m hn hl. c.enlist.ensures.below m (c.loop-x.invariant.below m hn hl) (hn c.loop-x.x c.index.result.now at)

pub returns-in_err-enlist-clause-kept : goal.returns-in_err-enlist-clause-kept
returns-in_err-enlist-clause-kept c = λ x h. c.enlist.ensures.kept x (c.loop-x.invariant.kept x h)

pub returns-clause-woken : goal.returns-clause-woken
returns-clause-woken c = λ x h.
    let lx : length c.args.near.now.items ≤ c.loop-x.x = let e = c.len-x-end.ensures in let t = c.loop-x-test.false in let o = c.args.near.now.ok.0 in omega arith in
    let w = slice_get_within c.args.near.now.items h.0 x h.1 in
    c.loop-x.invariant.woken h.0 x (omega arith) h.1
