use Rattle.std.proofs.Common.{◌<◌, length, refl, ◌∙◌, arith}
use Rattle.std.proofs.lemmas.List.{length-set}
use Rattle.std.proofs.lemmas.Option.{slice_get_read}
use Rattle.net_case.proofs.Filled.{filled_more, empty_more, spaces_more}
use Rattle.net_case.proofs.make.fill.Goals as goal

pub fill_at-requires-clause-stream : goal.fill_at-requires-clause-stream
fill_at-requires-clause-stream c =
    let len = c.loop-s.invariant.len in
    let inside = c.loop-s-test.true in
    let end = c.len-s-end.ensures in
    let l = c.requires.empty.len in
    let ok = c.args.queues.now.ok in
    omega arith

pub loop-s-preserved : goal.loop-s-preserved
loop-s-preserved c =
    let inv = c.loop-s.invariant in
    let len = inv.len in
    let queues = c.loop-s.queues.items in
    let s = c.loop-s.s in
    let inside = c.loop-s-test.true in
    let end = c.len-s-end.ensures in
    let l0 = c.requires.empty.len in
    let ok = c.args.queues.now.ok in
    let l : s < length queues = omega arith in
    let at = slice_get_read queues _ s c.index_mut.result.now refl l c.index_mut.ensures.value in
    record {
      len = length-set queues s c.fill_at.new.queue ∙ inv.len;
      filled = filled_more queues s c.index_mut.result.now c.fill_at.new.queue l at _ inv.filled c.fill_at.ensures.waits;
      empty = empty_more queues s c.index_mut.result.now c.fill_at.new.queue l at inv.empty;
      spaces = spaces_more queues s c.index_mut.result.now c.fill_at.new.queue l at c.args.program.now inv.spaces c.fill_at.ensures.space;
    }
