use Rattle.std.proofs.Common.{◌<◌, length, refl, arith}
use Rattle.std.proofs.lemmas.Option.{slice_get_read}
use Rattle.coro_threads.proofs.Lots.{same_lots_set, ready_set}
use Rattle.coro_threads.proofs.round.prepare_all.Goals as goal

pub loop-k-preserved : goal.loop-k-preserved
loop-k-preserved g c =
    let inv = c.loop-k.invariant in
    let bs = c.loop-k.batches.items in
    let k = c.loop-k.k in
    let lx : k < length bs = let e = c.len-k-end.ensures in let t = c.loop-k-test.true in let o = c.args.batches.now.ok.0 in let l = inv.same.len in omega arith in
    let x = c.index_mut.result.now in
    let y = c.prepare.new.self in
    let at = slice_get_read bs _ k x refl lx c.index_mut.ensures.value in
    let done = c.in_ok-prepare.ensures.prepared in record {
      same = same_lots_set c.args.batches.now.items bs k x y inv.same at done.same;
      ready = ready_set bs k y inv.ready lx done.ready;
      room = inv.room;
    }
