use Rattle.std.proofs.Common.{ℕ, ◌+◌, ◌-◌, ◌<◌, List, length, drop, refl, sym, ap, ◌∙◌, subst, arith}
use Rattle.std.specs.Prelude.{Vec, slice_set}
use Rattle.std.specs.declared.alloc.Global.{Global}
use Rattle.std.proofs.lemmas.Option.{slice_get_read, get_or_from_slice_get}
use Rattle.tapa_syntax.specs.declared.program.End.{End}
use Rattle.tapa_syntax.specs.LeafKinds.{writes_of}
use Rattle.net_core.specs.Bindings.{Reads}
use Rattle.net_case.specs.declared.queue.Queue.{Queue}
use Rattle.net_case.specs.Queue.{waits}
use Rattle.net_case.proofs.Taking.{HasTaken, taken_skip, taken_more}
use Rattle.net_case.proofs.commit.take_over_taken.Goals.{then-not-writes, else-not-writes}
use Rattle.net_case.proofs.commit.take_over_taken.Goals as goal

pub loop-p-preserved : goal.loop-p-preserved
loop-p-preserved c =
    let inv = c.loop-p.invariant in
    let r = c.requires in
    let P = c.args.program.now in
    let p = c.loop-p.p in
    let ports = c.args.ports.now in
    let limits = c.args.limits.now.items in
    let old = c.args.queues.now.items in
    let told = c.args.taken.now.items in
    let oold = c.args.offered.now.items in
    let now = c.loop-p.queues.items in
    let tnow = c.loop-p.taken.items in
    let onow = c.loop-p.offered.items in
    elim c.if-not-writes.branch [
      | then-not-writes w ↦
          let s = w.stream_at-s.result in
          let lq = inv.queues_len in
          let lt = inv.taken_len in
          let lo = inv.offered_len in
          let rq = r.queues_len in
          let rt = r.taken_len in
          let ro = r.offered_len in
          let ls = w.stream_at-s.ensures.inside in
          let q = w.index_mut.result.now in
          let at = slice_get_read now _ s q refl (omega arith) w.index_mut.ensures.value in
          let inside = c.loop-p-test.true in
          let end = c.len-p-end.ensures in
          let ok = c.args.limits.now.ok.0 in
          let many = r.limits_len in
          let lp : p < length limits = omega arith in
          let reads : Reads P c.args.i p = ((omega arith), (ap (λ (es : List End). writes_of es p) (sym r.ends) ∙ w.if-not-writes.ensures)) in
          let el = get_or_from_slice_get limits p w.index.result.now 0 (slice_get_read limits _ p w.index.result.now refl lp w.index.ensures) in
          let el2 = get_or_from_slice_get limits p w.index-then-not-writes-2.result.now 0 (slice_get_read limits _ p w.index-then-not-writes-2.result.now refl lp w.index-then-not-writes-2.ensures) in
          let et = get_or_from_slice_get tnow s w.index-then-not-writes.result.now 0 (slice_get_read tnow _ s w.index-then-not-writes.result.now refl (omega arith) w.index-then-not-writes.ensures) in
          let left = w.left.ensures in
          let more = r.more p reads in
          let same = w.skip.ensures.space in
          subst (λ (v : Vec Queue Global). HasTaken P c.args.i (p + 1) ports limits old v.items told c.if-not-writes.taken.items oold c.if-not-writes.offered.items) (sym w.queues-is)
          (subst (λ (v : Vec ℕ Global). HasTaken P c.args.i (p + 1) ports limits old (slice_set now s w.skip.new.self) told v.items oold c.if-not-writes.offered.items) (sym w.taken-is)
          (subst (λ (v : Vec ℕ Global). HasTaken P c.args.i (p + 1) ports limits old (slice_set now s w.skip.new.self) told (slice_set tnow s (w.index.result.now - w.left.result)) oold v.items) (sym w.offered-is)
          (taken_more P r.connected c.args.i p ports limits old now told tnow oold onow inv reads s w.stream_at-s.ensures.is (omega arith) (omega arith) q w.skip.new.self at (w.index.result.now - w.left.result) w.index-then-not-writes-2.result.now (sym el2) (omega arith) (w.skip.ensures.waits ∙ ap (λ n. drop (w.index.result.now - w.left.result - n) (waits q)) (sym et)) (omega arith))))
      | else-not-writes w ↦
          subst (λ (v : Vec Queue Global). HasTaken P c.args.i (p + 1) ports limits old v.items told c.if-not-writes.taken.items oold c.if-not-writes.offered.items) (sym w.queues-is)
          (subst (λ (v : Vec ℕ Global). HasTaken P c.args.i (p + 1) ports limits old now told v.items oold c.if-not-writes.offered.items) (sym w.taken-is)
          (subst (λ (v : Vec ℕ Global). HasTaken P c.args.i (p + 1) ports limits old now told tnow oold v.items) (sym w.offered-is)
          (taken_skip P c.args.i p ports limits old now told tnow oold onow (λ x. let z = sym (ap (λ (es : List End). writes_of es p) (sym r.ends) ∙ w.if-not-writes.ensures) ∙ x.1 in absurd (cc)) inv)))
    ]
