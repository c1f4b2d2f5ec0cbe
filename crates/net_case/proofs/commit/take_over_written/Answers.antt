use Rattle.std.proofs.Common.{◌≡◌, ◌+◌, ◌++◌, List, length, drop, refl, sym, ap, ◌∙◌, subst, arith}
use Rattle.std.specs.Prelude.{Vec}
use Rattle.std.specs.declared.alloc.Global.{Global}
use Rattle.std.proofs.lemmas.List.{take_rest}
use Rattle.std.proofs.lemmas.Option.{slice_get_read, get_or_from_slice_get}
use Rattle.tapa_syntax.specs.declared.program.End.{End}
use Rattle.tapa_syntax.specs.LeafKinds.{writes_of}
use Rattle.net_core.specs.Ports.{carried}
use Rattle.net_core.specs.Bindings.{Writes}
use Rattle.net_case.specs.declared.queue.Queue.{Queue}
use Rattle.net_case.specs.Queue.{waits}
use Rattle.net_case.proofs.Taking.{HasJoined, joined_skip, joined_more}
use Rattle.net_case.proofs.commit.take_over_written.Goals.{then-writes, else-writes}
use Rattle.net_case.proofs.commit.take_over_written.Goals as goal

pub loop-p-preserved : goal.loop-p-preserved
loop-p-preserved c =
    let inv = c.loop-p.invariant in
    let r = c.requires in
    let P = c.args.program.now in
    let p = c.loop-p.p in
    let ports = c.args.ports.now in
    let taken = c.args.taken.now.items in
    let now = c.loop-p.queues.items in
    let old = c.args.queues.now.items in
    elim c.if-writes.branch [
      | then-writes w ↦
          let s = w.stream_at-s.result in
          let len = inv.len in
          let lq = r.queues_len in
          let lt = r.taken_len in
          let ls = w.stream_at-s.ensures.inside in
          let q = w.index_mut.result.now in
          let at = slice_get_read now _ s q refl (omega arith) w.index_mut.ensures.value in
          let at2 = slice_get_read now _ s w.index-then-writes.result.now refl (omega arith) w.index-then-writes.ensures in
          let same : w.index-then-writes.result.now ≡ q = let z = sym at2 ∙ at in cc in
          let et = get_or_from_slice_get taken s w.index.result.now 0 (slice_get_read taken _ s w.index.result.now refl (omega arith) w.index.ensures) in
          let many = w.len.ensures ∙ ap (λ (x : Queue). length (waits x)) same in
          let inside = c.loop-p-test.true in
          let arity_is = c.arity-p-end.ensures in
          let writes : Writes P c.args.i p = ((omega arith), (ap (λ (es : List End). writes_of es p) (sym r.ends) ∙ w.if-writes.ensures)) in
          let joins : waits w.join.new.self ≡ waits q ++ drop (w.index.result.now + w.len.result) (carried ports p) = w.join.ensures.waits ∙ ap (λ l. waits q ++ l) (take_rest w.carried.result.now (w.index.result.now + w.len.result)) ∙ ap (λ l. waits q ++ drop (w.index.result.now + w.len.result) l) w.carried.ensures.tokens in
          subst (λ (v : Vec Queue Global). HasJoined P c.args.i (p + 1) ports taken old v.items) (sym w.queues-is)
          (joined_more P r.connected c.args.i p ports taken old now inv writes s w.stream_at-s.ensures.is q w.join.new.self at (w.index.result.now + w.len.result) (omega arith) joins w.join.ensures.space)
      | else-writes w ↦
          subst (λ (v : Vec Queue Global). HasJoined P c.args.i (p + 1) ports taken old v.items) (sym w.queues-is)
          (joined_skip P c.args.i p ports taken old now (λ x. let z = sym (ap (λ (es : List End). writes_of es p) (sym r.ends) ∙ w.if-writes.ensures) ∙ x.1 in absurd (cc)) inv)
    ]
