use Rattle.std.proofs.Common.{◌≡◌, ◌+◌, ◌-◌, ◌*◌, ◌≤◌, ◌++◌, List, length, drop, Bool, true, refl, sym, ap, ◌∙◌, subst, arith}
use Rattle.std.specs.Prelude.{slice_index, slice_set, is_ok, if◌then◌else◌}
use Rattle.std.proofs.lemmas.Option.{slice_get_read, get_or_from_slice_get}
use Rattle.tapa_base.specs.declared.token.Token.{Token}
use Rattle.tapa_syntax.specs.declared.program.End.{End}
use Rattle.tapa_syntax.specs.LeafKinds.{writes_of}
use Rattle.net_core.specs.Ports.{waiting, space_at}
use Rattle.net_core.specs.Bindings.{stream_at, Reads}
use Rattle.net_case.specs.Queue.{waits}
use Rattle.net_case.specs.Deliver.{AreInOrder, IsDelivered, tokens_in, queue_at}
use Rattle.net_case.proofs.Delivered.{joined_all, enough, read_done}
use Rattle.net_case.proofs.deliver.deliver_at.Goals.{After-len}
use Rattle.net_case.proofs.deliver.deliver_at.Goals as goal

-- all tokens that are there for the port are at it
delivered : (c : After-len) → AreInOrder c.args.program.now c.args.i c.args.queues.now.items c.args.taken.now.items (slice_set c.args.offered.now.items c.stream_at-s.result (c.index-took.result.now + c.len.result)) c.offer_more-there.new.self (slice_set c.args.limits.now.items c.args.p (c.index-took.result.now + c.len.result)) × IsDelivered c.args.program.now c.args.i c.args.p c.args.queues.now.items c.args.taken.now.items (slice_set c.args.offered.now.items c.stream_at-s.result (c.index-took.result.now + c.len.result)) c.offer_more-there.new.self (slice_set c.args.limits.now.items c.args.p (c.index-took.result.now + c.len.result))
delivered c =
    let r = c.requires in
    let o = r.order in
    let P = c.args.program.now in
    let p = c.args.p in
    let s = c.stream_at-s.result in
    let es = c.stream_at-s.ensures.is in
    let ls = c.stream_at-s.ensures.inside in
    let queues = c.args.queues.now.items in
    let taken = c.args.taken.now.items in
    let offered = c.args.offered.now.items in
    let ports = c.args.ports.now in
    let lq = o.queues_len in
    let lt = o.taken_len in
    let lo = o.offered_len in
    let q = c.index-queue.result.now in
    let eq = slice_get_read queues _ s q refl (omega arith) c.index-queue.ensures in
    let et = get_or_from_slice_get taken s c.index-took.result.now 0 (slice_get_read taken _ s c.index-took.result.now refl (omega arith) c.index-took.ensures) in
    let eo = get_or_from_slice_get offered s c.index.result.now 0 (slice_get_read offered _ s c.index.result.now refl (omega arith) c.index.ensures) in
    let queue_is : queue_at queues s ≡ waits q = ap tokens_in eq in
    let reads : Reads P c.args.i p = (r.position, (ap (λ (es : List End). writes_of es p) (sym o.ends) ∙ c.if-writes.ensures)) in
    let given : c.index.result.now - c.index-took.result.now ≡ slice_index offered (stream_at P c.args.i p) - slice_index taken (stream_at P c.args.i p) = ap (λ n. n - c.index-took.result.now) (sym eo) ∙ ap (λ n. slice_index offered s - n) (sym et) ∙ ap (λ x. slice_index offered x - slice_index taken x) es in
    let more : c.from_place.result.now ≡ drop (slice_index offered (stream_at P c.args.i p) - slice_index taken (stream_at P c.args.i p)) (queue_at queues (stream_at P c.args.i p)) = c.from_place.ensures ∙ ap (λ n. drop n (waits q)) given ∙ ap (drop (slice_index offered (stream_at P c.args.i p) - slice_index taken (stream_at P c.args.i p))) (sym queue_is ∙ ap (queue_at queues) es) in
    let fits = enough P r.connected c.args.i r.instance p r.position queues taken offered ports c.args.limits.now.items o reads in
    let there : is_ok c.offer_more-there.result ≡ true = c.offer_more-there.ensures.succeeds (subst (λ (l : List Token). 2 * (length (waiting ports p) + length l) ≤ space_at ports p) (sym more) fits) in
    let all : waiting c.offer_more-there.new.self p ≡ queue_at queues s =
    c.offer_more-there.ensures.waits ∙ ap (λ (b : Bool). if b then waiting ports p ++ c.from_place.result.now else waiting ports p) there ∙ ap (λ l. waiting ports p ++ l) more
    ∙ joined_all P r.connected c.args.i r.instance p r.position queues taken offered ports c.args.limits.now.items o reads ∙ ap (queue_at queues) (sym es)
    in
    let len = c.len.ensures in
    let total = ap length queue_is in
    let d = read_done P r.connected c.args.i r.instance p r.position queues taken offered ports c.args.limits.now.items o c.offer_more-there.new.self c.offer_more-there.ensures.adjusted c.offer_more-there.ensures.space reads s (c.index-took.result.now + c.len.result) es all (omega arith) in
    (d.0, d.1)

pub returns-clause-order : goal.returns-clause-order
returns-clause-order c = (delivered (goal.at.returns-clause-order c).After-len).0

pub returns-clause-delivered : goal.returns-clause-delivered
returns-clause-delivered c = (delivered (goal.at.returns-clause-delivered c).After-len).1
