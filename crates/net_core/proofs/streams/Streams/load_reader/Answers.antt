use Rattle.std.proofs.Common.{◌≡◌, length, refl, sym, ap, ◌∙◌, arith}
use Rattle.std.specs.Prelude.{slice_index}
use Rattle.std.proofs.Math.ListN.{set}
use Rattle.std.proofs.lemmas.List.{get_or-set_same}
use Rattle.std.proofs.lemmas.Option.{slice_get_read, get_or_from_slice_get}
use Rattle.net_core.specs.Bindings.{stream_at}
use Rattle.net_core.specs.Ports.{carried_of}
use Rattle.net_core.specs.Load.{list_at}
use Rattle.net_core.proofs.Loaded.{list_read, tie_written}
use Rattle.net_core.proofs.Queued.{offered_whole}
use Rattle.net_core.proofs.streams.Streams.load_reader.Goals.{After-index-from}
use Rattle.net_core.proofs.streams.Streams.load_reader.Goals as goal

-- what the port's stream has, and how much of it the port was given
module _ (c : After-index-from) where
  written : slice_index c.args.self.now.writers.items c.args.tie.now.stream ≡ c.args.tie.now.position
  written = tie_written c.args.program.now c.requires.connected c.args.self.now.writers.items c.args.i c.args.p c.args.tie.now c.requires.ports.writer_is c.requires.tie

  list : c.carried-total.result.now ≡ list_at c.args.program.now c.args.self.now (stream_at c.args.program.now c.args.i c.args.p)
  list =
      let r = c.requires in
      let lp = r.ports.ports_len in
      let lj = r.tie.producer_in in
      let ej = slice_get_read c.args.self.now.ports.items _ c.args.tie.now.producer c.index.result.now refl (omega arith) c.index.ensures in
      list_read c.args.program.now c.args.self.now _ _ _ c.args.tie.now.position c.index.result.now c.carried-total.result.now r.tie.stream r.tie.producer written ej c.carried-total.ensures.tokens

  from : c.index-from.result.now ≡ slice_index c.args.self.now.offered.items (stream_at c.args.program.now c.args.i c.args.p)
  from =
      let lo = c.requires.ports.offered_len in
      let ls = c.requires.tie.stream_in in
      sym (get_or_from_slice_get c.args.self.now.offered.items _ c.index-from.result.now 0 (slice_get_read c.args.self.now.offered.items _ c.args.tie.now.stream c.index-from.result.now refl (omega arith) c.index-from.ensures))
      ∙ ap (slice_index c.args.self.now.offered.items) c.requires.tie.stream

  whole : slice_index (set c.args.self.now.offered.items c.args.tie.now.stream (length c.carried-total.result.now)) (stream_at c.args.program.now c.args.i c.args.p) ≡ length (list_at c.args.program.now c.args.self.now (stream_at c.args.program.now c.args.i c.args.p))
  whole =
      let lo = c.requires.ports.offered_len in
      let ls = c.requires.tie.stream_in in
      ap (slice_index (set c.args.self.now.offered.items c.args.tie.now.stream (length c.carried-total.result.now))) (sym c.requires.tie.stream)
      ∙ get_or-set_same c.args.self.now.offered.items c.args.tie.now.stream (length c.carried-total.result.now) 0 (omega arith) ∙ ap length list

pub returns-in_ok-offer_more-clause-offers : goal.returns-in_ok-offer_more-clause-offers
returns-in_ok-offer_more-clause-offers c =
    let k = (goal.at.returns-in_ok-offer_more-clause-offers c).After-index-from in
    let r = c.requires in
    let P = c.args.program.now in
    let t = c.args.self.now in
    let all = t.ports.items in
    let S = stream_at P c.args.i c.args.p in
    let carried : carried_of all c.args.tie.now.producer c.args.tie.now.position ≡ list_at P t S = ap (λ z. carried_of all z c.args.tie.now.position) r.tie.producer ∙ ap (carried_of all _) (sym (written k)) ∙ ap (list_at P t) r.tie.stream in
    let f = from k in
    let w = whole k in
    let ls = r.tie.stream_in in
    let lS = ap (λ z. z) r.tie.stream in
    let within = r.ports.queued.offered_within S (omega arith) in
    let taken = r.ports.queued.taken_within S (omega arith) in
    record {
      waits = offered_whole (slice_index t.taken.items S) (slice_index t.offered.items S) _ c.index-from.result.now _ _ (list_at P t S) (carried_of all c.args.tie.now.producer c.args.tie.now.position) c.in_ok-offer_more.ensures.waits (r.ports.queued.waits c.args.i c.args.p r.instance r.reads) f carried taken within w;
      within = omega arith;
      more = omega arith;
    }

pub returns-in_ok-offer_more-clause-whole : goal.returns-in_ok-offer_more-clause-whole
returns-in_ok-offer_more-clause-whole c = whole (goal.at.returns-in_ok-offer_more-clause-whole c).After-index-from

pub returns-else-from-total-clause-whole : goal.returns-else-from-total-clause-whole
returns-else-from-total-clause-whole c =
    let k = (goal.at.returns-else-from-total-clause-whole c).After-index-from in
    let f = from k in
    let total = ap length (list k) in
    let lS = ap (λ z. z) c.requires.tie.stream in
    let ls = c.requires.tie.stream_in in
    let within = c.requires.ports.queued.offered_within (stream_at c.args.program.now c.args.i c.args.p) (omega arith) in
    let more = c.if-from-total.false in
    omega arith
