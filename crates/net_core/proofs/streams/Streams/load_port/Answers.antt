use Rattle.std.proofs.Common.{◌≡◌, length, drop, ap, ◌∙◌, arith}
use Rattle.std.specs.Prelude.{slice_index}
use Rattle.std.proofs.lemmas.List.{take_all}
use Rattle.std.proofs.lemmas.Result.{IfOk-weaker}
use Rattle.net_core.specs.Bindings.{stream_at}
use Rattle.net_core.specs.Load.{IsLoaded, list_at}
use Rattle.net_core.proofs.Loaded.{read_or_write}
use Rattle.net_core.proofs.streams.Streams.load_port.Goals as goal

pub returns-else-is_writing-clause-loaded : goal.returns-else-is_writing-clause-loaded
returns-else-is_writing-clause-loaded c =
    let program = c.args.program.now in
    let s = stream_at program c.args.i c.args.p in
    let list = list_at program c.args.self.now s in
    let offered = c.load_reader.new.self.offered.items in
    let reads = c.if-is_writing.ensures in
    let e = c.load_reader.ensures in
    IfOk-weaker c.load_reader.result (λ _. slice_index offered s ≡ length list)
    (λ _. IsLoaded program c.args.i c.args.p c.args.self.now c.load_reader.new.self)
    (λ _ whole. record {
      waits = λ d. e.offers.waits ∙ ap (drop (slice_index c.args.self.now.taken.items s)) (take_all (slice_index offered s) list (omega arith));
      offers = λ d. whole;
      room = λ d. absurd (read_or_write program c.args.i c.args.p reads d);
    })
    e.whole
