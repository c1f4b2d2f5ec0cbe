use Rattle.std.proofs.Common.{◌+◌, drop, map, ap, ◌∙◌}
use Rattle.std.proofs.lemmas.Result.{err_from_is_err_and}
use Rattle.tapa_syntax.specs.Trees as tree
use Rattle.check_upper.specs.Signatures.{channels_of}
use Rattle.check_upper.specs.Uppers as upper
use Rattle.check_scope.proofs.Order.{refuses}
use Rattle.tapa_base.proofs.Got.{next_of as begins}
use Rattle.check_upper.proofs.channel.Channels.streams.Goals as goal

pub returns-in_err-stream : goal.returns-in_err-stream
returns-in_err-stream c =
    let p = err_from_is_err_and c.from_residual.result c.from_residual.ensures.1 in
    let before = channels_of c.loop-stream.self in
    let first = tree.stream_of c.stream-item.result in
    let rest = map tree.stream_of (drop (c.loop-stream.stream-index + 1) c.args.streams.now) in
    let e = c.loop-stream.invariant.faults ∙ ap (λ xs. upper.streams_faults before (map tree.stream_of xs)) (begins c.args.streams.now c.loop-stream.stream-index c.stream-item.result c.loop-stream-test.true c.stream-item.is) in
    rw (p.1, p.2) (refuses c.in_err-stream.field-0.0 _ (upper.stream_faults before first) (upper.streams_faults (upper.after_stream before first) rest) _ _ c.in_err-stream.ensures.value e)
