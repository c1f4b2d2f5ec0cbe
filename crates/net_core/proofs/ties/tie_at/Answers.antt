use Rattle.std.proofs.Common.{refl, subst, arith}
use Rattle.std.proofs.lemmas.Option.{slice_get_read, get_or_from_slice_get}
use Rattle.net_core.specs.Bindings.{producer_of, IsWriter}
use Rattle.net_core.proofs.ties.tie_at.Goals as goal

pub returns : goal.returns
returns c =
    let program = c.args.program.now in
    let writers = c.args.writers.now.items in
    let s = c.stream_at-stream.result in
    let lw = c.requires.writers_len in
    let ls = c.stream_at-stream.ensures.inside in
    let at = slice_get_read writers _ s c.index-position.result.now refl (omega arith) c.index-position.ensures in
    record {
      inside = c.requires.position;
      stream = c.stream_at-stream.ensures.is;
      stream_in = ls;
      direction = c.writes_at-writes.ensures;
      depth = c.depth-depth.ensures.is;
      producer = c.producer-producer.ensures.is;
      producer_in = c.producer-producer.ensures.inside;
      writer = subst (IsWriter program s (producer_of program s)) (get_or_from_slice_get writers s c.index-position.result.now 0 at) (c.requires.writers s ls);
    }
