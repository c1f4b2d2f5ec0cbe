use Rattle.std.proofs.Common.{◌≡◌, take}
use Rattle.std.specs.List.{filter}
use Rattle.stream_arrays.specs.Words.{is_line_feed}
use Rattle.stream_arrays.specs.Writing.{writing, put}
use Rattle.stream_arrays.proofs.writer.Writer.line_feeds.Given as goal

abbrev pub invariant-loop-byte : goal.invariant-loop-byte
invariant-loop-byte l = writing l.self ≡ put (writing l.fn.self) (filter is_line_feed (take l.byte-index l.bytes))
