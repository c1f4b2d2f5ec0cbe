use Rattle.std.proofs.Common.{◌≡◌, drop, length, map}
use Rattle.tapa_syntax.specs.Trees as tree
use Rattle.check_upper.specs.Signatures.{channels_of}
use Rattle.check_upper.specs.Uppers as upper
use Rattle.check_upper.proofs.channel.Channels.streams.Given as goal

abbrev pub invariant-loop-stream : goal.invariant-loop-stream
invariant-loop-stream l = record {
  count : length l.self.scope ≡ length l.initial.self.scope;
  faults : upper.streams_faults (channels_of l.initial.self) (map tree.stream_of l.streams) ≡ upper.streams_faults (channels_of l.self) (map tree.stream_of (drop l.stream-index l.streams));
  after : upper.after_streams (channels_of l.initial.self) (map tree.stream_of l.streams) ≡ upper.after_streams (channels_of l.self) (map tree.stream_of (drop l.stream-index l.streams));
}
