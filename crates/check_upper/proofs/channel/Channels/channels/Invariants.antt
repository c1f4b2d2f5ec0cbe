use Rattle.std.proofs.Common.{◌≡◌, drop, length}
use Rattle.check_upper.specs.Signatures.{channels_of}
use Rattle.check_upper.specs.Uppers as upper
use Rattle.check_upper.proofs.channel.Channels.channels.Given as goal

abbrev pub invariant-loop-name : goal.invariant-loop-name
invariant-loop-name l = record {
  count : length l.self.scope ≡ length l.initial.self.scope;
  faults : upper.channels_faults l.kind l.depth (channels_of l.initial.self) l.names ≡ upper.channels_faults l.kind l.depth (channels_of l.self) (drop l.name-index l.names);
  after : upper.with_channels l.kind l.depth (channels_of l.initial.self) l.names ≡ upper.with_channels l.kind l.depth (channels_of l.self) (drop l.name-index l.names);
}
