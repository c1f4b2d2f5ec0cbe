use Rattle.std.proofs.Common.{◌≡◌, drop}
use Rattle.stream_check.specs.Parts as parts
use Rattle.stream_check.specs.Views.{flat_of, flat_faults, with_parts}
use Rattle.stream_check.proofs.parts.Parts.streams.Given as goal

abbrev pub invariant-loop-channel : goal.invariant-loop-channel
invariant-loop-channel l = record {
  faults : flat_faults (flat_of l.initial.self) (parts.own_parts l.label l.channels) ≡ flat_faults (flat_of l.self) (parts.own_parts l.label (drop l.channel-index l.channels));
  after : with_parts (flat_of l.initial.self) (parts.own_parts l.label l.channels) ≡ with_parts (flat_of l.self) (parts.own_parts l.label (drop l.channel-index l.channels));
}
