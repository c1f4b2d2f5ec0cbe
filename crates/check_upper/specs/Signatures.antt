-- What the parameters and streams of a task are where they lie in memory.
use Rattle.check_upper.specs.declared.channel.Channels.{Channels}
use Rattle.check_upper.specs.declared.parameter.Signature.{Signature}
use Rattle.check_upper.specs.Uppers as upper

abbrev pub signature_of : Signature → upper.Signature
signature_of h = record { scope = h.scope; streams = h.streams; memories = h.memories; scalars = h.scalars }

abbrev pub channels_of : Channels → upper.Channels
channels_of c = record { scope = c.scope; streams = c.streams.items }
