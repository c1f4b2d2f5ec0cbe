-- The ports of a circuit.
use Rattle.std.specs.Prelude.{◌≡◌}
use Rattle.vlog_tree.specs.Environment.{shape_of, streams_of}
use Rattle.hw_top_lines.specs.Legal.{scalar_ports, memory_ports, stream_ports}
use Rattle.hw_top_lines.specs.Texts.{top_tree}
use Rattle.hw_top_laws.specs.modules.Lower.{OfReady}

abbrev pub TopsHaveScalars : Type 0
TopsHaveScalars = OfReady (λ program machines added. (shape_of (top_tree program added)).scalars ≡ scalar_ports program)

abbrev pub TopsHaveMemories : Type 0
TopsHaveMemories = OfReady (λ program machines added. (shape_of (top_tree program added)).memories ≡ memory_ports program)

abbrev pub TopsHaveStreams : Type 0
TopsHaveStreams = OfReady (λ program machines added. streams_of (top_tree program added) ≡ stream_ports program)
