-- What is seen of a program's circuit in a run: each instance and each channel at its path, the streams at the nets of the
-- top, and the memories outside.
use Rattle.std.specs.Prelude.{ℕ, List, [], ◌∷◌, map, Bool, false, ◌==◌, Option, Some, None, option_map, unwrap_or, slice_get, slice_index_or}
use Rattle.tapa_base.specs.declared.token.Token.{Token}
use Rattle.tapa_base.specs.declared.token.Token.TheVariants.{Eot}
use Rattle.tapa_syntax.specs.declared.program.Instance.{Instance}
use Rattle.tapa_syntax.specs.declared.program.Program.{Program}
use Rattle.tapa_syntax.specs.declared.program.Stream.{Stream}
use Rattle.vlog_tree.specs.Cycle.{Cycle, Path}
use Rattle.vlog_tree.specs.Environment.{Environment, cells_at, token_of}
use Rattle.vlog_tree.specs.Labels.{s_din, s_wr, s_rdy}
use Rattle.vlog_tree.specs.Table.{Name}
use Rattle.hw_channel_laws.specs.signals.Contract.{ChannelPorts}
use Rattle.hw_channel_laws.specs.modules.Ports.{channel_ports}
use Rattle.hw_lines.specs.Signals.{Streams}
use Rattle.hw_top_lines.specs.Names.{s_has, s_dout, s_take, task_instance, channel_instance}
use Rattle.hw_top_lines.specs.Texts.{token_bits, stream_label, memory_name}

-- the label of an instance, by its number
abbrev pub instance_label : Program → ℕ → Name
instance_label program i = unwrap_or (option_map (λ (x : Instance). x.label) (slice_get program.instances.items i)) []

-- the numbers of its module in each cycle, and those at the ports of a stream's channel
abbrev pub instance_run : Program → (ℕ → Path → Cycle) → ℕ → ℕ → Cycle
instance_run program nets i n = nets n (task_instance (instance_label program i) ∷ [])

abbrev pub channel_run : Program → (ℕ → Path → Cycle) → ℕ → ChannelPorts
channel_run program nets s = channel_ports (λ n. nets n (channel_instance (stream_label program s) ∷ []))

-- whether a net of a stream is 1, and the token on it; past the program's streams there is none
abbrev pub bit_of : Option Stream → (Name → Name) → Cycle → Bool
bit_of None net c = false
bit_of (Some r) net c = c.net (net r.label) == 1

abbrev pub token_in : Option Stream → (Name → Name) → Cycle → Token
token_in None net c = Eot
token_in (Some r) net c = token_of (token_bits r.kind) (c.net (net r.label))

-- the two ends of each stream, by the nets of the top
abbrev pub streams_seen : Program → (ℕ → Path → Cycle) → Streams
streams_seen program nets = record {
  has = λ s n. bit_of (slice_get program.streams.items s) s_has (nets n []);
  dout = λ s n. token_in (slice_get program.streams.items s) s_dout (nets n []);
  take = λ s n. bit_of (slice_get program.streams.items s) s_take (nets n []);
  rdy = λ s n. bit_of (slice_get program.streams.items s) s_rdy (nets n []);
  wr = λ s n. bit_of (slice_get program.streams.items s) s_wr (nets n []);
  din = λ s n. token_in (slice_get program.streams.items s) s_din (nets n []);
}

-- the cells of a memory outside before the store of a cycle
abbrev pub memory_before : Program → Environment → (ℕ → Path → Cycle) → ℕ → ℕ → List ℕ
memory_before program env nets m n = cells_at (λ k. nets k []) (memory_name program m) (slice_index_or env.memories m []) n

-- those of the memories that an instance is bound to
abbrev pub rows_of : Program → Environment → (ℕ → Path → Cycle) → Option Instance → ℕ → List (List ℕ)
rows_of program env nets None n = []
rows_of program env nets (Some x) n = map (λ m. memory_before program env nets m n) x.memories.items

abbrev pub instance_rows : Program → Environment → (ℕ → Path → Cycle) → ℕ → ℕ → List (List ℕ)
instance_rows program env nets i n = rows_of program env nets (slice_get program.instances.items i) n
