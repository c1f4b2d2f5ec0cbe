-- What the circuit of a program carries in a run: the streams, cells, ends and requests of the timed counts.
use Rattle.std.specs.Prelude.{◌≡◌, ◌↔◌, ℕ, suc, List, [], Some, slice_get, slice_index_or}
use Rattle.tapa_base.specs.declared.token.Token.{Token}
use Rattle.tapa_syntax.specs.declared.program.Memory.{Memory}
use Rattle.tapa_syntax.specs.declared.program.Program.{Program}
use Rattle.tapa_syntax.specs.declared.program.Stream.{Stream}
use Rattle.vlog_tree.specs.Cycle.{Cycle, Path}
use Rattle.vlog_tree.specs.Environment.{Environment, cells_at, tokens, RaisesDone}
use Rattle.kahn_model.specs.Cells.{cells_at as cells_of}
use Rattle.kahn_model.specs.Counts.{written}
use Rattle.kahn_model.specs.Outcome.{HaveJoinedEnded}
use Rattle.kahn_model.specs.Timed.{Clock, count_at}
use Rattle.circuit_meaning.specs.Asked.{request_at, ShowsRequest}
use Rattle.circuit_meaning.specs.Clock.{network}
use Rattle.circuit_meaning.specs.Ports.{token_bits}

-- the numbers of the top's nets in each cycle
abbrev pub top_of : (ℕ → Path → Cycle) → ℕ → Cycle
top_of nets n = nets n []

-- what stream q has carried in the cycles from 1 to n
abbrev pub carried_by : (ℕ → Path → Cycle) → Stream → ℕ → List Token
carried_by nets q n = tokens (token_bits q.kind) (top_of nets) q.label n

-- In the cycles from 1 on the nets do what the timed counts of a clock say. `s` and `m` are the positions of stream `q` and memory `o` in the
-- program, and `count_at .. (suc n)` counts the ticks of the cycles 1 to n.
pub record Carries (program : Program) (env : Environment) (clock : Clock) (nets : ℕ → Path → Cycle) : Type 0 where
  -- each stream has carried what the timed counts write to it
  pub streams : (s n : ℕ) (q : Stream) → slice_get program.streams.items s ≡ Some q → carried_by nets q n ≡ written (network program env) (count_at (network program env) clock (suc n)) s
  -- each memory has the cells that the stores of the timed counts leave
  pub memories :
      (m n : ℕ) (o : Memory) → slice_get program.memories.items m ≡ Some o
      → cells_at (top_of nets) o.name (slice_index_or env.memories m []) (suc n) ≡ cells_of program env.scalars env.memories (count_at (network program env) clock (suc n)) m
  -- done is raised exactly in the cycles before which every joined instance has ended
  pub done : (n : ℕ) → RaisesDone (top_of nets) (suc n) ↔ HaveJoinedEnded (network program env) (count_at (network program env) clock (suc n))
  -- the ports of a memory show what the next tick of its instance requests, whether it is made in this cycle or not
  pub asks : (m n : ℕ) (o : Memory) → slice_get program.memories.items m ≡ Some o
      → ShowsRequest (top_of nets (suc n)) o.name (request_at program (network program env) (count_at (network program env) clock (suc n)) m)
