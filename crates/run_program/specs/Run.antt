-- The run of a flat program on an input at its declared depths, within a limit on ticks: how it ends, what its report is, and
-- what a stopped one waits for.
use Rattle.std.specs.Prelude.{◌≡◌, ◌⊎◌, ◌<◌, if◌then◌else◌, ◌∷◌, ◌++◌}
use Rattle.std.specs.Prelude.{ℕ, suc, Bool, false, List, [], length, codes, option_map, unwrap_or, slice_get, slice_index_or, Some}
use Rattle.tapa_base.specs.declared.token.Token.{Token}
use Rattle.tapa_syntax.specs.declared.program.Instance.{Instance}
use Rattle.tapa_syntax.specs.declared.program.Memory.{Memory}
use Rattle.tapa_syntax.specs.declared.program.Program.{Program}
use Rattle.tapa_syntax.specs.declared.program.Stream.{Stream}
use Rattle.kahn_model.specs.Network.{Network}
use Rattle.kahn_model.specs.Counts.{written, HasEnded, IsKahnPrefix, IsKahnStream}
use Rattle.kahn_model.specs.Ending.{GoesPast}
use Rattle.kahn_model.specs.Outcome as outcome
use Rattle.kahn_model.specs.Outcome.{IsJoined, joined_ticks, IsDone, IsStopped, WaitsToRead, WaitsToWrite, HasBadToken}
use Rattle.kahn_model.specs.Start.{network_of}
use Rattle.kahn_model.specs.Cells.{cells_at, owner_of}
use Rattle.net_core.specs.Bindings.{detached_at}
use Rattle.net_core.specs.Bounded.{Values}
use Rattle.run_data.specs.Lines.{lines_from}
use Rattle.run_data.specs.Report.{stream_line, memory_line, last_line}
use Rattle.run_data.specs.declared.lines.Last.{Last}
use Rattle.run_data.specs.declared.lines.Last.TheVariants.{Done, Stopped, Running}

-- the network of a program on these values
abbrev pub network : Program → Values → Network
network program values = network_of program values.scalars values.memories

-- the ticks of the instances that are waited for
abbrev pub ticks_of : Program → Values → (ℕ → ℕ) → ℕ
ticks_of program values k = joined_ticks (network program values) k

-- no position is bound to this memory
abbrev pub IsNotBound : List ℕ → ℕ → Type 0
IsNotBound bound m = (p : ℕ) → slice_get bound p ≡ Some m → ⊥

-- ---- the report

-- what a report with this last line shows of stream s: what was written where the run stopped; where it is done, what was
-- written by a producer that is waited for, else what was taken by a consumer that is, else nothing
abbrev pub tokens_at : Network → (ℕ → ℕ) → Last → ℕ → List Token
tokens_at net k (Done t) s = outcome.shown net k s
tokens_at net k (Stopped t) s = written net k s
tokens_at net k (Running t) s = written net k s

-- where a run is done, a report does not show what a detached instance has done to a memory
abbrev pub hides_stores : Program → Last → ℕ → Bool
hides_stores program (Done t) m = detached_at program (owner_of (slice_get program.memories.items m))
hides_stores program (Stopped t) m = false
hides_stores program (Running t) m = false

-- what it shows of memory m: the cells at the count, or the first ones. A memory of a detached instance is const in a legal
-- source, so that no store changes it
abbrev pub cells_shown : Program → Values → (ℕ → ℕ) → Last → ℕ → List ℕ
cells_shown program values k last m = if hides_stores program last m then slice_index_or values.memories m [] else cells_at program values.scalars values.memories k m

-- the lines of the streams from number s on, with the tokens of each
abbrev pub stream_lines : (ℕ → List Token) → ℕ → List Stream → List ℕ
stream_lines tokens s streams = lines_from (λ (r : Stream) n. stream_line r.label (tokens n)) s streams

-- the lines of the memories from number m on, with the cells of each
abbrev pub memory_lines : (ℕ → List ℕ) → ℕ → List Memory → List ℕ
memory_lines cells m memories = lines_from (λ (r : Memory) n. memory_line r.name (cells n)) m memories

-- the lines of the streams and the memories at a count
abbrev pub lines_at : Program → Values → (ℕ → ℕ) → Last → List ℕ
lines_at program values k last =
    stream_lines (tokens_at (network program values) k last) 0 program.streams.items ++ memory_lines (cells_shown program values k last) 0 program.memories.items

-- the report at a count
abbrev pub report_of : Program → Values → (ℕ → ℕ) → Last → List ℕ
report_of program values k last = lines_at program values k last ++ last_line last

-- ---- what an instance waits for

abbrev pub label_of : List Stream → ℕ → List ℕ
label_of streams s = unwrap_or (option_map (λ (r : Stream). r.label) (slice_get streams s)) []

-- an instance, what it waits for, and a stream
abbrev pub wait_line : List ℕ → List ℕ → List ℕ → List ℕ
wait_line label what stream = codes "tapa: " ++ (label ++ (what ++ (stream ++ codes "\n")))

abbrev pub read_line : List ℕ → List ℕ → List ℕ
read_line label stream = wait_line label (codes " waits to read ") stream

abbrev pub write_line : List ℕ → List ℕ → List ℕ
write_line label stream = wait_line label (codes " waits to write ") stream

abbrev pub bad_line : List ℕ → List ℕ → List ℕ
bad_line label stream = wait_line label (codes " bad token on ") stream

-- the line of instance i, by what it waits for
abbrev pub IsWaitLine : Network → (ℕ → ℕ) → List Stream → ℕ → List ℕ → List ℕ → Type 0
IsWaitLine net k streams i label line =
    (s : ℕ) × ((WaitsToRead net k i s × (line ≡ read_line label (label_of streams s)))
    ⊎ ((WaitsToWrite net k i s × (line ≡ write_line label (label_of streams s))) ⊎ (HasBadToken net k i s × (line ≡ bad_line label (label_of streams s)))))

-- the lines of the instances from number i on, in order, one for each that has not ended
abbrev pub AreWaitLines : Network → (ℕ → ℕ) → List Stream → ℕ → List Instance → List (List ℕ) → Type 0
AreWaitLines net k streams i [] lines = lines ≡ []
AreWaitLines net k streams i (x ∷ rest) lines =
    (HasEnded net k i × AreWaitLines net k streams (suc i) rest lines)
    ⊎ ((line : List ℕ) × (more : List (List ℕ)) × (lines ≡ line ∷ more) × IsWaitLine net k streams i x.label line × AreWaitLines net k streams (suc i) rest more)

-- ---- how a run ends

-- every instance that is waited for ends, after at most `limit` ticks of them all; the report shows of each stream a prefix of its
-- Kahn stream, all of it where its producer is waited for, and the last cells of each memory
pub record DoneRun (program : Program) (values : Values) (limit : ℕ) (report : List ℕ) : Type 0 where
  pub count : ℕ → ℕ
  pub done : IsDone (network program values) limit count
  pub front : (s : ℕ) → s < length program.streams.items → IsKahnPrefix (network program values) s (outcome.shown (network program values) count s)
  pub whole :
      (s : ℕ) → s < length program.streams.items → IsJoined (network program values) ((network program values).producer s)
      → IsKahnStream (network program values) s (outcome.shown (network program values) count s)
  pub shown : report ≡ report_of program values count (Done (ticks_of program values count))

-- no step is allowed and some instance that is waited for has not ended, after at most `limit` ticks of them all; the report shows
-- what was written, and the lines say what each instance that has not ended waits for
pub record StoppedRun (program : Program) (values : Values) (limit : ℕ) (report : List ℕ) (lines : List (List ℕ)) : Type 0 where
  pub count : ℕ → ℕ
  pub stopped : IsStopped (network program values) limit count
  pub shown : report ≡ report_of program values count (Stopped (ticks_of program values count))
  pub waits : AreWaitLines (network program values) count program.streams.items 0 program.instances.items lines

-- neither done nor stopped where no instance makes more than `limit` ticks: those waited for make more in all, or never end
abbrev pub LimitRun : Program → Values → ℕ → Type 0
LimitRun program values limit = GoesPast (network program values) limit
