-- What a simulation of a circuit's text shows of the program that the circuit is of: its streams, its memories and its end.
use Rattle.std.specs.Prelude.{◌≡◌, ℕ, suc, ◌+◌, ◌*◌, ◌≤◌, Bool, List, [], ◌++◌, Option, Some, slice_get, slice_index}
use Rattle.tapa_base.specs.declared.token.Token.{Token}
use Rattle.tapa_syntax.specs.WellFormed.{IsWellFormed}
use Rattle.tapa_syntax.specs.declared.program.Memory.{Memory}
use Rattle.tapa_syntax.specs.declared.program.Program.{Program}
use Rattle.tapa_syntax.specs.declared.program.Stream.{Stream}
use Rattle.vlog_tree.specs.Environment.{Environment}
use Rattle.kahn_model.specs.Cells.{cells_at}
use Rattle.kahn_model.specs.Counts.{written, IsKahnStream}
use Rattle.kahn_model.specs.Ending.{IsLeastToEnd}
use Rattle.kahn_model.specs.Outcome.{IsJoined, HaveJoinedEnded, IsDone, shown}
use Rattle.kahn_model.specs.Timed.{lost}
use Rattle.vlog_run_laws.specs.Beside.{answers_in}
use Rattle.circuit_meaning.specs.Clock.{network, counts, all_answer}
use Rattle.circuit_meaning.specs.Ports.{stream_ports, memory_ports}
use Rattle.run_data.specs.Data.{waits_of}
use Rattle.run_data.specs.Report.{last_line}
use Rattle.net_core.specs.Bounded.{Values}
use Rattle.sim_output.specs.Reports.{stream_lines, memory_lines, last_of}
use Rattle.cycle_sim.specs.Sims.{last_cycle}
use Rattle.command_source.specs.Inputs.{GivesValues}
use Rattle.command_build.specs.Built.{HasCircuit, IsCircuitText}
use Rattle.command_plan.specs.Planned.{HasPlan}
use Rattle.tapa_words.specs.declared.command.PlanMode.{PlanMode}
use Rattle.tapa_words.specs.declared.command.PlanAim.TheVariants.{Circuit}
use Rattle.tapa_words.specs.declared.command.CosimAim.TheVariants.{Report}
use Rattle.command_cosim.specs.Designs.{HasSimulated}

-- the values that an environment has for a program's scalars, and the first cells of its memories
abbrev pub values_in : Environment → Values
values_in env = record { scalars = env.scalars; memories = env.memories }

-- The text is JSON without a fault for the program, and gives this environment: its values, its first cells and the cycles in which each
-- memory is ready.
pub record GivesAround (program : Program) (bytes : List ℕ) (env : Environment) : Type 0 where
  pub values : GivesValues program bytes (values_in env)
  pub ready : env.ready ≡ waits_of values.shape values.file

-- what the timed counts have written to stream s in the cycles from 1 to n, where these latencies are added to the streams
abbrev pub written_to : Program → List ℕ → Environment → ℕ → ℕ → List Token
written_to program added env n s = written (network program env) (counts program added env (answers_in env) (suc n)) s

-- A report of at most `limit` cycles shows a program on the data, in whose environment its circuit was.
pub record ShowsProgram (program : Program) (added bytes : List ℕ) (limit : ℕ) (at : Option ℕ) (report : List ℕ) : Type 0 where
  pub env : Environment
  pub gives : GivesAround program bytes env
  pub cells : ℕ → List ℕ
  -- the report has a line for each stream, with what the timed counts wrote up to the last cycle, a line for each memory, and the last line
  pub lines :
      report ≡ (stream_lines (written_to program added env (last_cycle limit at)) (stream_ports program) ++ memory_lines cells (memory_ports program)) ++ last_line (last_of limit at)
  -- a memory has the cells of the timed counts before the last cycle
  pub holds :
      (m n : ℕ) (o : Memory) → slice_get program.memories.items m ≡ Some o → last_cycle limit at ≡ suc n
      → cells m ≡ cells_at program env.scalars env.memories (counts program added env (answers_in env) (suc n)) m
  -- if the circuit is done in a cycle, every joined instance has ended before it
  pub ended : (n : ℕ) → at ≡ Some n → HaveJoinedEnded (network program env) (counts program added env (answers_in env) n)
  -- if the circuit is done, a stream of a joined producer shows its whole Kahn stream
  pub whole :
      (n s : ℕ) (q : Stream) → at ≡ Some n → slice_get program.streams.items s ≡ Some q → IsJoined (network program env) q.producer
      → IsKahnStream (network program env) s (written_to program added env n s)
  -- if the circuit is done, a stream of a joined producer shows what is shown of it at every count at which the joined instances have ended
  pub as_run :
      (k : ℕ → ℕ) → HaveJoinedEnded (network program env) k → (n s : ℕ) (q : Stream) → at ≡ Some n → slice_get program.streams.items s ≡ Some q
      → IsJoined (network program env) q.producer
      → written_to program added env n s ≡ shown (network program env) k s
  -- if the circuit is done, the memory of a joined instance has the cells of every count at which the joined instances have ended
  pub leaves :
      (k : ℕ → ℕ) → HaveJoinedEnded (network program env) k → (n m : ℕ) (o : Memory) → at ≡ Some n → slice_get program.memories.items m ≡ Some o
      → IsJoined (network program env) o.owner
      → cells m ≡ cells_at program env.scalars env.memories k m
  -- If a run within some bound is done, the circuit is done in time: by the greatest added latency `most`, and the number `waits` of the
  -- cycles in which some memory is not ready by the data. `a`: the least number of ticks after which all joined instances have ended.
  pub in_time :
      (most waits : ℕ) → ((s : ℕ) → slice_index added s ≤ most) → ((n : ℕ) → lost (all_answer program (answers_in env)) n ≤ waits) → (bound : ℕ) (k : ℕ → ℕ)
      → IsDone (network program env) bound k
      → (a : ℕ) × IsLeastToEnd (network program env) a × (1 + a * suc most + waits ≤ limit → (n : ℕ) × (at ≡ Some n) × (n ≤ 1 + a * suc most + waits))

-- For every text of a circuit of a well-formed program, whatever latencies are added, each report shows the program.
abbrev pub CircuitTextsShowTheirProgram : Type 0
CircuitTextsShowTheirProgram =
    (program : Program) → IsWellFormed program → (added told bytes : List ℕ) (limit : ℕ) (at : Option ℕ) (report : List ℕ) → IsCircuitText program added told
    → HasSimulated Report told bytes limit at report → ShowsProgram program added bytes limit at report

-- For every source, each report on its circuit shows its program.
abbrev pub CircuitsShowTheirProgram : Type 0
CircuitsShowTheirProgram =
    (source top told bytes : List ℕ) (limit : ℕ) (at : Option ℕ) (report : List ℕ) → (h : HasCircuit source top told) → HasSimulated Report told bytes limit at report
    → ShowsProgram h.program [] bytes limit at report

-- For every plan of a source on a device, each report on the planned circuit shows the program with the latencies that the plan adds.
abbrev pub PlannedCircuitsShowTheirProgram : Type 0
PlannedCircuitsShowTheirProgram =
    (source top device told bytes : List ℕ) (mode : PlanMode) (balanced : Bool) (limit : ℕ) (at : Option ℕ) (report : List ℕ)
    → (h : HasPlan source top device mode (Circuit balanced) told) → HasSimulated Report told bytes limit at report
    → ShowsProgram h.program h.is.added bytes limit at report

-- Two circuits of a program with any latencies, on the same data, show the same of each stream of a joined producer and of each memory of a
-- joined instance, once both are done.
abbrev pub LatencyChangesNoReport : Type 0
LatencyChangesNoReport =
    (program : Program) (added more bytes : List ℕ) (limit most m n : ℕ) (report other : List ℕ) (a : ShowsProgram program added bytes limit (Some m) report)
    (b : ShowsProgram program more bytes most (Some n) other)
    → ((s : ℕ) (q : Stream) → slice_get program.streams.items s ≡ Some q → IsJoined (network program a.env) q.producer
    → written_to program added a.env m s ≡ written_to program more b.env n s)
    × ((x : ℕ) (o : Memory) → slice_get program.memories.items x ≡ Some o → IsJoined (network program a.env) o.owner → a.cells x ≡ b.cells x)
