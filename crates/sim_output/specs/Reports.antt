-- The report of a design's run: what its streams carried, what the memories around it hold, and when it was done.
use Rattle.std.specs.Prelude.{◌≡◌, ℕ, List, [], ◌++◌, Option, Some, None, slice_index_or}
use Rattle.tapa_base.specs.declared.shape.Port.{Port}
use Rattle.tapa_base.specs.declared.token.Token.{Token}
use Rattle.run_data.specs.Report.{stream_line, memory_line, last_line}
use Rattle.run_data.specs.declared.lines.Last.{Last}
use Rattle.run_data.specs.declared.lines.Last.TheVariants.{Done, Running}
use Rattle.run_data.specs.Lines.{lines_from}
use Rattle.vlog_tree.specs.Form.{ModuleTree}
use Rattle.vlog_tree.specs.Cycle.{Cycle, Path}
use Rattle.vlog_tree.specs.Environment.{Environment, shape_of, streams_of, tokens, cells_at}
use Rattle.vlog_design.specs.Designs.{DesignTree, TopOf}
use Rattle.vlog_run_laws.specs.runs.Filled.{IsFilled}
use Rattle.vlog_run_laws.specs.runs.OneRun.{IsRunFrom}
use Rattle.cycle_sim.specs.Sims.{IsDoneAt, last_cycle}

-- the lines of streams, with the tokens of each by its index
abbrev pub stream_lines : (ℕ → List Token) → List Port → List ℕ
stream_lines carried streams = lines_from (λ (l : Port) i. stream_line l.name (carried i)) 0 streams

-- the lines of memories, with the cells of each by its index
abbrev pub memory_lines : (ℕ → List ℕ) → List Port → List ℕ
memory_lines cells memories = lines_from (λ (l : Port) i. memory_line l.name (cells i)) 0 memories

-- the lines of a top module's streams, with the tokens that they carry in the cycles from 1 to n
abbrev pub streams_to : ModuleTree → (ℕ → Cycle) → ℕ → List ℕ
streams_to top run n = lines_from (λ (l : Port) i. stream_line l.name (tokens l.bits run l.name n)) 0 (streams_of top)

-- the lines of the memories around it, with their cells in cycle n, before the store of that cycle
abbrev pub memories_at : ModuleTree → Environment → (ℕ → Cycle) → ℕ → List ℕ
memories_at top env run n = lines_from (λ (l : Port) i. memory_line l.name (cells_at run l.name (slice_index_or env.memories i []) n)) 0 (shape_of top).memories

-- the cycle in which the design is done, or the last that is gone over
abbrev pub last_of : ℕ → Option ℕ → Last
last_of limit None = Running limit
last_of limit (Some at) = Done at

-- the report of cycles 1 to n
abbrev pub report_to : ModuleTree → Environment → (ℕ → Cycle) → ℕ → Last → List ℕ
report_to top env run n last = (streams_to top run n ++ memories_at top env run n) ++ last_line last

-- A design runs in an environment from power-up with 0 in every register and every cell. It is done first in this cycle, or in
-- none up to a limit; and this is the report up to there.
pub record IsSimulated (design : DesignTree) (env : Environment) (limit : ℕ) (done_at : Option ℕ) (report : List ℕ) : Type 0 where
  pub top : ModuleTree
  pub is_top : TopOf design top
  pub contents : Path → Cycle
  pub zeros : IsFilled design.modules top 0 contents
  pub nets : ℕ → Path → Cycle
  pub run : IsRunFrom design.modules top env contents nets
  pub done : IsDoneAt (λ n. nets n []) limit done_at
  pub shown : report ≡ report_to top env (λ n. nets n []) (last_cycle limit done_at) (last_of limit done_at)

-- it is done first in this cycle, or in none up to a limit, with some report
abbrev pub IsSimulatedSo : DesignTree → Environment → ℕ → Option ℕ → Type 0
IsSimulatedSo design env limit done_at = (report : List ℕ) × IsSimulated design env limit done_at report
