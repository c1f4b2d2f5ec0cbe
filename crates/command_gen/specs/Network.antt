-- The summary of a generated network, and why there is none.
use Rattle.std.specs.Prelude.{◌≡◌, ◌⊎◌, ◌<◌, ◌≤◌, ℕ, List, [], length, Option, Some, None}
use Rattle.tapa_syntax.specs.declared.program.Program.{Program}
use Rattle.kahn_model.specs.Outcome.{HaveJoinedEnded}
use Rattle.tapa_words.specs.Words.{default_limit, default_cycles}
use Rattle.vlog_design.specs.Designs.{DesignTree}
use Rattle.circuit_meaning.specs.Circuits.{IsCircuitOf}
use Rattle.circuit_meaning.specs.Clock.{counts}
use Rattle.vlog_run_laws.specs.Beside.{answers_in}
use Rattle.run_program.specs.Run.{network, StoppedRun, LimitRun}
use Rattle.run_program.specs.Totals.{IsTotalled}
use Rattle.run_program.specs.declared.totals.Totals.{Totals}
use Rattle.sim_output.specs.Reports.{IsSimulatedSo}
use Rattle.command_gen.specs.declared.lines.Summary.{Summary}
use Rattle.command_answers.specs.Refusal.{Refusal, Ticks, Stopped, Undone}
use Rattle.command_gen.specs.Nothing.{no_values, no_environment}

-- the program's circuit, without added latencies, is done first in this cycle, or in none up to the limit
abbrev pub IsCircuitDoneAt : Program → Option ℕ → Type 0
IsCircuitDoneAt program at = (design : DesignTree) × IsCircuitOf program [] design × IsSimulatedSo design (no_environment program) default_cycles at

-- it is done first in this cycle, the first one before which by the timed counts every instance that is waited for has ended
pub record IsCircuitDoneIn (program : Program) (cycle : ℕ) : Type 0 where
  pub simulated : IsCircuitDoneAt program (Some cycle)
  pub ended : HaveJoinedEnded (network program (no_values program)) (counts program [] (no_environment program) (answers_in (no_environment program)) cycle)
  pub first : (n : ℕ) → 1 ≤ n → n < cycle → HaveJoinedEnded (network program (no_values program)) (counts program [] (no_environment program) (answers_in (no_environment program)) n) → ⊥

-- its run ends, with these totals
abbrev pub HasTotals : Program → Totals → Type 0
HasTotals program totals = IsTotalled program (no_values program) default_limit totals

-- the numbers of a program
pub record IsSummaryOf (program : Program) (s : Summary) : Type 0 where
  -- its instances and its streams
  pub tasks : s.tasks ≡ length program.instances.items
  pub streams : s.streams ≡ length program.streams.items
  -- the ticks of its run, and the tokens of its streams
  pub run : HasTotals program (record { ticks = s.ticks; tokens = s.tokens; sum = s.sum })
  -- the cycle in which its circuit is done
  pub done : IsCircuitDoneIn program s.cycles

-- why a program's run does not end: its instances that are waited for make more ticks than a run may, or it stops
abbrev pub IsNotRun : Program → Refusal → Type 0
IsNotRun program (Ticks most) = (most ≡ default_limit) × LimitRun program (no_values program) default_limit
IsNotRun program (Stopped lines) = (report : List ℕ) × StoppedRun program (no_values program) default_limit report lines
IsNotRun program _ = ⊥

-- why its circuit is not done: it is not within the default limit of cycles
abbrev pub IsNotDone : Program → Refusal → Type 0
IsNotDone program (Undone most) = (most ≡ default_cycles) × IsCircuitDoneAt program None
IsNotDone program _ = ⊥

-- its run does not end, or it does and the circuit is not done
abbrev pub IsNotSummed : Program → Refusal → Type 0
IsNotSummed program why = IsNotRun program why ⊎ ((totals : Totals) × HasTotals program totals × IsNotDone program why)
