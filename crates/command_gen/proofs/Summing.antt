-- From what the run and the simulation of a network's program give to its summary, or to why there is none.
use Rattle.std.proofs.Common.{◌≡◌, ℕ, length, subst, inl, inr}
use Rattle.tapa_syntax.specs.declared.program.Program.{Program}
use Rattle.run_program.specs.declared.totals.Totals.{Totals}
use Rattle.command_answers.specs.Ends.{End}
use Rattle.command_answers.specs.Steps.{Fails}
use Rattle.command_answers.proofs.Taking.{fails_also}
use Rattle.command_gen.specs.Network.{IsCircuitDoneIn, HasTotals, IsSummaryOf, IsNotRun, IsNotDone, IsNotSummed}

module _ (ran seen program : Program) (same : ran ≡ program) (also : seen ≡ program) (totals : Totals) (run : HasTotals ran totals) where
  -- the run ended, and the circuit was not done
  pub not_done : (end : End) → Fails (IsNotDone seen) end → Fails (IsNotSummed program) end
  not_done end h = fails_also (IsNotDone seen) (IsNotSummed program) (λ why w. inr (totals, subst (λ (p : Program). HasTotals p totals) same run, subst (λ (p : Program). IsNotDone p why) also w)) end h

  pub summed : (tasks streams cycles : ℕ) → tasks ≡ length program.instances.items → streams ≡ length program.streams.items → IsCircuitDoneIn seen cycles
      → IsSummaryOf program (record { tasks = tasks; streams = streams; ticks = totals.ticks; tokens = totals.tokens; sum = totals.sum; cycles = cycles })
  summed tasks streams cycles has_tasks has_streams done = record {
    tasks = has_tasks;
    streams = has_streams;
    run = subst (λ (p : Program). HasTotals p totals) same run;
    done = subst (λ (p : Program). IsCircuitDoneIn p cycles) also done;
  }

-- the run did not end
pub not_run : (ran program : Program) → ran ≡ program → (end : End) → Fails (IsNotRun ran) end → Fails (IsNotSummed program) end
not_run ran program same end h = fails_also (IsNotRun ran) (IsNotSummed program) (λ why w. inl (subst (λ (p : Program). IsNotRun p why) same w)) end h
