-- Programs run in one way, wherever they are in memory.
use Rattle.std.specs.Prelude.{◌≡◌, ℕ, List}
use Rattle.tapa_syntax.specs.declared.program.Program.{Program}
use Rattle.tapa_syntax.specs.Flat.{flat_program}
use Rattle.tapa_syntax.specs.WellFormed.{IsWellFormed}
use Rattle.run_program.specs.Run.{DoneRun, StoppedRun, LimitRun}
use Rattle.net_core.specs.Bounded.{Values}

-- how a run goes: its instances that are waited for end, with this report; it stops with this report and a line for each instance
-- that has not ended, which says what it waits for; or they make more ticks than they may, or never end
pub data RunMeaning : Type 0 where
  Done : (report : List ℕ) → RunMeaning
  Stopped : (report : List ℕ) (lines : List (List ℕ)) → RunMeaning
  Limit : RunMeaning

abbrev pub RunsAs : Program → Values → ℕ → RunMeaning → Type 0
RunsAs program values limit (Done report) = DoneRun program values limit report
RunsAs program values limit (Stopped report lines) = StoppedRun program values limit report lines
RunsAs program values limit Limit = LimitRun program values limit

-- of two programs that are one as plain data, one runs as the other does
abbrev pub ProgramsRunAlike : Type 0
ProgramsRunAlike = (p q : Program) → flat_program p ≡ flat_program q → (values : Values) (limit : ℕ) (m : RunMeaning) → RunsAs p values limit m → RunsAs q values limit m

-- a well-formed program runs in some way on all values, and in one way alone
abbrev pub ProgramsRunSomehow : Type 0
ProgramsRunSomehow = (program : Program) → IsWellFormed program → (values : Values) (limit : ℕ) → (m : RunMeaning) × RunsAs program values limit m

abbrev pub ProgramsRunOneWay : Type 0
ProgramsRunOneWay = (program : Program) → IsWellFormed program → (values : Values) (limit : ℕ) (m n : RunMeaning) → RunsAs program values limit m → RunsAs program values limit n → m ≡ n
