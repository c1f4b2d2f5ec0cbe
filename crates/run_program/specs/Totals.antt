-- What a run makes and carries in all.
use Rattle.std.specs.Prelude.{◌≡◌, ℕ, zero, suc, ◌+◌, ◌%◌, ◌^◌, ◌<◌, List, length, sum_by}
use Rattle.tapa_base.specs.declared.token.Token.{Token}
use Rattle.tapa_base.specs.declared.token.Token.TheVariants.{Datum, Eot}
use Rattle.tapa_syntax.specs.declared.program.Program.{Program}
use Rattle.kahn_model.specs.Counts.{IsKahnStream}
use Rattle.kahn_model.specs.Outcome.{IsJoined, IsDone, shown}
use Rattle.run_data.specs.Lines.{lines_in}
use Rattle.run_program.specs.Run.{network, ticks_of, StoppedRun, LimitRun}
use Rattle.net_core.specs.Bounded.{Values}
use Rattle.run_program.specs.declared.totals.Totals.{Totals}
use Rattle.run_program.specs.declared.totals.TotalsEnd.{TotalsEnd}
use Rattle.run_program.specs.declared.totals.TotalsEnd.TheVariants.{Done, Stopped, Limit}

-- what a token adds to a sum; the end of a transaction adds nothing
abbrev pub datum_of : Token → ℕ
datum_of (Datum n) = n
datum_of Eot = 0

-- how many tokens the streams below n have, and their sum
abbrev pub tokens_below : ℕ → (ℕ → List Token) → ℕ
tokens_below zero tokens = 0
tokens_below (suc n) tokens = tokens_below n tokens + length (tokens n)

abbrev pub sum_below : ℕ → (ℕ → List Token) → ℕ
sum_below zero tokens = 0
sum_below (suc n) tokens = sum_below n tokens + sum_by datum_of (tokens n)

-- the totals of n streams that have these tokens, and of this number of ticks
pub record AreCarried (tokens : ℕ → List Token) (n ticks : ℕ) (t : Totals) : Type 0 where
  pub ticks_are : t.ticks ≡ ticks
  pub tokens_are : t.tokens ≡ tokens_below n tokens
  pub sum_is : t.sum ≡ sum_below n tokens % 2 ^ 64

-- every instance that is waited for ends, after at most `limit` ticks of them all. The totals are of those ticks, and of what is shown
-- of each stream: its whole Kahn stream where its producer is waited for
pub record IsTotalled (program : Program) (values : Values) (limit : ℕ) (t : Totals) : Type 0 where
  pub count : ℕ → ℕ
  pub done : IsDone (network program values) limit count
  pub whole :
      (s : ℕ) → s < length program.streams.items → IsJoined (network program values) ((network program values).producer s)
      → IsKahnStream (network program values) s (shown (network program values) count s)
  pub carried : AreCarried (shown (network program values) count) (length program.streams.items) (ticks_of program values count) t

-- how the run ended: with these totals, with lines that say what an instance waits for, or past its limit
abbrev pub TotalsEndSo : Program → Values → ℕ → TotalsEnd → Type 0
TotalsEndSo program values limit (Done totals) = IsTotalled program values limit totals
TotalsEndSo program values limit (Stopped lines) = (report : List ℕ) × StoppedRun program values limit report (lines_in lines.items)
TotalsEndSo program values limit Limit = LimitRun program values limit
