-- Runs in which nets do not carry a program, so that `Carries` is not a statement that every run meets.
use Rattle.std.specs.Prelude.{◌≡◌, ℕ, suc, ◌+◌, ◌*◌, ◌<◌, ◌≤◌, Bool, List, [], Some, slice_get, slice_index}
use Rattle.tapa_syntax.specs.WellFormed.{IsWellFormed}
use Rattle.tapa_syntax.specs.declared.program.Program.{Program}
use Rattle.tapa_syntax.specs.declared.program.Stream.{Stream}
use Rattle.vlog_tree.specs.Cycle.{Cycle, Path}
use Rattle.vlog_tree.specs.Environment.{Environment, RaisesDone}
use Rattle.kahn_model.specs.Counts.{HasEnded, IsKahnPrefix, IsKahnStream}
use Rattle.kahn_model.specs.Ending.{IsLeastToEnd}
use Rattle.kahn_model.specs.Outcome.{IsJoined, IsDone, shown}
use Rattle.kahn_model.specs.Timed.{Clock, count_at, lost}
use Rattle.circuit_meaning.specs.Carries.{Carries, top_of, carried_by}
use Rattle.circuit_meaning.specs.Clock.{network, clock_of, all_answer}

-- A well-formed program that ends within a bound at count k. No added latency is greater than `most`, and all memories answer in all but
-- `waits` cycles.
pub record Ends (program : Program) (added : List ℕ) (env : Environment) (answers : ℕ → ℕ → Bool) (most waits bound : ℕ) (k : ℕ → ℕ) : Type 0 where
  pub well_formed : IsWellFormed program
  pub latency : (s : ℕ) → slice_index added s ≤ most
  pub ready : (n : ℕ) → lost (all_answer program answers) n ≤ waits
  pub run : IsDone (network program env) bound k

-- No circuit is stuck: if all memories answer in all but finitely many cycles, a stream of which an ending run shows a token does not stay empty.
abbrev pub StandingStill : Type 0
StandingStill =
    (program : Program) (added : List ℕ) (env : Environment) (answers : ℕ → ℕ → Bool) (nets : ℕ → Path → Cycle) (most waits bound : ℕ) (k : ℕ → ℕ)
    → Ends program added env answers most waits bound k
    → (s : ℕ) (q : Stream) → slice_get program.streams.items s ≡ Some q → IsJoined (network program env) q.producer → (shown (network program env) k s ≡ [] → ⊥)
    → ((n : ℕ) → carried_by nets q n ≡ []) → Carries program env (clock_of program added answers) nets → ⊥

-- no circuit raises done before a joined instance has ended
abbrev pub DoneBeforeAnEnd : Type 0
DoneBeforeAnEnd =
    (program : Program) (env : Environment) (clock : Clock) (nets : ℕ → Path → Cycle) (n i : ℕ) → i < (network program env).size → IsJoined (network program env) i
    → (HasEnded (network program env) (count_at (network program env) clock (suc n)) i → ⊥) → RaisesDone (top_of nets) (suc n) → Carries program env clock nets → ⊥

-- no circuit raises done before a stream of a joined producer has carried its whole Kahn stream
abbrev pub DoneBeforeTheWhole : Type 0
DoneBeforeTheWhole =
    (program : Program) → IsWellFormed program → (added : List ℕ) (env : Environment) (answers : ℕ → ℕ → Bool) (nets : ℕ → Path → Cycle) (s n : ℕ) (q : Stream)
    → slice_get program.streams.items s ≡ Some q → IsJoined (network program env) q.producer
    → (IsKahnStream (network program env) s (carried_by nets q n) → ⊥) → RaisesDone (top_of nets) n → Carries program env (clock_of program added answers) nets → ⊥

-- no circuit raises done later than the bound, if all memories answer in all but `waits` cycles and a run ends
abbrev pub DoneTooLate : Type 0
DoneTooLate =
    (program : Program) (added : List ℕ) (env : Environment) (answers : ℕ → ℕ → Bool) (nets : ℕ → Path → Cycle) (most waits bound : ℕ) (k : ℕ → ℕ)
    → Ends program added env answers most waits bound k
    → ((a : ℕ) → IsLeastToEnd (network program env) a → (n : ℕ) → n ≤ 1 + a * suc most + waits → RaisesDone (top_of nets) n → ⊥)
    → Carries program env (clock_of program added answers) nets → ⊥

-- no circuit carries a token that the Kahn stream does not have at that position
abbrev pub OtherTokens : Type 0
OtherTokens =
    (program : Program) → IsWellFormed program → (added : List ℕ) (env : Environment) (answers : ℕ → ℕ → Bool) (nets : ℕ → Path → Cycle) (s n : ℕ) (q : Stream)
    → slice_get program.streams.items s ≡ Some q → (IsKahnPrefix (network program env) s (carried_by nets q n) → ⊥)
    → Carries program env (clock_of program added answers) nets → ⊥
