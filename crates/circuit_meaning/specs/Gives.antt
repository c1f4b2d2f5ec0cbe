-- What follows if a circuit carries its program's streams.
use Rattle.std.specs.Prelude.{◌≡◌, ℕ, suc, ◌+◌, ◌*◌, ◌≤◌, Bool, true, false, List, [], Some, slice_get, slice_index, slice_index_or}
use Rattle.tapa_syntax.specs.WellFormed.{IsWellFormed}
use Rattle.tapa_syntax.specs.declared.program.Memory.{Memory}
use Rattle.tapa_syntax.specs.declared.program.Program.{Program}
use Rattle.tapa_syntax.specs.declared.program.Stream.{Stream}
use Rattle.vlog_tree.specs.Labels.{m_addr, m_wdata, m_we}
use Rattle.vlog_tree.specs.Cycle.{Cycle, Path}
use Rattle.vlog_tree.specs.Environment.{Environment, cells_at, RaisesDone}
use Rattle.vlog_tree.specs.Table.{Name}
use Rattle.kahn_model.specs.Cells.{cells_at as cells_of}
use Rattle.kahn_model.specs.Counts.{IsKahnPrefix, IsKahnStream}
use Rattle.kahn_model.specs.Ending.{IsLeastToEnd}
use Rattle.kahn_model.specs.Outcome.{IsJoined, HaveJoinedEnded, IsDone, shown}
use Rattle.kahn_model.specs.Timed.{lost}
use Rattle.circuit_meaning.specs.Asked.{Nothing, request_at}
use Rattle.circuit_meaning.specs.Carries.{Carries, carried_by, top_of}
use Rattle.circuit_meaning.specs.Clock.{network, clock_of, counts, all_answer}
use Rattle.circuit_meaning.specs.Pace.{KeepsPace, AreAnswered}

-- what nets give that carry a program by the clock of these added latencies and answers
pub record Gives (program : Program) (added : List ℕ) (env : Environment) (answers : ℕ → ℕ → Bool) (nets : ℕ → Path → Cycle) : Type 0 where
  -- in every cycle each stream has carried a prefix of its Kahn stream
  pub begins : (s n : ℕ) (q : Stream) → slice_get program.streams.items s ≡ Some q → IsKahnPrefix (network program env) s (carried_by nets q n)
  -- once done is raised, a stream of a joined producer has carried its whole Kahn stream
  pub whole :
      (s n m : ℕ) (q : Stream) → slice_get program.streams.items s ≡ Some q → RaisesDone (top_of nets) n → n ≤ m → IsJoined (network program env) q.producer
      → IsKahnStream (network program env) s (carried_by nets q m)
  -- once done is raised, a stream of a joined producer has carried what is shown of it at every count at which the joined instances have ended
  pub shows :
      (k : ℕ → ℕ) → HaveJoinedEnded (network program env) k → (s n m : ℕ) (q : Stream) → slice_get program.streams.items s ≡ Some q
      → RaisesDone (top_of nets) n → n ≤ m → IsJoined (network program env) q.producer → carried_by nets q m ≡ shown (network program env) k s
  -- once done is raised, the memory of a joined instance has the cells of every count at which the joined instances have ended
  pub leaves :
      (k : ℕ → ℕ) → HaveJoinedEnded (network program env) k → (m n l : ℕ) (o : Memory) → slice_get program.memories.items m ≡ Some o
      → RaisesDone (top_of nets) n → n ≤ l → IsJoined (network program env) o.owner
      → cells_at (top_of nets) o.name (slice_index_or env.memories m []) l ≡ cells_of program env.scalars env.memories k m
  -- once raised, done is raised in every later cycle
  pub stays : (n m : ℕ) → RaisesDone (top_of nets) n → n ≤ m → RaisesDone (top_of nets) m
  -- once done is raised, nothing is stored in the memory of a joined instance
  pub quiet : (m n l : ℕ) (o : Memory) → slice_get program.memories.items m ≡ Some o → RaisesDone (top_of nets) n → n ≤ l → IsJoined (network program env) o.owner
      → (top_of nets l).net (m_we o.name) ≡ 0
  -- a request that is not answered is made in the next cycle, too
  pub holds :
      (m n : ℕ) (o : Memory) → slice_get program.memories.items m ≡ Some o → (request_at program (network program env) (counts program added env answers (suc n)) m ≡ Nothing → ⊥)
      → answers m (suc n) ≡ false
      → request_at program (network program env) (counts program added env answers (suc (suc n))) m ≡ request_at program (network program env) (counts program added env answers (suc n)) m
  -- every instance keeps its pace, and no stream holds more tokens than its channel has room for
  pub pace : (most : ℕ) → ((s : ℕ) → slice_index added s ≤ most) → KeepsPace (network program env) (clock_of program added answers) most
  -- If the cycles up to some limit in which every memory answers suffice, done is raised in time: the bound grows by one for each cycle in
  -- which some memory does not answer. `most`: no added latency is greater. `bound`: some run ends within this number of ticks. `a`: the
  -- least number of ticks of all instances, detached ones included, with which all joined instances can have ended.
  pub in_time :
      (most : ℕ) → ((s : ℕ) → slice_index added s ≤ most) → (bound : ℕ) (k : ℕ → ℕ) → IsDone (network program env) bound k
      → (a : ℕ) × IsLeastToEnd (network program env) a
      × ((limit : ℕ) → 1 + a * suc most + lost (all_answer program answers) limit ≤ limit → (n : ℕ) × RaisesDone (top_of nets) n
      × (n ≤ 1 + a * suc most + lost (all_answer program answers) n))
  -- if no added latency is greater than `late`, and each request is answered within `late` cycles, done is raised by cycle 1 + a * (late + 1),
  -- whatever memories do of which nothing is requested
  pub prompt :
      (late : ℕ) → ((s : ℕ) → slice_index added s ≤ late) → AreAnswered (network program env) (clock_of program added answers) late → (bound : ℕ) (k : ℕ → ℕ)
      → IsDone (network program env) bound k
      → (a : ℕ) × IsLeastToEnd (network program env) a × ((n : ℕ) × RaisesDone (top_of nets) n × (n ≤ 1 + a * suc late))

-- For every well-formed program, nets that carry it give this.
abbrev pub CarryingGives : Type 0
CarryingGives =
    (program : Program) → IsWellFormed program → (added : List ℕ) (env : Environment) (answers : ℕ → ℕ → Bool) (nets : ℕ → Path → Cycle)
    → Carries program env (clock_of program added answers) nets → Gives program added env answers nets

-- ---- memories that answer requests that stay

-- the ports of a memory request in cycle j what they request in cycle n
pub record StaysAsked (run : ℕ → Cycle) (x : Name) (n j : ℕ) : Type 0 where
  pub we : (run j).net (m_we x) ≡ (run n).net (m_we x)
  pub addr : (run j).net (m_addr x) ≡ (run n).net (m_addr x)
  pub wdata : (run n).net (m_we x) ≡ 1 → (run j).net (m_wdata x) ≡ (run n).net (m_wdata x)

-- A memory answers a request that stays on its ports from cycle n to n + late in one of these cycles.
abbrev pub AnswersWhatStays : (ℕ → Cycle) → Name → (ℕ → Bool) → ℕ → Type 0
AnswersWhatStays run x answers late =
    (n : ℕ) → 1 ≤ n → ((j : ℕ) → n ≤ j → j ≤ n + late → StaysAsked run x n j) → (m : ℕ) × (n ≤ m) × (m ≤ n + late) × (answers m ≡ true)

-- If each memory does so, each request is answered within `late` cycles.
abbrev pub SteadyMemoriesAnswer : Type 0
SteadyMemoriesAnswer =
    (program : Program) → IsWellFormed program → (added : List ℕ) (env : Environment) (answers : ℕ → ℕ → Bool) (nets : ℕ → Path → Cycle)
    → Carries program env (clock_of program added answers) nets → (late : ℕ)
    → ((m : ℕ) (o : Memory) → slice_get program.memories.items m ≡ Some o → AnswersWhatStays (top_of nets) o.name (answers m) late)
    → AreAnswered (network program env) (clock_of program added answers) late
