-- The clock of a program's circuit: the added latency of each stream, and the cycles in which the memories around it answer.
use Rattle.std.specs.Prelude.{ℕ, zero, suc, List, length, Bool, true, ◌&&◌, Option, Some, None, slice_get, slice_index}
use Rattle.tapa_syntax.specs.declared.program.Instance.{Instance}
use Rattle.tapa_syntax.specs.declared.program.Program.{Program}
use Rattle.vlog_tree.specs.Environment.{Environment}
use Rattle.kahn_model.specs.Network.{Network}
use Rattle.kahn_model.specs.Start.{network_of}
use Rattle.kahn_model.specs.Timed.{Clock, count_at}

-- the network of a program on the environment's scalars and cells
abbrev pub network : Program → Environment → Network
network program env = network_of program env.scalars env.memories

-- Whether the memory of a position, if there is one, answers in cycle n. A position without a memory waits for nothing.
abbrev pub answer_of : (ℕ → ℕ → Bool) → Option ℕ → ℕ → Bool
answer_of answers None n = true
answer_of answers (Some m) n = answers m n

-- whether the memory of position p of an instance answers in cycle n
abbrev pub bound_answers : (ℕ → ℕ → Bool) → Option Instance → ℕ → ℕ → Bool
bound_answers answers None p n = true
bound_answers answers (Some x) p n = answer_of answers (slice_get x.memories.items p) n

-- The clock with these added latencies. `answers m n`: whether memory m answers in cycle n.
abbrev pub clock_of : Program → List ℕ → (ℕ → ℕ → Bool) → Clock
clock_of program added answers = record { latency = slice_index added; answers = λ i. bound_answers answers (slice_get program.instances.items i) }

-- the number of ticks that each instance has made before cycle n
abbrev pub counts : Program → List ℕ → Environment → (ℕ → ℕ → Bool) → ℕ → ℕ → ℕ
counts program added env answers n = count_at (network program env) (clock_of program added answers) n

-- whether each of the first k memories answers in cycle n
abbrev pub each_answers : (ℕ → ℕ → Bool) → ℕ → ℕ → Bool
each_answers answers zero n = true
each_answers answers (suc k) n = each_answers answers k n && answers k n

-- whether each of the program's memories answers in cycle n
abbrev pub all_answer : Program → (ℕ → ℕ → Bool) → ℕ → Bool
all_answer program answers n = each_answers answers (length program.memories.items) n
