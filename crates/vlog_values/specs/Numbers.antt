-- Numbers of nets and memories, as a module's numbers in a cycle.
use Rattle.std.specs.Prelude.{ℕ, ◌^◌, List, [], ◌∷◌, Option, Some, None, length, get_or, nat_lt, bytes_eq, if◌then◌else◌}
use Rattle.std.specs.Option.{option_map_or}
use Rattle.vlog_tree.specs.Cycle.{Cycle, Sizes}
use Rattle.vlog_tree.specs.Table.{Name}
use Rattle.vlog_values.specs.declared.numbers.NetNumber.{NetNumber}
use Rattle.vlog_values.specs.declared.numbers.MemoryCells.{MemoryCells}

-- the first of a name
abbrev pub first_net : List NetNumber → Name → Option NetNumber
first_net [] x = None
first_net (n ∷ ns) x = if bytes_eq n.name x then Some n else first_net ns x

abbrev pub first_memory : List MemoryCells → Name → Option MemoryCells
first_memory [] x = None
first_memory (n ∷ ns) x = if bytes_eq n.name x then Some n else first_memory ns x

-- what is not there is 0
abbrev pub net_in : List NetNumber → Name → ℕ
net_in ns x = option_map_or (λ (n : NetNumber). n.number) (first_net ns x) 0

abbrev pub bits_in : List NetNumber → Name → ℕ
bits_in ns x = option_map_or (λ (n : NetNumber). n.bits) (first_net ns x) 0

abbrev pub cells_in : List MemoryCells → Name → List ℕ
cells_in ns x = option_map_or (λ (n : MemoryCells). n.cells.items) (first_memory ns x) []

abbrev pub cycle_of : List NetNumber → List MemoryCells → Cycle
cycle_of nets memories = record { net = net_in nets; cell = λ m a. get_or (cells_in memories m) a 0 }

abbrev pub sizes_of : List NetNumber → List MemoryCells → Sizes
sizes_of nets memories = record { width = bits_in nets; cells = λ m. length (cells_in memories m) }

-- a number where it fits 128 bits
abbrev pub fitting : ℕ → Option ℕ
fitting n = if nat_lt n (2 ^ 128) then Some n else None
