-- The numbers of memories inside a design, as they are given.
use Rattle.std.specs.Prelude.{◌≡◌, ℕ, ◌+◌, ◌*◌, ◌-◌, ◌<◌, true, List, [], ◌∷◌, Option, Some, None, length, get_or, slice_get, option_and_then, if◌then◌else◌}
use Rattle.vlog_tree.specs.declared.table.Declaration.{Declaration}
use Rattle.vlog_tree.specs.Table.{net_kind_is_memory}
use Rattle.sim_tape.specs.declared.gates.Pair.{Pair}
use Rattle.sim_flat.specs.declared.flat.Flat.{Flat}
use Rattle.sim_flat.specs.declared.tables.Table.{Table}
use Rattle.sim_flat.specs.Edges.{table_at, base_at}
use Rattle.sim_design.specs.declared.drafts.Width.{Width}

-- the declaration of a number's name
abbrev pub declaration_at : Flat → ℕ → Option Declaration
declaration_at f number = option_and_then (λ (k : ℕ). option_and_then (λ (t : Table). slice_get t.scope (number - base_at f k)) (table_at f k)) (slice_get f.owners.items number)

-- the numbers of the lists of a memory inside, after those outside
abbrev pub memory_pair : ℕ → ℕ → Pair
memory_pair outside i = record { low = outside + 2 * i; high = outside + 2 * i + 1 }

-- what a name has, where `count` memories come before it
abbrev pub number_for : ℕ → ℕ → Option Declaration → Option Pair
number_for outside count None = None
number_for outside count (Some d) = if net_kind_is_memory d.net_kind then Some (memory_pair outside count) else None

abbrev pub widths_for : ℕ → ℕ → Option Declaration → List Width
widths_for outside count None = []
widths_for outside count (Some d) = if net_kind_is_memory d.net_kind then record { pair = memory_pair outside count; bits = d.bits; cells = d.cells } ∷ [] else []

-- a memory has the numbers of one index
pub record IsMemoryAt (outside : ℕ) (numbers : List (Option Pair)) (widths : List Width) (number : ℕ) (d : Declaration) : Type 0 where
  pub place : ℕ
  pub width : slice_get widths place ≡ Some (record { pair = memory_pair outside place; bits = d.bits; cells = d.cells })
  pub numbered : get_or numbers number None ≡ Some (memory_pair outside place)

-- a name that has numbers is a memory, and they are those of an index
pub record IsMemoryOf (f : Flat) (outside count number : ℕ) (q : Pair) : Type 0 where
  pub declaration : Declaration
  pub declared_at : declaration_at f number ≡ Some declaration
  pub kind : net_kind_is_memory declaration.net_kind ≡ true
  pub place : ℕ
  pub low : place < count
  pub is : q.low ≡ outside + 2 * place

-- the memories among the first names
pub record AreNumbersBelow (f : Flat) (outside : ℕ) (numbers : List (Option Pair)) (widths : List Width) : Type 0 where
  pub all : (number : ℕ) (d : Declaration) → number < length numbers → declaration_at f number ≡ Some d
      → net_kind_is_memory d.net_kind ≡ true → IsMemoryAt outside numbers widths number d
  pub only : (number : ℕ) (q : Pair) → get_or numbers number None ≡ Some q → IsMemoryOf f outside (length widths) number q
  pub own : (number other : ℕ) (p q : Pair) → get_or numbers number None ≡ Some p → get_or numbers other None ≡ Some q → p.low ≡ q.low → number ≡ other
