-- What slots and cells show of a cycle.
use Rattle.std.specs.Prelude.{ℕ, ◌+◌, ◌*◌, ◌^◌, List, [], ◌∷◌, Option, Some, None, suc, get_or, slice_get, option_map, option_and_then, bytes_eq, if◌then◌else◌}
use Rattle.vlog_tree.specs.Form.{ModuleTree}
use Rattle.vlog_tree.specs.Cycle.{Path}
use Rattle.vlog_tree.specs.Loops.{instances}
use Rattle.vlog_tree.specs.Table.{Name, declared}
use Rattle.sim_tape.specs.declared.gates.Pair.{Pair}
use Rattle.sim_tape.specs.Operators.{Cells, cell_in}
use Rattle.sim_tape.specs.Tape.{pair_value}
use Rattle.sim_flat.specs.Rows.{row_at}
use Rattle.sim_flat.specs.declared.flat.Flat.{Flat}
use Rattle.sim_flat.specs.Places.{place_in}
use Rattle.cycle_sim.specs.Told.{TellTree}

-- the module of an instance by its number
abbrev pub module_of : List ModuleTree → Flat → ℕ → Option ModuleTree
module_of ms f k = slice_get ms (row_at f.instances.items k).kind

-- the first index of a name among instances
abbrev pub child_place : List (Name × Name) → Name → Option ℕ
child_place [] i = None
child_place (p ∷ ps) i = if bytes_eq p.1 i then Some 0 else option_map suc (child_place ps i)

-- the number of the instance at the end of a path
abbrev pub instance_at : List ModuleTree → Flat → Path → Option ℕ
instance_at ms f [] = Some 0
instance_at ms f (i ∷ path) =
    option_and_then (λ k. option_and_then (λ m. option_map (λ c. get_or f.first_child.items k 0 + c) (child_place (instances m) i)) (module_of ms f k)) (instance_at ms f path)

-- the number of a net by its path and its name
abbrev pub number_of : List ModuleTree → Flat → Path → Name → Option ℕ
number_of ms f path x =
    option_and_then (λ k. option_and_then (λ m. option_map (λ j. get_or f.first_net.items k 0 + j) (place_in (declared m) x)) (module_of ms f k)) (instance_at ms f path)

-- the number that a pair has, and 0 where there is none
abbrev pub number_told : List ℕ → Option Pair → ℕ
number_told ns None = 0
number_told ns (Some p) = pair_value ns p

abbrev pub cell_told : Cells → Option Pair → ℕ → ℕ
cell_told cells None a = 0
cell_told cells (Some q) a = cell_in cells q.high a * 2 ^ 64 + cell_in cells q.low a

-- the pair of a name, by pairs of numbers
abbrev pub pair_of : List ModuleTree → Flat → List (Option Pair) → Path → Name → Option Pair
pair_of ms f pairs path x = option_and_then (λ number. get_or pairs number None) (number_of ms f path x)

-- what slots and cells show of a design in a cycle
abbrev pub told_by : List ModuleTree → Flat → List (Option Pair) → List (Option Pair) → ℕ → Cells → List ℕ → TellTree
told_by ms f pairs memories cycle cells ns = record {
  cycle = cycle;
  number = λ path x. number_told ns (pair_of ms f pairs path x);
  cell = λ path x a. cell_told cells (pair_of ms f memories path x) a;
  outside = λ i. get_or cells i [];
}
