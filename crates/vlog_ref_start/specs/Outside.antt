-- The environment of a design in cycle 0.
use Rattle.std.specs.Prelude.{ℕ, ◌+◌, Bool, List, [], ◌∷◌, Vec, map, slice_index, slice_index_or}
use Rattle.std.specs.declared.alloc.Global.{Global}
use Rattle.tapa_base.specs.declared.shape.Port.{Port}
use Rattle.vlog_tree.specs.Environment.{Environment}
use Rattle.vlog_tree.specs.Table.{Name}
use Rattle.vlog_values.specs.declared.numbers.NetNumber.{NetNumber}
use Rattle.vlog_values.specs.declared.moment.OutsideMemory.{OutsideMemory}
use Rattle.vlog_design.specs.declared.env.Env.{Env}

-- labels with the numbers from an index on
abbrev pub labelled_from : ℕ → List Port → List ℕ → List NetNumber
labelled_from i [] numbers = []
labelled_from i (l ∷ labels) numbers = record { name = l.name; bits = l.bits; number = slice_index numbers i } ∷ labelled_from (i + 1) labels numbers

-- a memory around a design, without where it lies in memory
pub record OutsideTree : Type 0 where
  pub name : Name
  pub cells : List ℕ
  pub ready : List Bool

abbrev pub outside_tree : OutsideMemory → OutsideTree
outside_tree o = record { name = o.name; cells = o.cells.items; ready = o.ready.items }

-- labels with the cells and ready bits from an index on
abbrev pub outside_from : ℕ → List Port → Environment → List OutsideTree
outside_from i [] env = []
outside_from i (l ∷ labels) env = record { name = l.name; cells = slice_index_or env.memories i []; ready = slice_index_or env.ready i [] } ∷ outside_from (i + 1) labels env
