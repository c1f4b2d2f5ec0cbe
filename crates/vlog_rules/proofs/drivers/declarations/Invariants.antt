use Rattle.std.proofs.Common.{◌≡◌, ℕ, List, map, drop}
use Rattle.vlog_tree.specs.declared.table.Declaration.{Declaration}
use Rattle.vlog_scope.specs.NameTable.{CountsTo}
use Rattle.vlog_rules.specs.Drives.{CountsPlaces}
use Rattle.vlog_tree.specs.Table.{NameUse, first_violation}
use Rattle.vlog_tree.specs.V4.{breaks_driving}
use Rattle.vlog_rules.proofs.drivers.declarations.Given as goal

abbrev uses : (List ℕ → ℕ) → (List ℕ → ℕ) → Declaration → NameUse
uses f g d = (d.name, breaks_driving (f d.name) (g d.name) d.net_kind)

abbrev pub invariant-loop-d : goal.invariant-loop-d
invariant-loop-d l =
    (f g : List ℕ → ℕ) → CountsPlaces l.scope l.drives f → CountsTo l.blocks g
    → first_violation (map (uses f g) l.scope) ≡ first_violation (map (uses f g) (drop l.d-index l.scope))
