-- A line of an instance that drives a net.
use Rattle.std.specs.Prelude.{◌≡◌, ℕ, ◌<◌, List, Some, length, get_or, slice_get}
use Rattle.tapa_base.specs.declared.shape.Port.{Port}
use Rattle.vlog_tree.specs.declared.tree.Value.{Value}
use Rattle.vlog_tree.specs.declared.tree.Item.TheVariants.{Assign}
use Rattle.vlog_tree.specs.declared.table.Declaration.{Declaration}
use Rattle.vlog_tree.specs.Form.{ModuleTree}
use Rattle.tapa_base.specs.Lists.{Has}
use Rattle.vlog_tree.specs.Cycle.{Path}
use Rattle.vlog_tree.specs.Table.{Name, declared, bits_of}
use Rattle.sim_flat.specs.Instances.{StandsAt, IsModuleOf}
use Rattle.sim_flat.specs.declared.flat.Flat.{Flat}
use Rattle.sim_design.specs.declared.driven.Spot.{Spot}

-- in the instance of a module at this spot, a line drives a net of `bits` bits
pub record IsLine (ms : List ModuleTree) (f : Flat) (spot : Spot) (names : List Declaration) (path : Path) (m : ModuleTree) (x : Name) (e : Value) (bits : ℕ) : Type 0 where
  pub there : spot.instance < length f.instances.items
  pub stands : StandsAt ms f.instances.items spot.instance path
  pub of_module : IsModuleOf ms f.instances.items spot.instance m
  pub first : spot.base ≡ get_or f.first_net.items spot.instance 0
  pub declares : names ≡ declared m
  pub wide : bits ≡ bits_of (declared m) x
  pub line : Has m.items (Assign x e)

-- a label is at an index
pub record IsLabelAt (labels : List Port) (i : ℕ) (label : Name) : Type 0 where
  pub port : Port
  pub got : slice_get labels i ≡ Some port
  pub is : port.name ≡ label
