-- What nets of a design are placed by.
use Rattle.std.specs.Prelude.{◌≡◌, ℕ, List, length, get_or}
use Rattle.vlog_tree.specs.Form.{ModuleTree}
use Rattle.vlog_tree.specs.Flattened.{FlatNet}
use Rattle.vlog_tree.specs.Environment.{shape_of}
use Rattle.sim_flat.specs.declared.flat.Flat.{Flat}
use Rattle.sim_flat.specs.declared.tables.Table.{Table}
use Rattle.sim_flat.specs.Tables.{IsTable}
use Rattle.sim_flat.specs.Flat.{IsFlat, IsNetAt}
use Rattle.sim_design.specs.declared.driven.Spot.{Spot}
use Rattle.sim_design.specs.declared.plan.Plan.{Plan}
use Rattle.sim_design.specs.States.{AreMemories, MemoriesPlaced}

-- a design with its memories
pub record IsPlan (ms : List ModuleTree) (top : ModuleTree) (p : Plan) : Type 0 where
  pub flat : IsFlat ms top p.flat.now
  pub modules : p.modules.now ≡ ms
  pub outside : p.outside.now ≡ (shape_of top).memories
  pub memories : AreMemories ms top p.flat.now p.memories.now
  pub all : MemoriesPlaced ms top p.flat.now p.memories.now
  pub many : length p.memories.now ≡ length p.flat.now.owners.items

-- a net is at an index of an instance, whose module has this table
pub record IsAtSpot (ms : List ModuleTree) (f : Flat) (t : Table) (spot : Spot) (place : ℕ) (n : FlatNet) : Type 0 where
  pub at : IsNetAt ms f spot.instance place n
  pub first : spot.base ≡ get_or f.first_net.items spot.instance 0
  pub table : IsTable ms at.tree t
