-- What the wires of an expression make of a module.
use Rattle.std.specs.Prelude.{◌≡◌}
use Rattle.vlog_tree.specs.Form.{ModuleTree}
use Rattle.hw_build.specs.Elements.{with_all}
use Rattle.hw_lines.specs.Wires.{Compiled}
use Rattle.hw_expressions.specs.declared.wires.Wired.{Wired}

-- the module has grown by the wires, and the result is their atom and their number
pub record Grows (old new : ModuleTree) (told : Wired) (C : Compiled) : Type 0 where
  pub elements : new ≡ with_all old C.elements
  pub atom : told.atom ≡ C.atom
  pub count : told.count ≡ C.count
