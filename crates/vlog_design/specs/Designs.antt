-- Designs as trees.
use Rattle.std.specs.Prelude.{◌≡◌, ℕ, List, Some, slice_get}
use Rattle.vlog_tree.specs.Form.{ModuleTree}

-- modules, and the index of their top
pub record DesignTree : Type 0 where
  pub modules : List ModuleTree
  pub top : ℕ

-- the module at the top's index
abbrev pub TopOf : DesignTree → ModuleTree → Type 0
TopOf d m = slice_get d.modules d.top ≡ Some m
