-- Which modules are a design, and with which name others are refused.
use Rattle.std.specs.Prelude.{◌≡◌, ℕ, List, [], ◌∷◌, Some, None, slice_get}
use Rattle.std.specs.List.{AllByRecursion}
use Rattle.vlog_tree.specs.declared.fault.VFault.{VFault}
use Rattle.vlog_tree.specs.declared.fault.VFault.TheVariants.{V1, V2, V3, V4, V5, V6, OutOfMemory}
use Rattle.vlog_tree.specs.Form.{ModuleTree, IsModule}
use Rattle.vlog_tree.specs.Table.{first_violation}
use Rattle.vlog_tree.specs.V2.{v2_uses}
use Rattle.vlog_tree.specs.V3.{v3_uses}
use Rattle.vlog_tree.specs.V4.{v4_uses}
use Rattle.vlog_tree.specs.V6.{v6_uses, is_top, roots}
use Rattle.vlog_tree.specs.Loops.{TellsLoop, IsLoopless}

-- names, widths and drivers are right
pub record IsSound (ms : List ModuleTree) : Type 0 where
  pub names : first_violation (v2_uses ms) ≡ None
  pub widths : first_violation (v3_uses ms) ≡ None
  pub drivers : first_violation (v4_uses ms) ≡ None

-- a design with its top
pub record IsDesign (ms : List ModuleTree) (top : ℕ) : Type 0 where
  pub form : AllByRecursion IsModule ms
  pub sound : IsSound ms
  pub loopless : IsLoopless ms (is_top ms)
  pub outside : first_violation (v6_uses ms) ≡ None
  pub one_top : (m : ModuleTree) × (slice_get ms top ≡ Some m) × (roots ms ≡ m ∷ [])

-- the modules are refused with this fault, or memory was refused
abbrev pub Refuses : List ModuleTree → VFault → Type 0
Refuses ms (V1 place) = ⊥
Refuses ms (V2 x) = first_violation (v2_uses ms) ≡ Some x
Refuses ms (V3 x) = (first_violation (v2_uses ms) ≡ None) × (first_violation (v3_uses ms) ≡ Some x)
Refuses ms (V4 x) = (first_violation (v2_uses ms) ≡ None) × (first_violation (v3_uses ms) ≡ None) × (first_violation (v4_uses ms) ≡ Some x)
Refuses ms (V5 x) = IsSound ms × TellsLoop ms (is_top ms) x
Refuses ms (V6 x) = IsSound ms × IsLoopless ms (is_top ms) × (first_violation (v6_uses ms) ≡ Some x)
Refuses ms OutOfMemory = Unit {0}
