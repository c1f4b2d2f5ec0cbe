-- What the blocks of a module leave of one register or one memory.
use Rattle.std.specs.Prelude.{◌≡◌, ℕ, ◌≤◌, ◌⊎◌, Bool, true, false, List, [], None, count_by}
use Rattle.std.specs.List.{list_any}
use Rattle.vlog_tree.specs.declared.tree.Step.{Step}
use Rattle.vlog_tree.specs.declared.tree.Item.{Item}
use Rattle.vlog_tree.specs.declared.tree.Item.TheVariants.{Always}
use Rattle.vlog_tree.specs.declared.table.Declaration.{Declaration}
use Rattle.vlog_tree.specs.declared.table.NetKind.TheVariants.{Register, MemoryArray}
use Rattle.vlog_tree.specs.Form.{ModuleTree}
use Rattle.tapa_base.specs.Lists.{Has}
use Rattle.vlog_tree.specs.Cycle.{Cycle, Sizes, run_steps, run_items}
use Rattle.vlog_tree.specs.Table.{Name, declared, first_violation}
use Rattle.vlog_tree.specs.V4.{step_assigns, is_block_of, module_drives}

-- the register or the memory of this name has the same number or the same cells in both
pub record IsSameAt (x : Name) (c d : Cycle) : Type 0 where
  pub net : c.net x ≡ d.net x
  pub cells : (a : ℕ) → c.cell x a ≡ d.cell x a

-- of all blocks this one alone assigns the name
pub record IsOwnBlock (items : List Item) (x : Name) (b : List Step) : Type 0 where
  pub has : Has items (Always b)
  pub assigns : list_any (step_assigns x) b ≡ true
  pub alone : count_by (is_block_of x) items ≤ 1

-- steps leave what they don't assign
abbrev pub StepsLeaveTheRest : Type 0
StepsLeaveTheRest = (s : Sizes) (old next : Cycle) (on : List Bool) (steps : List Step) (x : Name) → list_any (step_assigns x) steps ≡ false → IsSameAt x (run_steps s old on steps next) next

-- what steps make of a name depends on what was left there before them, and on nothing that was left elsewhere
abbrev pub StepsLookAtOneName : Type 0
StepsLookAtOneName = (s : Sizes) (old next other : Cycle) (on : List Bool) (steps : List Step) (x : Name) → IsSameAt x next other
    → IsSameAt x (run_steps s old on steps next) (run_steps s old on steps other)

-- all blocks leave of a name what its own block leaves
abbrev pub OwnBlocksDecide : Type 0
OwnBlocksDecide = (s : Sizes) (old : Cycle) (items : List Item) (x : Name) (b : List Step) → IsOwnBlock items x b → IsSameAt x (run_items s old items old) (run_steps s old [] b old)

-- a name that no block assigns stays
abbrev pub UnassignedStays : Type 0
UnassignedStays = (s : Sizes) (old : Cycle) (items : List Item) (x : Name) → count_by (is_block_of x) items ≡ 0 → IsSameAt x (run_items s old items old) old

-- by the rule on drivers a register or a memory is assigned in one block at most
abbrev pub DriversAreAlone : Type 0
DriversAreAlone =
    (ms : List ModuleTree) (m : ModuleTree) → first_violation (module_drives ms m) ≡ None → (d : Declaration) → Has (declared m) d
    → (d.net_kind ≡ Register) ⊎ (d.net_kind ≡ MemoryArray) → count_by (is_block_of d.name) m.items ≤ 1
