-- What the usual blocks of one register or one memory leave of it.
use Rattle.std.specs.Prelude.{◌≡◌, ℕ, ◌==◌, ◌&&◌, List, [], ◌∷◌, nat_lt, if◌then◌else◌}
use Rattle.vlog_tree.specs.declared.tree.Atom.{Atom}
use Rattle.vlog_tree.specs.declared.tree.Step.{Step}
use Rattle.vlog_tree.specs.declared.tree.Step.TheVariants.{If, Else, End, NonblockingAssign, MemoryAssign}
use Rattle.vlog_tree.specs.Table.{Name}
use Rattle.vlog_tree.specs.Cycle.{Cycle, Sizes, atom_value, run_steps}

-- a first value at reset, and else a next one where the register is set
abbrev pub reset_block : Name → Name → Name → Atom → Atom → List Step
reset_block rst set x first next = If rst ∷ NonblockingAssign x first ∷ Else ∷ If set ∷ NonblockingAssign x next ∷ End ∷ End ∷ []

-- the same, set in each cycle
abbrev pub steady_block : Name → Name → Atom → Atom → List Step
steady_block rst x first next = If rst ∷ NonblockingAssign x first ∷ Else ∷ NonblockingAssign x next ∷ End ∷ []

-- a next value where the register is set, without a reset
abbrev pub set_block : Name → Name → Atom → List Step
set_block set x next = If set ∷ NonblockingAssign x next ∷ End ∷ []

-- a value for a cell where the memory is written
abbrev pub write_block : Name → Name → Name → Atom → List Step
write_block we m at value = If we ∷ MemoryAssign m at value ∷ End ∷ []

abbrev pub ResetBlocks : Type 0
ResetBlocks =
    (s : Sizes) (old left : Cycle) (rst set x : Name) (first next : Atom)
    → (run_steps s old [] (reset_block rst set x first next) left).net x ≡ (if old.net rst == 1 then atom_value old first else (if old.net set == 1 then atom_value old next else left.net x))

abbrev pub SteadyBlocks : Type 0
SteadyBlocks =
    (s : Sizes) (old left : Cycle) (rst x : Name) (first next : Atom)
    → (run_steps s old [] (steady_block rst x first next) left).net x ≡ (if old.net rst == 1 then atom_value old first else atom_value old next)

abbrev pub SetBlocks : Type 0
SetBlocks = (s : Sizes) (old left : Cycle) (set x : Name) (next : Atom) → (run_steps s old [] (set_block set x next) left).net x ≡ (if old.net set == 1 then atom_value old next else left.net x)

abbrev pub WriteBlocks : Type 0
WriteBlocks =
    (s : Sizes) (old left : Cycle) (we m at : Name) (value : Atom) (a : ℕ)
    → (run_steps s old [] (write_block we m at value) left).cell m a ≡ (if (old.net we == 1) && ((a == old.net at) && nat_lt (old.net at) (s.cells m)) then atom_value old value else left.cell m a)
