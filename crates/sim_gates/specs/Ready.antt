-- When blocks find on a tape all that they read and assign.
use Rattle.std.specs.Prelude.{Bool, List, [], Option, IsSome, IsTrue, map}
use Rattle.std.specs.List.{AllByRecursion}
use Rattle.vlog_tree.specs.declared.tree.Step.{Step}
use Rattle.vlog_tree.specs.declared.tree.Step.TheVariants.{If, Else, End, NonblockingAssign, MemoryAssign}
use Rattle.vlog_tree.specs.declared.tree.Item.{Item}
use Rattle.vlog_tree.specs.declared.tree.Item.TheVariants.{Wire, Reg, Memory, Assign, Always, Instance}
use Rattle.vlog_tree.specs.declared.table.Declaration.{Declaration}
use Rattle.vlog_tree.specs.Form.{nested}
use Rattle.vlog_tree.specs.Loops.{atom_nets}
use Rattle.vlog_tree.specs.V3.{atom_fits}
use Rattle.sim_tape.specs.declared.gates.Pair.{Pair}
use Rattle.sim_gates.specs.Nets.{pair_in, HavePairs}
use Rattle.sim_gates.specs.declared.parts.Part.{Part}

-- the nets and the memory of a step have pairs, and the bits of its atom are right
abbrev pub IsStepReady : List Declaration → List (Option Pair) → List (Option Pair) → Step → Type 0
IsStepReady ds pairs memories (If c) = IsSome (pair_in ds pairs c)
IsStepReady ds pairs memories Else = Unit {0}
IsStepReady ds pairs memories End = Unit {0}
IsStepReady ds pairs memories (NonblockingAssign x a) = IsSome (pair_in ds pairs x) × IsTrue (atom_fits ds a) × HavePairs ds pairs (atom_nets a)
IsStepReady ds pairs memories (MemoryAssign m x a) = IsSome (pair_in ds memories m) × IsSome (pair_in ds pairs x) × IsTrue (atom_fits ds a) × HavePairs ds pairs (atom_nets a)

-- so it is with all steps of a block, and each part that is opened is closed
abbrev pub IsReady : List Declaration → List (Option Pair) → List (Option Pair) → Item → Type 0
IsReady ds pairs memories (Always b) = IsTrue (nested [] b) × AllByRecursion (IsStepReady ds pairs memories) b
IsReady ds pairs memories (Wire w x) = Unit {0}
IsReady ds pairs memories (Reg w x) = Unit {0}
IsReady ds pairs memories (Memory w x n) = Unit {0}
IsReady ds pairs memories (Assign x e) = Unit {0}
IsReady ds pairs memories (Instance m i connections) = Unit {0}

-- of open parts, the innermost first, whether each is an `else`
abbrev pub elses : List Part → List Bool
elses parts = map (λ (p : Part). p.is_else) parts
