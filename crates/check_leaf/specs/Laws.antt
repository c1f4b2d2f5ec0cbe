-- What holds of every legal leaf task.
use Rattle.std.specs.Prelude.{◌≡◌, ◌<◌, [], ◌∷◌}
use Rattle.tapa_base.specs.Kinds.{values_of}
use Rattle.tapa_syntax.specs.declared.program.Leaf.{Leaf}
use Rattle.tapa_syntax.specs.Trees.{Statements, TaskTree}
use Rattle.tapa_syntax.specs.Flat.{flat_leaf}
use Rattle.tapa_syntax.specs.WellFormed.{IsLeaf}
use Rattle.check_scope.specs.declared.entity.Entity.{Entity}
use Rattle.check_scope.specs.declared.entity.Entity.TheVariants.{Constant, Task}
use Rattle.check_scope.specs.Scopes.{Block}
use Rattle.check_leaf.specs.Leaves.{leaf_faults, leaf_of}

-- what a file declares: constants, each with a value of its kind, and tasks
abbrev pub IsGlobal : Entity → Type 0
IsGlobal (Constant k n) = n < values_of k
IsGlobal (Task n) = Unit {0}
IsGlobal _ = ⊥

abbrev pub AreGlobal : Block → Type 0
AreGlobal [] = Unit {0}
AreGlobal (d ∷ rest) = IsGlobal d.1 × AreGlobal rest

-- a task without faults means a leaf in which each name is bound and each value has its kind
abbrev pub LegalLeavesAreWellFormed : Type 0
LegalLeavesAreWellFormed =
    (file : Block) → AreGlobal file → (t : TaskTree) (ss : Statements) (leaf : Leaf) → leaf_faults file t ss ≡ [] → flat_leaf leaf ≡ leaf_of file t ss → IsLeaf leaf
