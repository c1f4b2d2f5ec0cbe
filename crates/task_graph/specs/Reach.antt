-- Which instances reach which, as marks in rows, and groups of those that reach each other.
use Rattle.std.specs.Prelude.{◌≡◌, ◌⊎◌, ◌↔◌, ℕ, suc, ◌<◌, List, Bool, true, false, length, get_or, slice_index, Vec}
use Rattle.number_graph.specs.Graphs.{targets_of}
use Rattle.task_graph.specs.declared.Edge.{Edge}
use Rattle.task_graph.specs.declared.groups.Groups.{Groups}
use Rattle.task_graph.specs.Streams.{Reaches, AreNumbered}

-- whether the row of i marks j
abbrev pub mark : {A : Type 0} → List (Vec Bool A) → ℕ → ℕ → Bool
mark rows i j = get_or (targets_of rows i) j false

-- i is j, or its row marks j
abbrev pub Marks : {A : Type 0} → List (Vec Bool A) → ℕ → ℕ → Type 0
Marks rows i j = (i ≡ j) ⊎ (mark rows i j ≡ true)

abbrev pub MarkEachOther : {A : Type 0} → List (Vec Bool A) → ℕ → ℕ → Type 0
MarkEachOther rows i j = Marks rows i j × Marks rows j i

-- what is marked from what is marked is marked
abbrev pub AreTransitive : {A : Type 0} → List (Vec Bool A) → Type 0
AreTransitive rows =
    (i j k : ℕ) → i < length rows → j < length rows → k < length rows → Marks rows i j → Marks rows j k → Marks rows i k

-- the rows mark what is reached along streams
abbrev pub MarkReached : {A : Type 0} → List (Vec Bool A) → List Edge → Type 0
MarkReached rows edges = (i j : ℕ) → i < length rows → j < length rows → Marks rows i j ↔ Reaches edges i j

-- the first instances have their groups
pub record AreFirstGroups {A : Type 0} (rows : List (Vec Bool A)) (g : Groups) : Type 0 where
  pub numbered : AreNumbered g.numbers.items g.count
  pub same : (i j : ℕ) → i < length g.numbers.items → j < length g.numbers.items → (slice_index g.numbers.items i ≡ slice_index g.numbers.items j) ↔ MarkEachOther rows i j
