-- Choices among values that have conditions, as rows of nets: the result is the value whose condition is the only one that
-- holds.
use Rattle.std.specs.Prelude.{◌≡◌, ℕ, zero, suc, ◌-◌, ◌<◌, ◌⊎◌, List, [], ◌∷◌, length, IsTrue}
use Rattle.vlog_tree.specs.declared.tree.Atom.{Atom}
use Rattle.vlog_tree.specs.declared.tree.Atom.TheVariants.{Net}
use Rattle.vlog_tree.specs.declared.tree.BinaryOp.TheVariants.{Or}
use Rattle.vlog_tree.specs.declared.tree.Value.{Value}
use Rattle.vlog_tree.specs.declared.tree.Value.TheVariants.{Plain, Binary, Choose}
use Rattle.tapa_base.specs.Lists.{Has}
use Rattle.vlog_tree.specs.Table.{Name}
use Rattle.vlog_tree.specs.Cycle.{Cycle, Follows, atom_value}
use Rattle.vlog_tree.specs.V3.{is_width}
use Rattle.hw_build.specs.Elements.{Element, Wire, built}
use Rattle.hw_build.specs.Trees.{numbered}
use Rattle.hw_build.specs.Scope.{IsNet, AtomIs, FitInOrder}
use Rattle.hw_build.specs.Fits.{IsAmong}

-- a value and the net that says when it is meant
pub record Entry : Type 0 where
  pub condition : Name
  pub value : Atom

-- a net for each entry, numbered from j on
abbrev pub row_of : ℕ → Name → (ℕ → Entry → Value) → ℕ → List Entry → List Element
row_of width front driver j [] = []
row_of width front driver j (e ∷ entries) = Wire width (numbered front j) (driver j e) ∷ row_of width front driver (suc j) entries

-- Whether the condition of an entry or of one before it holds. The net before has the answer for the entries before.
abbrev pub any_driver : Name → ℕ → Entry → Value
any_driver front zero e = Plain (Net e.condition)
any_driver front (suc j) e = Binary (Net (numbered front j)) Or (Net e.condition)

abbrev pub any_elements : Name → List Entry → List Element
any_elements front entries = row_of 1 front (any_driver front) 0 entries

-- The value of an entry where its condition holds, and that of the net before it otherwise. The first entry needs no condition.
abbrev pub pick_driver : Name → ℕ → Entry → Value
pick_driver front zero e = Plain e.value
pick_driver front (suc j) e = Choose (Net e.condition) e.value (Net (numbered front j))

abbrev pub pick_elements : ℕ → Name → List Entry → List Element
pick_elements width front entries = row_of width front (pick_driver front) 0 entries

-- the net that has the result: the last
abbrev pub choice : Name → List Entry → Name
choice front entries = numbered front (length entries - 1)

-- the result of `any` is 1 where a condition is
abbrev pub AnyIsSet : Type 0
AnyIsSet =
    (name : Name) (elements : List Element) (run : ℕ → Cycle) → Follows (built name elements) run → (front : Name) (entries : List Entry) → IsAmong (any_elements front entries) elements
    → (n : ℕ) → ((d : Entry) → Has entries d → (run n).net d.condition < 2) → (e : Entry) → Has entries e → (run n).net e.condition ≡ 1 → (run n).net (choice front entries) ≡ 1

-- and 0 where none is
abbrev pub AnyIsClear : Type 0
AnyIsClear =
    (name : Name) (elements : List Element) (run : ℕ → Cycle) → Follows (built name elements) run → (front : Name) (entries : List Entry) → IsAmong (any_elements front entries) elements
    → (n : ℕ) → 0 < length entries → ((d : Entry) → Has entries d → (run n).net d.condition ≡ 0) → (run n).net (choice front entries) ≡ 0

-- the result of `pick` is the value whose condition holds, where no other value has one that does
abbrev pub PickIsChosen : Type 0
PickIsChosen =
    (name : Name) (elements : List Element) (run : ℕ → Cycle) → Follows (built name elements) run → (width : ℕ) (front : Name) (entries : List Entry)
    → IsAmong (pick_elements width front entries) elements
    → (n a : ℕ) → ((d : Entry) → Has entries d → ((run n).net d.condition ≡ 1 → ⊥) ⊎ (atom_value (run n) d.value ≡ a))
    → (e : Entry) → Has entries e → (run n).net e.condition ≡ 1 → (run n).net (choice front entries) ≡ a

-- both fit where their conditions are nets of one bit and their values have the width
abbrev pub AnyFits : Type 0
AnyFits = (before : List Element) (front : Name) (entries : List Entry) → ((e : Entry) → Has entries e → IsNet before e.condition 1) → FitInOrder before (any_elements front entries)

abbrev pub PickFits : Type 0
PickFits =
    (before : List Element) (width : ℕ) (front : Name) (entries : List Entry) → IsTrue (is_width width)
    → ((e : Entry) → Has entries e → IsNet before e.condition 1 × AtomIs before width e.value)
    → FitInOrder before (pick_elements width front entries)
