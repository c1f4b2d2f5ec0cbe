-- When elements without instances fit: each after those before it, every name once, every block with a target of its own.
use Rattle.std.specs.Prelude.{◌≡◌, ℕ, ◌<◌, ◌≤◌, true, List, [], ◌∷◌, ◌++◌, IsTrue}
use Rattle.std.specs.List.{flat_map, list_all}
use Rattle.vlog_tree.specs.Form.{ModuleTree}
use Rattle.tapa_base.specs.Lists.{Has}
use Rattle.vlog_tree.specs.Labels.{rst}
use Rattle.vlog_tree.specs.Names.{is_name}
use Rattle.vlog_tree.specs.Table.{Name, clk, times_in}
use Rattle.vlog_tree.specs.V3.{is_width}
use Rattle.hw_build.specs.Elements.{Element, Input, Output, Outlet, Wire, InstanceWire, Register, Memory, Block, Instance}
use Rattle.hw_build.specs.Fitting.{AreFitting}
use Rattle.hw_build.specs.Forms.{is_element}
use Rattle.hw_build.specs.Trees.{tree_nodes, numbered}
use Rattle.hw_build.specs.Scope.{each, first_assigned, IsNet, FitsAfter, FitInOrder}

-- the name that an element declares
abbrev pub declared_names : Element → List Name
declared_names (Input w x) = x ∷ []
declared_names (Output w x v) = x ∷ []
declared_names (Outlet w x) = x ∷ []
declared_names (Wire w x v) = x ∷ []
declared_names (InstanceWire w x) = x ∷ []
declared_names (Register w x) = x ∷ []
declared_names (Memory w x n) = x ∷ []
declared_names (Block b) = []
declared_names (Instance k i connections) = i ∷ []

-- the register or the memory of a block
abbrev pub targets : Element → List Name
targets (Block b) = first_assigned b
targets (Input w x) = []
targets (Output w x v) = []
targets (Outlet w x) = []
targets (Wire w x v) = []
targets (InstanceWire w x) = []
targets (Register w x) = []
targets (Memory w x n) = []
targets (Instance k i connections) = []

-- no name occurs twice
abbrev pub AreOnce : List Name → Type 0
AreOnce names = (x : Name) → times_in names x ≤ 1

pub record FitAlone (elements : List Element) : Type 0 where
  pub order : FitInOrder [] elements
  pub names : AreOnce (clk ∷ rst ∷ flat_map declared_names elements)
  pub blocks : AreOnce (flat_map targets elements)

-- then they fit, beside any modules
abbrev pub AloneIsFitting : Type 0
AloneIsFitting = (ms : List ModuleTree) (elements : List Element) → FitAlone elements → AreFitting ms elements

-- and have the form of parts of a module, if what they declare are names
abbrev pub AloneHasForm : Type 0
AloneHasForm = (elements : List Element) → FitAlone elements → list_all is_name (flat_map declared_names elements) ≡ true → list_all is_element elements ≡ true

abbrev pub IsAmong : List Element → List Element → Type 0
IsAmong some all = (e : Element) → Has some e → Has all e

-- what fits after some elements fits after more
abbrev pub FitsAfterMore : Type 0
FitsAfterMore = (some all : List Element) → IsAmong some all → (elements : List Element) → FitInOrder some elements → FitInOrder all elements

-- parts fit one after another
abbrev pub PartsFit : Type 0
PartsFit = (before xs ys : List Element) → FitInOrder before xs → FitInOrder (before ++ xs) ys → FitInOrder before (xs ++ ys)

-- elements that don't read each other fit in any order
abbrev pub EachFits : Type 0
EachFits = (before elements : List Element) → ((e : Element) → Has elements e → FitsAfter before e) → FitInOrder before elements

-- and so do parts of which none reads another
abbrev pub EachPartFits : Type 0
EachPartFits = (before : List Element) (f : ℕ → List Element) (n : ℕ) → ((k : ℕ) → k < n → FitInOrder before (f k)) → FitInOrder before (each f n)

-- the nodes of a tree fit after its leaves
abbrev pub TreesFit : Type 0
TreesFit =
    (before : List Element) (width : ℕ) (front : Name) (leaves m : ℕ) → IsTrue (is_width width) → ((j : ℕ) → j < leaves → IsNet before (numbered front j) width)
    → m < leaves → FitInOrder before (tree_nodes width front leaves m)

-- names of two lists that have none in common
abbrev pub TwoOnce : Type 0
TwoOnce = (xs ys : List Name) → AreOnce xs → AreOnce ys → ((x : Name) → Has xs x → Has ys x → ⊥) → AreOnce (xs ++ ys)

-- names of parts that have none in common
abbrev pub PartsOnce : Type 0
PartsOnce =
    (f : ℕ → List Name) (n : ℕ) → ((k : ℕ) → k < n → AreOnce (f k)) → ((j k : ℕ) (x : Name) → j < n → k < n → Has (f j) x → Has (f k) x → j ≡ k) → AreOnce (each f n)
