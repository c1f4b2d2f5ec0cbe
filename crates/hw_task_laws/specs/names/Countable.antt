-- Each name of a task's module occurs once, where its lines can be counted.
use Rattle.std.specs.Prelude.{◌≡◌, ◌+◌, ◌^◌, ◌≤◌, true, List, ◌∷◌, length}
use Rattle.std.specs.List.{flat_map, list_all}
use Rattle.vlog_tree.specs.Labels.{rst}
use Rattle.vlog_tree.specs.Names.{is_name, goes_on}
use Rattle.vlog_tree.specs.Table.{Name, clk}
use Rattle.hw_build.specs.Elements.{Element, built}
use Rattle.hw_build.specs.Fits.{declared_names, targets, AreOnce}
use Rattle.hw_lines.specs.Shape.{Shape}
use Rattle.hw_lines.specs.Texts.{task_elements, task_name}

-- its states have numbers of 32 bits, and its elements of 64
pub record IsCountable (S : Shape) : Type 0 where
  pub states : length S.states ≤ 2 ^ 32
  pub elements : length (task_elements S) ≤ 2 ^ 64

-- no name is declared twice
abbrev pub NamesAreOnce : Type 0
NamesAreOnce = (S : Shape) → IsCountable S → AreOnce (clk ∷ rst ∷ flat_map declared_names (task_elements S))

-- what is declared are names
abbrev pub NetsAreNamed : Type 0
NetsAreNamed = (S : Shape) → IsCountable S → list_all is_name (flat_map declared_names (task_elements S)) ≡ true

-- no two blocks assign one register or one memory
abbrev pub BlocksAreOnce : Type 0
BlocksAreOnce = (S : Shape) → IsCountable S → AreOnce (flat_map targets (task_elements S))

-- each element is a port or a line, or more
abbrev pub LinesCountElements : Type 0
LinesCountElements = (title : Name) (elements : List Element) → length elements ≤ length (built title elements).ports + length (built title elements).items

-- the name of a task's module is one, where the task's has letters, digits, `_` and `$` alone
abbrev pub TitlesAreNames : Type 0
TitlesAreNames = (x : Name) → list_all goes_on x ≡ true → is_name (task_name x) ≡ true
