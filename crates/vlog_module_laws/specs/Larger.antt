-- What is right of modules by themselves is right of them among more modules.
use Rattle.std.specs.Prelude.{◌≡◌, ◌↔◌, Bool, true, false, List, ◌++◌, Some, None, map}
use Rattle.vlog_tree.specs.Form.{ModuleTree}
use Rattle.tapa_base.specs.Lists.{Has}
use Rattle.vlog_tree.specs.Table.{Name, module_named, module_declared, is_doubled_name, is_module_name, first_violation}
use Rattle.vlog_tree.specs.V2.{module_uses}
use Rattle.vlog_tree.specs.V3.{module_widths}
use Rattle.vlog_tree.specs.V4.{module_drives}
use Rattle.vlog_tree.specs.Refused.{IsSound}
use Rattle.vlog_tree.specs.Loops.{Rests, instances}

-- each name finds among all modules the module that it finds among these
abbrev pub IsWithin : List ModuleTree → List ModuleTree → Type 0
IsWithin ms all = (x : Name) (k : ModuleTree) → module_named ms x ≡ Some k → module_named all x ≡ Some k

-- no name finds a module in both
abbrev pub AreApart : List ModuleTree → List ModuleTree → Type 0
AreApart ms ns = (x : Name) → is_module_name ns x ≡ true → is_module_name ms x ≡ false

-- these modules have the module of each instance of this one
abbrev pub HaveInstancesOf : List ModuleTree → ModuleTree → Type 0
HaveInstancesOf ms m = (kn i : Name) → Has (instances m) (kn, i) → is_module_name ms kn ≡ true

-- names, widths and drivers of one module are right beside these
pub record IsRightBeside (ms : List ModuleTree) (m : ModuleTree) : Type 0 where
  pub names : first_violation (module_uses ms m) ≡ None
  pub widths : first_violation (module_widths ms m) ≡ None
  pub drivers : first_violation (module_drives ms m) ≡ None

-- a list of modules is within each list that continues it, and within each that begins with modules of other names
abbrev pub FrontIsWithin : Type 0
FrontIsWithin = (ms ns : List ModuleTree) → IsWithin ms (ms ++ ns)

abbrev pub BackIsWithin : Type 0
BackIsWithin = (ms ns : List ModuleTree) → AreApart ms ns → IsWithin ns (ms ++ ns)

-- modules are right together if each is right beside them all
abbrev pub EachRightIsSound : Type 0
EachRightIsSound = (ms : List ModuleTree) → ((m : ModuleTree) → Has ms m → IsRightBeside ms m) → IsSound ms

abbrev pub SoundIsEachRight : Type 0
SoundIsEachRight = (ms : List ModuleTree) → IsSound ms → (m : ModuleTree) → Has ms m → IsRightBeside ms m

-- a module that is right beside some is right beside more, where its name isn't doubled
abbrev pub RightStaysRight : Type 0
RightStaysRight =
    (ms all : List ModuleTree) (m : ModuleTree) → IsWithin ms all → IsRightBeside ms m → is_doubled_name (map module_declared all) m.name ≡ false → IsRightBeside all m

-- the modules of a right module's instances are there
abbrev pub RightHasInstances : Type 0
RightHasInstances = (ms : List ModuleTree) (m : ModuleTree) → IsRightBeside ms m → HaveInstancesOf ms m

-- among more modules a net depends on just the nets on which it depended
abbrev pub RestsStaysSame : Type 0
RestsStaysSame =
    (ms all : List ModuleTree) (is_top is_top_of_all : Name → Bool) → IsWithin ms all → ((m : ModuleTree) → Has ms m → HaveInstancesOf ms m)
    → ((m : ModuleTree) → Has ms m → is_top m.name ≡ is_top_of_all m.name) → (m : ModuleTree) → Has ms m → (x y : Name)
    → Rests ms is_top m x y ↔ Rests all is_top_of_all m x y
