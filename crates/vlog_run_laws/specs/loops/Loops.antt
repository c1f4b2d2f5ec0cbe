-- That loops by the lines of modules are loops of the flattened design (IEEE 1364-2005, 12.5: hierarchical names).
use Rattle.std.specs.Prelude.{◌≡◌, true, List, [], ◌∷◌}
use Rattle.std.specs.List.{AllByRecursion}
use Rattle.vlog_tree.specs.declared.fault.VFault.TheVariants.{V5}
use Rattle.vlog_tree.specs.Form.{ModuleTree, IsModule}
use Rattle.vlog_tree.specs.Grounded.{OnLoop}
use Rattle.vlog_tree.specs.Table.{Name}
use Rattle.vlog_tree.specs.V6.{is_top, roots}
use Rattle.vlog_tree.specs.Loops.{Reaches, containment, TextPlace, LiesOnLoop}
use Rattle.vlog_tree.specs.Flattened.{FlatNet, parts}
use Rattle.vlog_tree.specs.Refused.{IsSound, Refuses}

-- no module contains itself
abbrev pub ContainsNoneItself : List ModuleTree → Type 0
ContainsNoneItself ms = (x : Name) → Reaches (containment ms) x x → ⊥

-- some net of the flattened design depends on itself within a cycle
abbrev pub HasLoop : List ModuleTree → ModuleTree → Type 0
HasLoop ms root = (n : FlatNet) × OnLoop (parts ms root true) n

abbrev pub LoopsAreFlat : Type 0
LoopsAreFlat =
    (ms : List ModuleTree) (root : ModuleTree) (s : TextPlace) → AllByRecursion IsModule ms → IsSound ms → roots ms ≡ root ∷ [] → ContainsNoneItself ms
    → LiesOnLoop ms (is_top ms) s → HasLoop ms root

abbrev pub RefusedLoopsAreFlat : Type 0
RefusedLoopsAreFlat =
    (ms : List ModuleTree) (root : ModuleTree) (x : Name) → AllByRecursion IsModule ms → roots ms ≡ root ∷ [] → ContainsNoneItself ms → Refuses ms (V5 x) → HasLoop ms root
