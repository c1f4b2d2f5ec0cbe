-- Loops in a circuit.
use Rattle.std.specs.Prelude.{◌≡◌, Bool, false, List}
use Rattle.vlog_tree.specs.Form.{ModuleTree}
use Rattle.tapa_base.specs.Lists.{Has}
use Rattle.vlog_tree.specs.Loops.{Rests, IsLoopless}
use Rattle.vlog_tree.specs.Table.{Name}
use Rattle.vlog_tree.specs.V6.{is_top}
use Rattle.hw_build.specs.Order.{InstancesKeepOrder, AnswersKeepOrder, RestsOnNoInput}
use Rattle.hw_lines.specs.Texts.{task_name}
use Rattle.hw_top_lines.specs.Designs.{design_tree}
use Rattle.hw_top_lines.specs.Texts.{top_elements, top_tree}
use Rattle.hw_top_laws.specs.modules.Lower.{lower_modules, OfReady}

-- none of these modules is the top
abbrev pub AreBelow : (Name → Bool) → List ModuleTree → Type 0
AreBelow is_top ms = (m : ModuleTree) → Has ms m → is_top m.name ≡ false

-- where an output of an instance depends on an input of it, the input's net is declared before the output's
abbrev pub TopsKeepOrder : Type 0
TopsKeepOrder =
    OfReady
    (λ program machines added.
    (is_top : Name → Bool) → AreBelow is_top (lower_modules program machines added) → InstancesKeepOrder (lower_modules program machines added) is_top (top_elements program added))

-- what a memory answers is declared after the address that it is asked for
abbrev pub TopsKeepAnswers : Type 0
TopsKeepAnswers = OfReady (λ program machines added. (is_top : Name → Bool) → AnswersKeepOrder is_top (task_name program.top) (top_elements program added))

-- so no net of the top depends on itself
abbrev pub TopsHaveNoLoop : Type 0
TopsHaveNoLoop =
    OfReady
    (λ program machines added.
    (is_top : Name → Bool) → AreBelow is_top (lower_modules program machines added) → (x : Name) → Rests (lower_modules program machines added) is_top (top_tree program added) x x → ⊥)

-- and no name of the circuit is on a loop
abbrev pub DesignsAreLoopless : Type 0
DesignsAreLoopless =
    OfReady (λ program machines added. (is_top : Name → Bool) → AreBelow is_top (lower_modules program machines added) → IsLoopless (design_tree program machines added) is_top)

-- no output of the circuit depends on an input of it within a cycle, so its environment may answer in the same cycle
abbrev pub DesignsRestOnNoInput : Type 0
DesignsRestOnNoInput = OfReady (λ program machines added. RestsOnNoInput (design_tree program machines added) (is_top (design_tree program machines added)) (top_tree program added))
