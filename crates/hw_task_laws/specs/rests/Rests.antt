-- Which outputs of a task's module depend on inputs in the same cycle.
use Rattle.std.specs.Prelude.{◌≡◌, ℕ, ◌<◌, Bool, false, List, map, length}
use Rattle.vlog_tree.specs.declared.table.NetKind.TheVariants.{Input, Output}
use Rattle.vlog_tree.specs.Form.{ModuleTree}
use Rattle.vlog_tree.specs.Loops.{Rests}
use Rattle.vlog_tree.specs.Table.{Name, port_declared, net_kind_of}
use Rattle.hw_build.specs.Elements.{built}
use Rattle.hw_lines.specs.declared.nets.Net.TheVariants.{Taken}
use Rattle.hw_lines.specs.Nets.{name}
use Rattle.hw_lines.specs.Shape.{Shape}
use Rattle.hw_lines.specs.Texts.{writes, task_elements}
use Rattle.hw_task_laws.specs.form.Form.{ForTasks}

-- one that does takes a token of a stream that is read
abbrev pub TakesToken : Shape → Name → Type 0
TakesToken S x = (s : ℕ) × (s < length S.streams) × (writes S s ≡ false) × (x ≡ name (Taken s))

abbrev pub OnlyTakesRest : Type 0
OnlyTakesRest =
    ForTasks
    (λ S.
    (ms : List ModuleTree) (is_top : Name → Bool) (title x y : Name) → net_kind_of (map port_declared (built title (task_elements S)).ports) x ≡ Output
    → net_kind_of (map port_declared (built title (task_elements S)).ports) y ≡ Input → Rests ms is_top (built title (task_elements S)) x y → TakesToken S x)
