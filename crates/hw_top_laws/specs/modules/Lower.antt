-- The modules below the top of a circuit.
use Rattle.std.specs.Prelude.{◌≡◌, ℕ, true, List, ◌++◌, length, Some, map, slice_get, slice_index}
use Rattle.tapa_syntax.specs.declared.program.Leaf.{Leaf}
use Rattle.tapa_syntax.specs.declared.program.Program.{Program}
use Rattle.tapa_syntax.specs.declared.program.Stream.{Stream}
use Rattle.task_fsm.specs.declared.machine.Fsm.{Fsm}
use Rattle.vlog_tree.specs.Form.{ModuleTree, IsModule}
use Rattle.tapa_base.specs.Lists.{Has}
use Rattle.vlog_tree.specs.Refused.{IsSound}
use Rattle.vlog_tree.specs.Table.{module_named}
use Rattle.vlog_module_laws.specs.Larger.{IsRightBeside}
use Rattle.hw_channel_laws.specs.modules.Ports.{AreFoundIn}
use Rattle.hw_task.specs.Promise.{KeepsPromise}
use Rattle.hw_lines.specs.Texts.{task_name, task_tree}
use Rattle.hw_top_lines.specs.Channels.{channel_modules}
use Rattle.hw_top_lines.specs.Designs.{channels_before, is_used, task_modules}
use Rattle.hw_top_lines.specs.Legal.{IsReady}
use Rattle.tapa_syntax.specs.OwnNames.{AreApart}
use Rattle.hw_top_lines.specs.Texts.{token_bits}
use Rattle.hw_top_laws.specs.joins.Joins.{PortsAreOnce}

abbrev pub lower_modules : Program → List Fsm → List ℕ → List ModuleTree
lower_modules program machines added = channels_before program added (length program.streams.items) ++ task_modules program machines

abbrev pub task_module : Leaf → Fsm → ModuleTree
task_module leaf machine = task_tree machine leaf.memories.items leaf.streams.items

-- the module of each used leaf task keeps what is promised of it
abbrev pub KeepPromises : Program → List Fsm → Type 0
KeepPromises program machines =
    (b : ℕ) (leaf : Leaf) (machine : Fsm) → slice_get program.bodies.items b ≡ Some leaf → slice_get machines b ≡ Some machine → is_used program b ≡ true
    → KeepsPromise leaf machine (task_module leaf machine)

-- of every program that a circuit can be made of
abbrev pub OfReady : (Program → List Fsm → List ℕ → Type 0) → Type 0
OfReady P = (program : Program) (machines : List Fsm) (added : List ℕ) → IsReady program machines added → KeepPromises program machines → P program machines added

-- no two have one name
abbrev pub LowerAreApart : Type 0
LowerAreApart = OfReady (λ program machines added. AreApart (map (λ (m : ModuleTree). m.name) (lower_modules program machines added)))

-- and none has the top's
abbrev pub TopIsApart : Type 0
TopIsApart = OfReady (λ program machines added. (m : ModuleTree) → Has (lower_modules program machines added) m → m.name ≡ task_name program.top → ⊥)

-- the modules of each stream's channel are there
abbrev pub ChannelsAreFound : Type 0
ChannelsAreFound =
    OfReady
    (λ program machines added.
    (s : ℕ) (r : Stream) → slice_get program.streams.items s ≡ Some r → AreFoundIn (lower_modules program machines added) (channel_modules (token_bits r.kind) r.depth (slice_index added s)))

-- and those of each used leaf task
abbrev pub TasksAreFound : Type 0
TasksAreFound =
    OfReady
    (λ program machines added.
    (b : ℕ) (leaf : Leaf) (machine : Fsm) → slice_get program.bodies.items b ≡ Some leaf → slice_get machines b ≡ Some machine → is_used program b ≡ true
    → module_named (lower_modules program machines added) (task_name leaf.name) ≡ Some (task_module leaf machine))

abbrev pub LowerAreModules : Type 0
LowerAreModules = OfReady (λ program machines added. (m : ModuleTree) → Has (lower_modules program machines added) m → IsModule m)

abbrev pub LowerAreRight : Type 0
LowerAreRight = OfReady (λ program machines added. (m : ModuleTree) → Has (lower_modules program machines added) m → IsRightBeside (lower_modules program machines added) m)

abbrev pub LowerIsSound : Type 0
LowerIsSound = OfReady (λ program machines added. IsSound (lower_modules program machines added))

abbrev pub LowerPortsAreOnce : Type 0
LowerPortsAreOnce = OfReady (λ program machines added. PortsAreOnce (lower_modules program machines added))
