-- The circuit of a program: the modules of its channels, of its leaf tasks, and last the top.
use Rattle.std.specs.Prelude.{ℕ, zero, suc, ◌≤◌, Bool, List, [], ◌∷◌, ◌++◌, length, Option, Some, None, slice_get, slice_index, ◌==◌, if◌then◌else◌}
use Rattle.std.specs.List.{list_any}
use Rattle.tapa_syntax.specs.declared.program.Instance.{Instance}
use Rattle.tapa_syntax.specs.declared.program.Leaf.{Leaf}
use Rattle.tapa_syntax.specs.declared.program.Program.{Program}
use Rattle.tapa_syntax.specs.declared.program.Stream.{Stream}
use Rattle.task_fsm.specs.declared.machine.Fsm.{Fsm}
use Rattle.vlog_tree.specs.Form.{ModuleTree}
use Rattle.hw_build.specs.Scope.{each}
use Rattle.hw_lines.specs.Texts.{task_tree}
use Rattle.hw_top_lines.specs.Channels.{channel_modules, with_new}
use Rattle.hw_top_lines.specs.Texts.{token_bits, top_tree}

-- the modules of the channel of a stream with `late` cycles of added latency
abbrev pub stream_modules : ℕ → Option Stream → List ModuleTree
stream_modules late None = []
stream_modules late (Some r) = channel_modules (token_bits r.kind) r.depth late

-- those of the first streams; equal channels share their modules, and relays are shared too
abbrev pub channels_before : Program → List ℕ → ℕ → List ModuleTree
channels_before program added zero = []
channels_before program added (suc s) = with_new (channels_before program added s) (stream_modules (slice_index added s) (slice_get program.streams.items s))

abbrev pub machine_module : Leaf → Option Fsm → List ModuleTree
machine_module leaf None = []
machine_module leaf (Some machine) = task_tree machine leaf.memories.items leaf.streams.items ∷ []

-- the module of a leaf task
abbrev pub leaf_module : Option Leaf → Option Fsm → List ModuleTree
leaf_module None machine = []
leaf_module (Some leaf) machine = machine_module leaf machine

-- whether some instance is one of a body
abbrev pub is_used : Program → ℕ → Bool
is_used program b = list_any (λ (x : Instance). x.body == b) program.instances.items

-- a leaf task without an instance gets no module, so that the top is the only module that no other contains
abbrev pub used_module : Program → List Fsm → ℕ → List ModuleTree
used_module program machines b = if is_used program b then leaf_module (slice_get program.bodies.items b) (slice_get machines b) else []

abbrev pub task_modules : Program → List Fsm → List ModuleTree
task_modules program machines = each (used_module program machines) (length program.bodies.items)

-- of the machines of the program's bodies, and the added latency of each stream
abbrev pub design_tree : Program → List Fsm → List ℕ → List ModuleTree
design_tree program machines added = channels_before program added (length program.streams.items) ++ task_modules program machines ++ top_tree program added ∷ []

-- no stream has more added latency than a channel has
abbrev pub AreShort : List ℕ → Type 0
AreShort added = (s : ℕ) → slice_index added s ≤ 500000
