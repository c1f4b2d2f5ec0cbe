-- The machines of a program's leaves, and its instances before their first ticks.
use Rattle.std.specs.Prelude.{◌≡◌, ℕ, ◌<◌, List, [], Some, slice_get}
use Rattle.std.specs.Arc.{arc_value}
use Rattle.std.specs.declared.alloc.Global.{Global}
use Rattle.std.specs.declared.sync.Arc.{Arc}
use Rattle.tapa_syntax.specs.declared.program.Leaf.{Leaf}
use Rattle.tapa_syntax.specs.declared.program.Program.{Program}
use Rattle.tapa_syntax.specs.WellFormed.{IsLeaf}
use Rattle.net_core.specs.declared.input.Input.{Input}
use Rattle.net_core.specs.Bounded.{instance_job}
use Rattle.coro_machine.specs.declared.coro.Coro.{Coro}
use Rattle.coro_machine.specs.declared.machine.Machine.{Machine}
use Rattle.coro_machine.specs.Coro.{IsMachineOf, IsCoroOf}

-- each of the first m is the machine of its leaf
abbrev pub AreLowered : Program → ℕ → List (Arc Machine Global) → Type 0
AreLowered program m machines =
    (b : ℕ) (leaf : Leaf) (machine : Arc Machine Global) → b < m → slice_get program.bodies.items b ≡ Some leaf → slice_get machines b ≡ Some machine
    → IsLeaf leaf → IsMachineOf leaf (arc_value machine)

-- each of the first m coroutines denotes the job of its instance, before its first tick
abbrev pub AreStarted : Program → Input → ℕ → List Coro → Type 0
AreStarted program input m all = (i : ℕ) (c : Coro) → i < m → slice_get all i ≡ Some c → IsCoroOf c (instance_job program input i) []
