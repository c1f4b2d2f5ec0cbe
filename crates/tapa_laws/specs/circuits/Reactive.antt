-- Runs of a design beside memories that answer by what the design's outputs are in the same cycle and were in those before it. A
-- memory may so answer an address in the cycle in which it is asked, wait for some number of cycles after it is asked, or answer
-- by any other rule that looks at the design's outputs alone.
use Rattle.std.specs.Prelude.{◌≡◌, ℕ, ◌≤◌, Bool, true, false, List, [], Some, slice_get, map, if◌then◌else◌}
use Rattle.vlog_tree.specs.declared.table.NetKind.{NetKind}
use Rattle.vlog_tree.specs.declared.table.NetKind.TheVariants.{Unknown, Input, Output, WireNet, Register, MemoryArray, ChildInstance}
use Rattle.vlog_tree.specs.Form.{ModuleTree}
use Rattle.vlog_tree.specs.Table.{Name, port_declared, net_kind_of}
use Rattle.vlog_tree.specs.V6.{is_top}
use Rattle.vlog_tree.specs.Cycle.{Cycle, Path}
use Rattle.vlog_tree.specs.Environment.{Environment}
use Rattle.vlog_tree.specs.Refused.{IsDesign}
use Rattle.vlog_run_laws.specs.runs.OneRun.{FitsPowerUp, IsOnly}
use Rattle.vlog_run_laws.specs.runs.Among.{IsRunAmong}
use Rattle.hw_build.specs.Order.{RestsOnNoInput}

abbrev pub net_kind_is_output : NetKind → Bool
net_kind_is_output Unknown = false
net_kind_is_output Input = false
net_kind_is_output Output = true
net_kind_is_output WireNet = false
net_kind_is_output Register = false
net_kind_is_output MemoryArray = false
net_kind_is_output ChildInstance = false

-- the numbers of outputs, by cycle and name
abbrev pub Seen : Type 0
Seen = ℕ → Name → ℕ

-- those of a design's top in a run; other names have 0
abbrev pub outputs_of_top : ModuleTree → (ℕ → Cycle) → Seen
outputs_of_top top run n x = if net_kind_is_output (net_kind_of (map port_declared top.ports) x) then (run n).net x else 0

-- what is answered depends on no outputs of later cycles: memory i in cycle n answers by the outputs up to cycle n
abbrev pub IsCausal : {A : Type 0} → (Seen → ℕ → ℕ → A) → Type 0
IsCausal f = (h k : Seen) (i n : ℕ) → ((j : ℕ) → j ≤ n → (x : Name) → h j x ≡ k j x) → f h i n ≡ f k i n

-- A run of a design from these contents beside memories that answer, and that show the cell that is asked for, in cycles that depend on the
-- outputs, by number and cycle. In other cycles they show numbers that depend on the outputs too.
abbrev pub IsReactiveRun : List ModuleTree → ModuleTree → Environment → (Seen → ℕ → ℕ → Bool) → (Seen → ℕ → ℕ → Bool) → (Seen → ℕ → ℕ → ℕ)
    → (Path → Cycle) → (ℕ → Path → Cycle) → Type 0
IsReactiveRun ms top env answers shows others contents nets =
    let seen = outputs_of_top top (λ n. nets n []) in
    IsRunAmong ms top env (answers seen) (shows seen) (others seen) contents nets

-- where no output rests on an input within a cycle and memories look at no later cycle, there is one from each power-up
abbrev pub OneReactiveRun : Type 0
OneReactiveRun =
    (ms : List ModuleTree) (place : ℕ) (top : ModuleTree) (env : Environment) (answers shows : Seen → ℕ → ℕ → Bool) (others : Seen → ℕ → ℕ → ℕ) (contents : Path → Cycle)
    → IsDesign ms place → slice_get ms place ≡ Some top → RestsOnNoInput ms (is_top ms) top → IsCausal answers → IsCausal shows → IsCausal others → FitsPowerUp ms top contents
    → IsOnly ms top (IsReactiveRun ms top env answers shows others contents)

-- a rule that looks at the outputs of the same cycle alone looks at no later one
abbrev pub SameCycleIsCausal : Type 0
SameCycleIsCausal = (f : (Name → ℕ) → ℕ → ℕ → Bool) → IsCausal (λ h i n. f (h n) i n)

abbrev pub SameCycleNumbersAreCausal : Type 0
SameCycleNumbersAreCausal = (f : (Name → ℕ) → ℕ → ℕ → ℕ) → IsCausal (λ h i n. f (h n) i n)
