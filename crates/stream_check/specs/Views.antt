-- What parts are where they lie in memory.
use denote.Ref.{Bor}
use Rattle.std.specs.Prelude.{ℕ, zero, suc, List, [], ◌∷◌, ◌++◌, map, length, Option, Some, None, Result}
use Rattle.tapa_syntax.specs.Flat.{FlatInstance, flat_instance}
use Rattle.check_scope.specs.declared.fault.Broken.{Broken}
use Rattle.check_scope.specs.declared.fault.CheckFault.{CheckFault}
use Rattle.check_scope.specs.Answers.{ScopeAnswers}
use Rattle.check_scope.specs.Scopes.{Block}
use Rattle.tapa_base.specs.declared.text.Place.{Place}
use Rattle.check_upper.specs.declared.task.Body.{Body}
use Rattle.check_upper.specs.declared.task.Channel.{Channel}
use Rattle.check_upper.specs.declared.task.Task as table
use Rattle.check_upper.specs.Tasks as task
use Rattle.check_upper.specs.Tasks.{Invocation, Task}
use Rattle.check_upper.specs.Views.{body_view, task_view}
use Rattle.stream_check.specs.declared.parts.Parts.{Parts}
use Rattle.stream_check.specs.Parts.{Part, too_deep, streams_in, instances_in, own_parts, followed, chain_parts, parts_of}
use Rattle.stream_check.specs.Programs.{limit_faults}
use Rattle.stream_check.specs.Items.{Items}

abbrev pub body_found : Option (Bor Body) → Option task.Body
body_found None = None
body_found (Some b) = Some (body_view b.now)

abbrev pub task_found : Option (Bor table.Task) → Option Task
task_found None = None
task_found (Some t) = Some (task_view t.now)

abbrev pub items_view : Block → List table.Task → Items
items_view block tasks = record { block = block; tasks = map task_view tasks }

-- the streams and the leaf instances
pub record Flat : Type 0 where
  pub streams : List Channel
  pub instances : List FlatInstance

abbrev pub flat_of : Parts → Flat
flat_of p = record { streams = p.streams.items; instances = map flat_instance p.instances.items }

abbrev pub with_parts : Flat → List Part → Flat
with_parts f parts = record { streams = f.streams ++ streams_in parts; instances = f.instances ++ instances_in parts }

abbrev pub flat_parts : List Part → Flat
flat_parts parts = record { streams = streams_in parts; instances = instances_in parts }

-- the limits that these parts pass
abbrev pub flat_faults : Flat → List Part → List Broken
flat_faults f parts = limit_faults (length f.streams) (length f.instances) parts

-- these parts are added, and the first that passes a limit is refused
abbrev pub AddsParts : Result (Unit {0}) CheckFault → Parts → Parts → List Part → Type 0
AddsParts result before after parts = ScopeAnswers (λ x. flat_of after) result (flat_faults (flat_of before) parts) (with_parts (flat_of before) parts)

-- the parts of an upper-level instance, where tasks may nest at most this number of levels deep
abbrev pub upper_parts : ℕ → List Task → Place → FlatInstance → ℕ → List Channel → List Invocation → List Part
upper_parts zero tasks at x n channels invocations = too_deep at ∷ []
upper_parts (suc levels) tasks at x n channels invocations = followed n (own_parts x.label channels) (λ m. chain_parts (parts_of levels tasks) tasks x n 0 m invocations)
