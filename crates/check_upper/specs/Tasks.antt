-- What the tasks of a legal file mean: the leaf of a leaf task; the streams and the invocations of an upper-level task,
-- with what each name in them denotes.
use Rattle.std.specs.Prelude.{ℕ, ◌+◌, Bool, List, [], ◌∷◌, Option, Some, None, bytes_eq, if◌then◌else◌}
use Rattle.tapa_base.specs.declared.text.Place.{Place}
use Rattle.tapa_syntax.specs.declared.tree.Parameter.{Parameter}
use Rattle.tapa_syntax.specs.Trees.{TaskTree}
use Rattle.tapa_syntax.specs.Flat.{FlatLeaf}
use Rattle.check_upper.specs.declared.task.Channel.{Channel}
use Rattle.check_upper.specs.declared.task.Binding.{Binding}

pub record Invocation : Type 0 where
  -- where the task is named
  pub place : Place
  -- it is not waited for
  pub detached : Bool
  -- its number among the tasks of the file
  pub task : ℕ
  -- what the arguments are, in the order of its parameters
  pub bindings : List Binding

pub data Body : Type 0 where
  leaf_body : FlatLeaf → Body
  upper_body : List Channel → List Invocation → Body

pub record Task : Type 0 where
  pub declared : TaskTree
  pub body : Body

-- the number of the first task of this name, and of no task where there is none
abbrev pub task_position : ℕ → List ℕ → List Task → ℕ
task_position n x [] = n
task_position n x (t ∷ rest) = if bytes_eq t.declared.name.text x then n else task_position (n + 1) x rest

abbrev pub parameters_of : Option Task → List Parameter
parameters_of None = []
parameters_of (Some t) = t.declared.parameters
