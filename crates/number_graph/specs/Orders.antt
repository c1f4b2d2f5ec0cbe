-- What is answered of a graph.
use Rattle.std.specs.Prelude.{◌≡◌, ℕ, ◌<◌, length, get_or, Option, Some, None}
use Rattle.tapa_base.specs.Lists.{Chain}
use Rattle.number_graph.specs.declared.order.Order.{Order}
use Rattle.number_graph.specs.declared.order.Order.TheVariants.{PartsFirst, Cycle}
use Rattle.number_graph.specs.declared.order.Visit.{Visit}
use Rattle.number_graph.specs.Graphs.{Adjacency, Steps, IsOrder}
use Rattle.number_graph.specs.Visits.{IsVisit, steps_left, IsFurther}

-- an order of all nodes, or a node on a cycle
abbrev pub IsAnswer : Adjacency → Order → Type 0
IsAnswer g (PartsFirst order) = IsOrder g order.items
IsAnswer g (Cycle k) = (k < length g) × Chain (Steps g) k k

abbrev pub IsVisitOf : Adjacency → Visit → Type 0
IsVisitOf g v = IsVisit g v.progress.items v.path.items v.order.items

abbrev pub left_of : Adjacency → Visit → ℕ
left_of g v = steps_left g v.progress.items

-- one or more steps nearer to the end
pub record GoesOn (g : Adjacency) (old new : Visit) : Type 0 where
  pub visit : IsVisitOf g new
  pub further : IsFurther old.progress.items new.progress.items
  pub less : left_of g new < left_of g old

-- a node on a cycle is the answer, or the visit goes on
abbrev pub IsTurn : Adjacency → Visit → Visit → Option ℕ → Type 0
IsTurn g old new None = GoesOn g old new
IsTurn g old new (Some k) = (k < length g) × Chain (Steps g) k k

-- a node on a cycle is the answer, or all that a root reaches is done
pub record IsVisited (g : Adjacency) (root : ℕ) (old new : Visit) : Type 0 where
  pub visit : IsVisitOf g new
  pub further : IsFurther old.progress.items new.progress.items
  pub empty : length new.path.items ≡ 0
  pub begun : 0 < get_or new.progress.items root 0

abbrev pub IsRootTurn : Adjacency → ℕ → Visit → Visit → Option ℕ → Type 0
IsRootTurn g root old new None = IsVisited g root old new
IsRootTurn g root old new (Some k) = (k < length g) × Chain (Steps g) k k
