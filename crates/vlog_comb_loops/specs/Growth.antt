-- Lists as they are gathered.
use Rattle.tapa_base.specs.Lists.{Has}
use Rattle.vlog_tree.specs.Table.{Name}
use Rattle.vlog_tree.specs.Loops.{Edges}

-- To a list of pairs with a property P some were put, so that it has all that Q picks.
pub record Gathers (P Q : Name → Name → Type 0) (old new : Edges) : Type 0 where
  pub right : ((x y : Name) → Has old (x, y) → P x y) → (x y : Name) → Has new (x, y) → P x y
  pub kept : (x y : Name) → Has old (x, y) → Has new (x, y)
  pub there : (x y : Name) → P x y → Q x y → Has new (x, y)
