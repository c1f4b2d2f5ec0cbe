-- Sums that take in the pairs of others.
use Rattle.std.specs.Prelude.{◌≡◌, ◌⊎◌, List, Bool, true, false}
use Rattle.tapa_base.specs.Lists.{Has}
use Rattle.vlog_tree.specs.Table.{Name}
use Rattle.vlog_tree.specs.Loops.{Edges}
use Rattle.vlog_tree.specs.declared.table.Declaration.{Declaration}
use Rattle.vlog_comb_loops.specs.Summaries.{IsPair}
use Rattle.vlog_comb_loops.specs.Questions.{Question}

-- The new sum has the pairs of the old one and those of another, and no more. The answer says whether it has one more.
pub record IsMerged (old pairs new : Edges) (added : Bool) : Type 0 where
  pub kept : (x y : Name) → Has old (x, y) → Has new (x, y)
  pub right : (x y : Name) → Has new (x, y) → Has old (x, y) ⊎ Has pairs (x, y)
  pub there : (x y : Name) → Has pairs (x, y) → Has new (x, y)
  pub same : added ≡ false → new ≡ old
  pub one_more : added ≡ true → (x : Name) × (y : Name) × Has pairs (x, y) × (Has old (x, y) → ⊥) × Has new (x, y)

-- The new sum has the pairs of the old one and some that edges give, and all of them where another module asks. The answer
-- says whether it has one more.
pub record IsGrown (edges : Edges) (ports : List Declaration) (asked : List Question) (old new : Edges) (added : Bool) : Type 0 where
  pub kept : (x y : Name) → Has old (x, y) → Has new (x, y)
  pub right : (x y : Name) → Has new (x, y) → Has old (x, y) ⊎ IsPair edges ports x y
  pub there : (e : Question) → Has asked e → (x y : Name) → IsPair edges ports x y → Has new (x, y)
  pub same : added ≡ false → new ≡ old
  pub one_more : added ≡ true → (x : Name) × (y : Name) × IsPair edges ports x y × (Has old (x, y) → ⊥) × Has new (x, y)
