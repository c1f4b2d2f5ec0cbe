-- The nets of a value change dump.
use Rattle.std.specs.Prelude.{ℕ, Bool}
use Rattle.vlog_tree.specs.Table.{Name}

-- a net's name, its width in bits, and whether it is declared a reg
pub record Net : Type 0 where
  pub name : Name
  pub bits : ℕ
  pub is_reg : Bool
