-- Nets that can be read.
use Rattle.std.specs.Prelude.{◌≡◌, false, List, Some, IsTrue}
use Rattle.vlog_tree.specs.Form.{ModuleTree}
use Rattle.vlog_tree.specs.Flattened.{FlatNet}
use Rattle.vlog_tree.specs.Table.{is_clk, declared, net_kind_of, net_kind_is_read}
use Rattle.vlog_tree.specs.Cycle.{module_at}

-- a net that can be read, and no clock
pub record CanBeRead (ms : List ModuleTree) (top : ModuleTree) (n : FlatNet) : Type 0 where
  pub tree : ModuleTree
  pub at : module_at ms top n.0 ≡ Some tree
  pub read : IsTrue (net_kind_is_read (net_kind_of (declared tree) n.1))
  pub clock : is_clk n.1 ≡ false
