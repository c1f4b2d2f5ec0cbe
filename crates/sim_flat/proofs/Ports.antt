-- The ports of an instance are names of its module.
use Rattle.std.proofs.Common.{◌≡◌, true, List, Some, sym, ap, map}
use Rattle.vlog_tree.specs.declared.tree.Connection.{Connection}
use Rattle.vlog_tree.specs.declared.tree.Item.TheVariants.{Instance}
use Rattle.vlog_tree.specs.declared.table.Declaration.{Declaration}
use Rattle.vlog_tree.specs.Form.{ModuleTree}
use Rattle.tapa_base.specs.Lists.{Has}
use Rattle.vlog_tree.specs.Table.{Name, declared, port_declared, module_named, net_kind_of, net_kind_is_read, net_kind_is_input, ports_of, first_violation}
use Rattle.vlog_tree.specs.V2.{v2_uses}
use Rattle.std.specs.Prelude.{None}
use Rattle.vlog_run_laws.proofs.runs.Sound.{connection_port}
use Rattle.vlog_run_laws.proofs.runs.Alone.{module_is, IsNamed}
use Rattle.vlog_run_laws.proofs.runs.Cycles.{port_net_kind_declared}

module _ (ms : List ModuleTree) (v2 : first_violation (v2_uses ms) ≡ None) (m : ModuleTree) (in_ms : Has ms m) (kn i : Name) (connections : List Connection) (has : Has m.items (Instance kn i connections))
    (inner : ModuleTree) (named : module_named ms kn ≡ Some inner) where
  abbrev ports : List Declaration
  ports = map port_declared (ports_of ms kn)

  pub inner_named : IsNamed ms kn inner
  inner_named = module_is ms kn inner named

  pub port_same : (x : Name) → net_kind_is_read (net_kind_of ports x) ≡ true → net_kind_of (declared inner) x ≡ net_kind_of ports x
  port_same x read = port_net_kind_declared inner x (net_kind_of ports x) read (ap (λ ps. net_kind_of (map port_declared ps) x) (sym inner_named.ports))

  -- whether the port of a connection is an input
  pub direction_same : (l : Connection) → Has connections l → net_kind_is_input (net_kind_of (declared inner) l.port) ≡ net_kind_is_input (net_kind_of ports l.port)
  direction_same l h = ap net_kind_is_input (port_same l.port (connection_port ms v2 m in_ms kn i connections has l h))
