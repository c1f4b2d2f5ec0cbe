use Rattle.std.proofs.Common.{◌≡◌, ℕ, List, [], drop}
use Rattle.vlog_tree.specs.declared.tree.PortDecl.{PortDecl}
use Rattle.vlog_scope.specs.NameTable.{value_in}
use Rattle.vlog_tree.specs.Table.{first_violation}
use Rattle.vlog_tree.specs.V6.{bits_before, top_ports}
use Rattle.vlog_design.proofs.top.first_misfit_port.Given as goal

abbrev pub invariant-loop-p : goal.invariant-loop-p
invariant-loop-p l =
    (earlier : List PortDecl) × ((x : List ℕ) → value_in l.before x ≡ bits_before earlier x)
    × (first_violation (top_ports l.scope [] l.ports) ≡ first_violation (top_ports l.scope earlier (drop l.p-index l.ports)))
