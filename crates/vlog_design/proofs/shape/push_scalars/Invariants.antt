use Rattle.std.proofs.Common.{◌≡◌, ◌++◌, drop}
use Rattle.std.specs.List.{flat_map}
use Rattle.vlog_tree.specs.declared.tree.PortDecl.{PortDecl}
use Rattle.vlog_tree.specs.Environment.{scalar_label}
use Rattle.vlog_tree.specs.Labels.{scalar_of}
use Rattle.vlog_design.proofs.shape.push_scalars.Given as goal

abbrev pub invariant-loop-port : goal.invariant-loop-port
invariant-loop-port l = l.out.items ++ flat_map (λ (p : PortDecl). scalar_label p (scalar_of p.name)) (drop l.port-index l.ports) ≡ l.fn.out.items ++ flat_map (λ (p : PortDecl). scalar_label p (scalar_of p.name)) l.ports
