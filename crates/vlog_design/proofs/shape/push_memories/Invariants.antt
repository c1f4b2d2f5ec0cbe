use Rattle.std.proofs.Common.{◌≡◌, ◌++◌, drop}
use Rattle.std.specs.List.{flat_map}
use Rattle.vlog_tree.specs.declared.tree.PortDecl.{PortDecl}
use Rattle.vlog_tree.specs.Environment.{memory_label}
use Rattle.vlog_tree.specs.Labels.{ack_of}
use Rattle.vlog_design.proofs.shape.push_memories.Given as goal

abbrev pub invariant-loop-port : goal.invariant-loop-port
invariant-loop-port l = l.out.items ++ flat_map (λ (p : PortDecl). memory_label l.scope (ack_of p.name)) (drop l.port-index l.ports) ≡ l.fn.out.items ++ flat_map (λ (p : PortDecl). memory_label l.scope (ack_of p.name)) l.ports
