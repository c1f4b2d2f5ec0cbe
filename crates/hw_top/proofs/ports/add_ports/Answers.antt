use Rattle.std.proofs.Common.{ℕ, List, length}
use Rattle.std.specs.Prelude.{slice_get}
use Rattle.hw_build.specs.Elements.{Element}
use Rattle.hw_build.specs.Scope.{each}
use Rattle.hw_nets.proofs.Grows.{both}
use Rattle.hw_top_lines.specs.Texts.{memory_ports, scalar_port}
use Rattle.hw_top.proofs.ports.add_ports.Goals as goal

pub returns : goal.returns
returns c =
    let program = c.args.program.now in
    let s : List Element = each (λ (x : ℕ). scalar_port (slice_get program.scalars.items x)) (length program.scalars.items) in
    let m : List Element = each (λ (m : ℕ). memory_ports (slice_get program.memories.items m)) (length program.memories.items) in
    both c.args.draft.now c.add_scalars.new.draft c.add_memories.new.draft s m c.in_ok-add_scalars.ensures c.in_ok-add_memories.ensures
