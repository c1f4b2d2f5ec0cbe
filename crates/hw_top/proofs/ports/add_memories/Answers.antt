use Rattle.std.proofs.Common.{◌≡◌, ℕ, length, arith}
use Rattle.std.specs.Prelude.{slice_get}
use Rattle.hw_top_lines.specs.Texts.{memory_ports}
use Rattle.hw_nets.proofs.Grows.{each_more, each_end}
use Rattle.hw_top.proofs.ports.add_memories.Goals as goal

pub loop-m-preserved : goal.loop-m-preserved
loop-m-preserved c =
    let f = λ (m : ℕ). memory_ports (slice_get c.args.program.now.memories.items m) in
    each_more c.args.draft.now c.loop-m.draft c.add_memory.new.draft f c.loop-m.m c.loop-m.invariant c.in_ok-add_memory.ensures

pub returns : goal.returns
returns c =
    let f = λ (m : ℕ). memory_ports (slice_get c.args.program.now.memories.items m) in
    let all : c.loop-m.m ≡ length c.args.program.now.memories.items = omega (arith, c.in_ok-count.ensures, c.args.program.now.memories.ok.0) in
    each_end c.args.draft.now c.loop-m.draft f c.loop-m.m (length c.args.program.now.memories.items) all c.loop-m.invariant
