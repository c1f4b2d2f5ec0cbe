use Rattle.std.proofs.Common.{length, ◌∙◌}
use Rattle.hw_build.specs.Scope.{each}
use Rattle.hw_top_lines.specs.Texts.{scalar_connections, stream_connections, memory_connections}
use Rattle.hw_top.proofs.Joined.{all_joined}
use Rattle.hw_top.proofs.ends.task_connections.Goals as goal

pub returns : goal.returns
returns c =
    let program = c.args.program.now in
    let x = c.args.x.now in
    let leaf = c.args.leaf.now in
    c.of.ensures
    ∙ all_joined c.in_ok-ends.ends.items c.add_scalars.new.ends.items c.add_streams.new.ends.items c.add_memories.new.ends.items (each (scalar_connections c.args.i x) (length leaf.scalars.items)) (each (stream_connections program x leaf) (length leaf.streams.items))
    (each (memory_connections program x) (length leaf.memories.items)) _ c.in_ok-ends.ensures c.in_ok-add_scalars.ensures c.in_ok-add_streams.ensures c.in_ok-add_memories.ensures
