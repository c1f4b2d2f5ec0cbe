use Rattle.std.proofs.Common.{◌≡◌, length, arith}
use Rattle.hw_top_lines.specs.Texts.{stream_connections}
use Rattle.hw_top.proofs.Joined.{part_more, part_last}
use Rattle.hw_top.proofs.ends.add_streams.Goals as goal

pub loop-p-preserved : goal.loop-p-preserved
loop-p-preserved c = part_more c.args.ends.now.items c.loop-p.ends.items c.add_stream.new.ends.items (stream_connections c.args.program.now c.args.x.now c.args.leaf.now) c.loop-p.p c.loop-p.invariant c.in_ok-add_stream.ensures

pub returns : goal.returns
returns c =
    let all : c.loop-p.p ≡ length c.args.leaf.now.streams.items = omega (arith, c.in_ok-count.ensures, c.args.leaf.now.streams.ok.0) in
    part_last c.args.ends.now.items c.loop-p.ends.items (stream_connections c.args.program.now c.args.x.now c.args.leaf.now) c.loop-p.p (length c.args.leaf.now.streams.items) all c.loop-p.invariant
