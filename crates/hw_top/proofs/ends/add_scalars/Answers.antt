use Rattle.std.proofs.Common.{◌≡◌, length, arith}
use Rattle.hw_top_lines.specs.Texts.{scalar_connections}
use Rattle.hw_top.proofs.Joined.{part_more, part_last}
use Rattle.hw_top.proofs.ends.add_scalars.Goals as goal

pub loop-p-preserved : goal.loop-p-preserved
loop-p-preserved c = part_more c.args.ends.now.items c.loop-p.ends.items c.add_scalar.new.ends.items (scalar_connections c.args.i c.args.x.now) c.loop-p.p c.loop-p.invariant c.in_ok-add_scalar.ensures

pub returns : goal.returns
returns c =
    let all : c.loop-p.p ≡ length c.args.leaf.now.scalars.items = omega (arith, c.in_ok-count.ensures, c.args.leaf.now.scalars.ok.0) in
    part_last c.args.ends.now.items c.loop-p.ends.items (scalar_connections c.args.i c.args.x.now) c.loop-p.p (length c.args.leaf.now.scalars.items) all c.loop-p.invariant
