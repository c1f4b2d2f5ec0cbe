use Rattle.std.proofs.Common.{◌≡◌, length, arith}
use Rattle.hw_top_lines.specs.Texts.{waiting}
use Rattle.hw_nets.proofs.Grows.{each_more, each_end}
use Rattle.hw_top.proofs.wires.add_all_waiting.Goals as goal

pub loop-i-preserved : goal.loop-i-preserved
loop-i-preserved c =
    let f = waiting c.args.program.now in
    each_more c.args.draft.now c.loop-i.draft c.add_waiting.new.draft f c.loop-i.i c.loop-i.invariant c.in_ok-add_waiting.ensures

pub returns : goal.returns
returns c =
    let f = waiting c.args.program.now in
    let all : c.loop-i.i ≡ length c.args.program.now.instances.items = omega (arith, c.in_ok-count.ensures, c.args.program.now.instances.ok.0) in
    each_end c.args.draft.now c.loop-i.draft f c.loop-i.i (length c.args.program.now.instances.items) all c.loop-i.invariant
