use Rattle.std.proofs.Common.{◌≡◌, ℕ, length, arith}
use Rattle.std.specs.Prelude.{slice_get}
use Rattle.hw_top_lines.specs.Texts.{take_wire}
use Rattle.hw_nets.proofs.Grows.{each_more, each_end}
use Rattle.hw_top.proofs.wires.add_takes.Goals as goal

pub loop-s-preserved : goal.loop-s-preserved
loop-s-preserved c =
    let f = λ (s : ℕ). take_wire (slice_get c.args.program.now.streams.items s) in
    each_more c.args.draft.now c.loop-s.draft c.add_take.new.draft f c.loop-s.s c.loop-s.invariant c.in_ok-add_take.ensures

pub returns : goal.returns
returns c =
    let f = λ (s : ℕ). take_wire (slice_get c.args.program.now.streams.items s) in
    let all : c.loop-s.s ≡ length c.args.program.now.streams.items = omega (arith, c.in_ok-count.ensures, c.args.program.now.streams.ok.0) in
    each_end c.args.draft.now c.loop-s.draft f c.loop-s.s (length c.args.program.now.streams.items) all c.loop-s.invariant
