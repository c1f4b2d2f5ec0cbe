use Rattle.std.proofs.Common.{◌≡◌, ℕ, length, arith}
use Rattle.std.specs.Prelude.{slice_get, slice_index}
use Rattle.hw_top_lines.specs.Texts.{channel_part}
use Rattle.hw_nets.proofs.Grows.{each_more, each_end}
use Rattle.hw_top.proofs.instances.add_channels.Goals as goal

pub loop-s-preserved : goal.loop-s-preserved
loop-s-preserved c =
    let f = λ (s : ℕ). channel_part (slice_index c.args.added.now s) (slice_get c.args.program.now.streams.items s) in
    each_more c.args.draft.now c.loop-s.draft c.add_channel.new.draft f c.loop-s.s c.loop-s.invariant c.in_ok-add_channel.ensures

pub returns : goal.returns
returns c =
    let f = λ (s : ℕ). channel_part (slice_index c.args.added.now s) (slice_get c.args.program.now.streams.items s) in
    let all : c.loop-s.s ≡ length c.args.program.now.streams.items = omega (arith, c.in_ok-count.ensures, c.args.program.now.streams.ok.0) in
    each_end c.args.draft.now c.loop-s.draft f c.loop-s.s (length c.args.program.now.streams.items) all c.loop-s.invariant
