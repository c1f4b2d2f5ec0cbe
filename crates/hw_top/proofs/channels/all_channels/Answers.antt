use Rattle.std.proofs.Common.{◌≡◌, length, ap, ◌∙◌, arith}
use Rattle.hw_top_lines.specs.Designs.{channels_before}
use Rattle.hw_top.proofs.ChannelModules.{channels_grow}
use Rattle.hw_top.proofs.channels.all_channels.Goals as goal

pub loop-s-preserved : goal.loop-s-preserved
loop-s-preserved c = record {
  modules = channels_grow c.args.program.now c.args.added.now c.loop-s.s c.loop-s.modules.items c.add_channel.new.modules.items c.loop-s.invariant.modules c.in_ok-add_channel.ensures.modules;
  places = c.in_ok-add_channel.ensures.places;
}

pub returns : goal.returns
returns c =
    let all : c.loop-s.s ≡ length c.args.program.now.streams.items = omega (arith, c.in_ok-count.ensures, c.args.program.now.streams.ok.0) in
    c.loop-s.invariant.modules ∙ ap (channels_before c.args.program.now c.args.added.now) all
