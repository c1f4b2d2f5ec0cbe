use Rattle.std.proofs.Common.{ap, ◌∙◌}
use Rattle.std.proofs.lemmas.Result.{IfOk-weaker}
use Rattle.hw_top_lines.specs.Channels.{channel_modules}
use Rattle.hw_top.proofs.ChannelModules.{modules_are}
use Rattle.hw_top.proofs.channels.channel_modules.Goals as goal

pub returns : goal.returns
returns c =
    IfOk-weaker c.channel.result _ _
    (λ ms are. modules_are c.token_bits.result c.args.stream.now.depth c.args.late ms.items are ∙ ap (λ b. channel_modules b c.args.stream.now.depth c.args.late) c.token_bits.ensures.value)
    c.channel.ensures.text
