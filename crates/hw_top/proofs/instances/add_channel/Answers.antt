use Rattle.std.proofs.lemmas.Result.{IfOk-weaker}
use Rattle.hw_top.proofs.Found.{found, missing}
use Rattle.hw_top.proofs.Parts.{channel_grows, no_channel_stays}
use Rattle.hw_top.proofs.instances.add_channel.Goals as goal

pub returns-in_ok-ends-in-Some : goal.returns-in_ok-ends-in-Some
returns-in_ok-ends-in-Some c =
    let program = c.args.program.now in
    let r = c.in-Some.r.now in
    let stream = found program.streams.items c.deref.result.now c.args.s r c.deref.ensures.value c.in-Some.ensures.lookup.3.0 c.in-Some.ensures.lookup.1 in
    IfOk-weaker c.instance.result _ _
    (λ u e. channel_grows program c.args.added.now c.args.s c.number_at.result c.token_bits.result r c.args.draft.now c.instance.new.self c.in_ok-module-in-Some.module c.in_ok-name-in-Some.name c.in_ok-ends-in-Some.ends stream c.number_at.ensures
    c.token_bits.ensures.value c.in_ok-module-in-Some.ensures c.in_ok-name-in-Some.ensures c.in_ok-ends-in-Some.ensures e)
    c.instance.ensures

pub returns-in-None : goal.returns-in-None
returns-in-None c = no_channel_stays c.args.program.now c.args.added.now c.args.s c.args.draft.now (missing c.args.program.now.streams.items c.deref.result.now c.args.s c.deref.ensures.value c.in-None.ensures.lookup.3)
