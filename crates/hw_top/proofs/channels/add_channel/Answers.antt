use Rattle.std.proofs.Common.{arith}
use Rattle.std.proofs.lemmas.Result.{IfOk-weaker}
use Rattle.hw_top.proofs.Found.{found, missing}
use Rattle.hw_top.proofs.ChannelModules.{stream_grows, no_stream_stays}
use Rattle.hw_top.proofs.channels.add_channel.Goals as goal

pub channel_modules-requires-clause-some : goal.channel_modules-requires-clause-some
channel_modules-requires-clause-some c =
    let stream = found c.args.program.now.streams.items c.deref.result.now c.args.s c.in-Some.stream.now c.deref.ensures.value c.in-Some.ensures.lookup.3.0 c.in-Some.ensures.lookup.1 in
    (c.requires.program.streams c.args.s c.in-Some.stream.now stream).some_depth

pub channel_modules-requires-clause-most : goal.channel_modules-requires-clause-most
channel_modules-requires-clause-most c =
    let stream = found c.args.program.now.streams.items c.deref.result.now c.args.s c.in-Some.stream.now c.deref.ensures.value c.in-Some.ensures.lookup.3.0 c.in-Some.ensures.lookup.1 in
    (c.requires.program.streams c.args.s c.in-Some.stream.now stream).within

pub channel_modules-requires-clause-late : goal.channel_modules-requires-clause-late
channel_modules-requires-clause-late c = omega (arith, c.requires.added c.args.s, c.number_at-late.ensures)

pub returns-in_ok-new-in-Some : goal.returns-in_ok-new-in-Some
returns-in_ok-new-in-Some c =
    let r = c.in-Some.stream.now in
    let stream = found c.args.program.now.streams.items c.deref.result.now c.args.s r c.deref.ensures.value c.in-Some.ensures.lookup.3.0 c.in-Some.ensures.lookup.1 in
    record {
      modules =
          IfOk-weaker c.add_new.result _ _
          (λ u e. stream_grows c.args.program.now c.args.added.now c.args.s c.number_at-late.result c.args.modules.now.items c.in_ok-new-in-Some.new.items c.add_new.new.modules.items r stream c.number_at-late.ensures c.in_ok-new-in-Some.ensures e)
          c.add_new.ensures.modules;
      places = c.add_new.ensures.places;
    }

pub returns-in-None : goal.returns-in-None
returns-in-None c = record {
  modules = no_stream_stays c.args.program.now c.args.added.now c.args.s c.args.modules.now.items (missing c.args.program.now.streams.items c.deref.result.now c.args.s c.deref.ensures.value c.in-None.ensures.lookup.3);
  places = c.requires.places;
}
