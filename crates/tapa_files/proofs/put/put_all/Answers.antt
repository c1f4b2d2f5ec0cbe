use Rattle.std.proofs.Common.{arith, ◌∙◌}
use Rattle.tapa_files.proofs.Known.{put_more, put_part, put_kept}
use Rattle.tapa_files.proofs.put.put_all.Goals as goal

pub loop-rest-preserved : goal.loop-rest-preserved
loop-rest-preserved g c = (
  put_more (g.O.Sink.contents c.args.sink.now) (g.O.Sink.contents c.loop-rest.sink) (g.O.Sink.contents c.write.new.self) c.args.bytes.now c.loop-rest.rest.now c.in-Ok.count c.loop-rest.invariant.0 c.in-Ok.ensures.bound c.in-Ok.ensures.appends,
  (c.in-Ok.ensures.calm (λ none. absurd (omega (arith, none)))) ∙ c.loop-rest.invariant.1,
)

pub returns-in_default-clause-part : goal.returns-in_default-clause-part
returns-in_default-clause-part g c =
    put_part (g.O.Sink.contents c.args.sink.now) (g.O.Sink.contents c.write.new.self) c.args.bytes.now _
    (put_more (g.O.Sink.contents c.args.sink.now) (g.O.Sink.contents c.loop-rest.sink) (g.O.Sink.contents c.write.new.self) c.args.bytes.now c.loop-rest.rest.now c.in-Ok.count c.loop-rest.invariant.0 c.in-Ok.ensures.bound c.in-Ok.ensures.appends)

pub returns-in_default-2-clause-part : goal.returns-in_default-2-clause-part
returns-in_default-2-clause-part g c =
    put_kept (g.O.Sink.contents c.args.sink.now) (g.O.Sink.contents c.loop-rest.sink) (g.O.Sink.contents c.write.new.self) c.args.bytes.now c.loop-rest.rest.now c.loop-rest.invariant.0 c.in_default.ensures.appends
