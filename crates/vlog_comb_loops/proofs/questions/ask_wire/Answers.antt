use Rattle.std.proofs.Common.{◌<◌, length, arith}
use Rattle.vlog_comb_loops.proofs.Asking.{wire_more, dot_low}
use Rattle.vlog_comb_loops.proofs.questions.ask_wire.Goals as goal

pub loop-dot-preserved : goal.loop-dot-preserved
loop-dot-preserved c =
    let step = c.in_ok-ask_at.ensures in
    record {
      there = wire_more c.loop-dot.questions c.ask_at.new.questions c.args.named.now c.args.k.now c.args.name.now c.loop-dot.dot step.kept c.loop-dot.invariant.there step.there;
      kept = λ m e h. step.kept m e (c.loop-dot.invariant.kept m e h);
    }

pub returns-clause-there : goal.returns-clause-there
returns-clause-there c = λ i x e.
    let low : length i < length c.args.name.now = dot_low c.args.name.now i x e in
    let over = c.loop-dot-test.false in
    c.loop-dot.invariant.there i x (omega (arith, over)) e
