use Rattle.std.proofs.Common.{◌<◌, arith, length}
use Rattle.std.proofs.lemmas.Option.{slice_get-get_or, slice_get_within}
use Rattle.vlog_design.specs.Environments.{lists_of}
use Rattle.cycle_sim.proofs.Writing.{given_more, away_more}
use Rattle.cycle_sim.proofs.inputs.give.Goals as goal

pub loop-input-preserved : goal.loop-input-preserved
loop-input-preserved c =
    let i = c.loop-input.input-index in
    let inputs = c.args.inputs.now in
    let ready = lists_of c.args.ready.now in
    let got = slice_get-get_or inputs i _ (omega arith) in (
      given_more ready c.args.cycle _ inputs c.requires c.args.numbers.now c.loop-input.numbers c.put_pair.new.numbers i _ got c.supplied.result c.supplied.ensures c.put_pair.ensures.value c.put_pair.ensures.kept c.loop-input.invariant.0 c.loop-input.invariant.1,
      away_more ready c.args.cycle _ inputs c.requires c.args.numbers.now c.loop-input.numbers c.put_pair.new.numbers i _ got c.supplied.result c.supplied.ensures c.put_pair.ensures.value c.put_pair.ensures.kept c.loop-input.invariant.0 c.loop-input.invariant.1,
    )

pub returns-clause-values : goal.returns-clause-values
returns-clause-values c = λ i a g.
    let low : i < length c.args.inputs.now = slice_get_within c.args.inputs.now i a g in
    c.loop-input.invariant.0 i a (omega arith) g
