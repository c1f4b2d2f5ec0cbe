use Rattle.std.proofs.Common.{◌<◌, length, arith}
use Rattle.std.proofs.lemmas.Option.{slice_get-get_or, slice_get_within}
use Rattle.vlog_design.specs.Environments.{lists_of}
use Rattle.cycle_sim.proofs.Writing.{held_more}
use Rattle.cycle_sim.proofs.inputs.are_given.Goals as goal

pub loop-input-preserved : goal.loop-input-preserved
loop-input-preserved c =
    let i = c.loop-input.input-index in
    let inputs = c.args.inputs.now in
    let got = slice_get-get_or inputs i _ c.loop-input-test.true in
    held_more (lists_of c.args.ready.now) c.args.cycle inputs c.args.numbers.now i _ got c.supplied.result c.supplied.ensures (c.has_number.ensures c.if-not-has_number.false) c.loop-input.invariant

pub returns : goal.returns
returns c = λ e i a g.
    let low : i < length c.args.inputs.now = slice_get_within c.args.inputs.now i a g in
    c.loop-input.invariant i a (omega arith) g
