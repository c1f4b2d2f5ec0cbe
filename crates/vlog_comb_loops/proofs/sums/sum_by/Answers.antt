use Rattle.std.proofs.Common.{◌∙◌, [], refl}
use Rattle.vlog_comb_loops.specs.Summaries.{IsPair}
use Rattle.vlog_comb_loops.proofs.Gathering.{next_output, all_outputs}
use Rattle.vlog_comb_loops.proofs.sums.sum_by.Goals as goal

pub loop-d-preserved : goal.loop-d-preserved
loop-d-preserved c = record {
  room = c.in_ok-add_output.ensures.room ∙ c.loop-d.invariant.room;
  gathers = λ edges g.
      next_output (IsPair edges c.args.ports.now) c.declarations-d-items.result.now c.loop-d.d-index c.d-item.result c.loop-d-test.true c.d-item.is
      [] c.loop-d.pairs.items c.add_output.new.pairs.items (c.loop-d.invariant.gathers edges g) (c.in_ok-add_output.ensures.gathers edges g);
}

pub returns : goal.returns
returns c = λ edges g.
    all_outputs edges c.args.ports.now c.declarations-d-items.result.now c.loop-d.d-index c.loop-d-test.false c.declarations-d-items.ensures
    [] c.loop-d.pairs.items refl (c.loop-d.invariant.gathers edges g)
