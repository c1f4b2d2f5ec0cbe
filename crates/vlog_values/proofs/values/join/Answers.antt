use Rattle.std.proofs.Common.{ap, ◌∙◌}
use Rattle.vlog_values.specs.Numbers.{cycle_of, sizes_of, fitting}
use Rattle.vlog_values.proofs.Fits.{is_fit, refit}
use Rattle.vlog_values.proofs.Joins.{join_more, join_past, join_end}
use Rattle.vlog_values.proofs.values.join.Goals as goal

pub returns-in-None : goal.returns-in-None
returns-in-None c = λ memories.
    join_past (sizes_of c.args.nets.now memories) (cycle_of c.args.nets.now memories) c.args.atoms.now c.loop-a.a-index c.loop-a.n c.bits_of_atom.result c.value_of_atom.result c.a-item.result c.loop-a-test.true c.a-item.is
    (c.bits_of_atom.ensures memories) (c.value_of_atom.ensures memories) (c.loop-a.invariant.1 memories) c.in-None.ensures

pub loop-a-preserved : goal.loop-a-preserved
loop-a-preserved c = (
  refit _ _ c.in-Some.ensures,
  λ memories. join_more (sizes_of c.args.nets.now memories) (cycle_of c.args.nets.now memories) c.args.atoms.now c.loop-a.a-index c.loop-a.n c.bits_of_atom.result c.value_of_atom.result c.a-item.result c.loop-a-test.true c.a-item.is
      (c.bits_of_atom.ensures memories) (c.value_of_atom.ensures memories) (c.loop-a.invariant.1 memories) c.in-Some.more (is_fit _ _ c.in-Some.ensures),
)

pub returns : goal.returns
returns c = λ memories. c.loop-a.invariant.0 ∙ ap fitting (join_end (sizes_of c.args.nets.now memories) (cycle_of c.args.nets.now memories) c.args.atoms.now c.loop-a.a-index c.loop-a.n c.loop-a-test.false (c.loop-a.invariant.1 memories))
