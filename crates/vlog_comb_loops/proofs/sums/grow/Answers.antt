use Rattle.vlog_comb_loops.specs.Questions.{asked_of}
use Rattle.vlog_comb_loops.proofs.Rooms.{grown_merged, grown_not}
use Rattle.vlog_comb_loops.proofs.sums.grow.Goals as goal

pub returns-then-not-is_used : goal.returns-then-not-is_used
returns-then-not-is_used c = λ edges g. grown_not edges c.args.ports.now (asked_of c.args.uses.now c.args.m.now.name) c.args.sum.now (c.is_used.ensures c.if-not-is_used.true)

pub returns : goal.returns
returns c = λ edges g.
    grown_merged edges c.args.ports.now (asked_of c.args.uses.now c.args.m.now.name) c.args.sum.now c.in_ok-other.other c.merge_sum.new.sum c.in_ok-added.added c.in_ok-added.ensures (c.in_ok-other.ensures edges g)
