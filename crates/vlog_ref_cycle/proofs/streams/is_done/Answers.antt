use Rattle.vlog_tree.specs.Labels.{done}
use Rattle.vlog_ref_cycle.proofs.InRuns.{named_number, done_is}
use Rattle.vlog_ref_cycle.proofs.streams.is_done.Goals as goal

pub returns-then-now-gt0-clause-value : goal.returns-then-now-gt0-clause-value
returns-then-now-gt0-clause-value c =
    let design = c.args.design.now in
    let now = c.args.now.now in
    done_is design now c.in-Some.n c.if-now-gt0.true (named_number design now c.in_ok-n.field-0 c.in-Some.n c.in_ok-done_name.field-0.items done c.in-Some.is c.in_ok-done_name.ensures c.in_ok-n.ensures.value)
