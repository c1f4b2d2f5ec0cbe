use Rattle.std.proofs.Common.{ap, ◌∙◌}
use Rattle.vlog_tree.specs.Labels.{s_din, s_wr, s_rdy}
use Rattle.vlog_ref_cycle.proofs.InRuns.{named_number, carries_din, carries_nothing, carries_at_reset, first_not, second_not}
use Rattle.vlog_ref_cycle.proofs.streams.carries_number.Goals as goal
use Rattle.vlog_ref_cycle.proofs.streams.carries_number.Goals.{else-now-gt0-via-then-now-gt0+then-wr-eq1+else-rdy-eq1, else-now-gt0-via-then-now-gt0+else-wr-eq1, else-now-gt0-via-else-now-gt0}

pub returns-then-rdy-eq1-clause-value : goal.returns-then-rdy-eq1-clause-value
returns-then-rdy-eq1-clause-value c =
    let design = c.args.design.now in
    let now = c.args.now.now in
    let x = c.args.label.now in
    carries_din design now x c.in-Some.wr c.in-Some-2.rdy c.in-Some-3.din
    (named_number design now c.in_ok-wr.field-0 c.in-Some.wr c.in_ok-wr_name.field-0.items (s_wr x) c.in-Some.is (c.in_ok-wr_name.ensures ∙ ap s_wr c.bytes-label.ensures.value) c.in_ok-wr.ensures.value)
    (named_number design now c.in_ok-rdy.field-0 c.in-Some-2.rdy c.in_ok-rdy_name.field-0.items (s_rdy x) c.in-Some-2.is (c.in_ok-rdy_name.ensures ∙ ap s_rdy c.bytes-label.ensures.value) c.in_ok-rdy.ensures.value)
    (named_number design now c.in_ok-din.field-0 c.in-Some-3.din c.in_ok-din_name.field-0.items (s_din x) c.in-Some-3.is (c.in_ok-din_name.ensures ∙ ap s_din c.bytes-label.ensures.value) c.in_ok-din.ensures.value)
    c.if-wr-eq1.true c.if-rdy-eq1.true

pub returns-else-now-gt0-clause-value : goal.returns-else-now-gt0-clause-value
returns-else-now-gt0-clause-value c =
    let design = c.args.design.now in
    let now = c.args.now.now in
    let x = c.args.label.now in
    let wr = named_number design now c.in_ok-wr.field-0 c.in-Some.wr c.in_ok-wr_name.field-0.items (s_wr x) c.in-Some.is (c.in_ok-wr_name.ensures ∙ ap s_wr c.bytes-label.ensures.value) c.in_ok-wr.ensures.value in
    let rdy = named_number design now c.in_ok-rdy.field-0 c.in-Some-2.rdy c.in_ok-rdy_name.field-0.items (s_rdy x) c.in-Some-2.is (c.in_ok-rdy_name.ensures ∙ ap s_rdy c.bytes-label.ensures.value) c.in_ok-rdy.ensures.value in
    let din = named_number design now c.in_ok-din.field-0 c.in-Some-3.din c.in_ok-din_name.field-0.items (s_din x) c.in-Some-3.is (c.in_ok-din_name.ensures ∙ ap s_din c.bytes-label.ensures.value) c.in_ok-din.ensures.value in
    elim c.else-now-gt0.branch [
      | else-now-gt0-via-then-now-gt0+then-wr-eq1+else-rdy-eq1 w ↦ carries_nothing design now x c.in-Some.wr c.in-Some-2.rdy c.in-Some-3.din wr rdy din (second_not c.in-Some.wr c.in-Some-2.rdy w.if-rdy-eq1.false)
      | else-now-gt0-via-then-now-gt0+else-wr-eq1 w ↦ carries_nothing design now x c.in-Some.wr c.in-Some-2.rdy c.in-Some-3.din wr rdy din (first_not c.in-Some.wr c.in-Some-2.rdy w.if-wr-eq1.false)
      | else-now-gt0-via-else-now-gt0 w ↦ carries_at_reset design now x w.if-now-gt0.false
    ]
