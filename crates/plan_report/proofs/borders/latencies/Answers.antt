use Rattle.std.proofs.Common.{◌≡◌, ℕ, ap, ◌∙◌, arith}
use Rattle.std.specs.Prelude.{slice_index}
use Rattle.task_graph.specs.Arcs.{tail, head}
use Rattle.plan_report.specs.Borders.{border_latency}
use Rattle.plan_report.proofs.Grown.{grown_by, grown_low}
use Rattle.plan_report.proofs.Still.{still_within}
use Rattle.plan_report.proofs.borders.latencies.Goals as goal

pub loop-e-preserved : goal.loop-e-preserved
loop-e-preserved c =
    let device = c.args.device.now in
    let graph = c.args.graph.now in
    let slots = c.args.plan.now.slot.items in
    let from : c.slot_of-from.result ≡ slice_index slots (tail graph c.loop-e.e) = c.slot_of-from.ensures ∙ ap (λ (v : ℕ). slice_index slots v) c.tail.ensures.value in
    let to : c.slot_of-to.result ≡ slice_index slots (head graph c.loop-e.e) = c.slot_of-to.ensures ∙ ap (λ (v : ℕ). slice_index slots v) c.head.ensures.value in
    let pushed = c.in_ok-push.ensures.items in
    record {
      long = grind arith;
      value = grown_by (λ (d : ℕ). border_latency device (slice_index slots (tail graph d)) (slice_index slots (head graph d))) c.loop-e.lat.items c.push.new.self.items c.loop-e.e c.latency.result pushed c.loop-e.invariant.long c.loop-e.invariant.value (c.latency.ensures.value ∙ ap (λ (s : ℕ). border_latency device s c.slot_of-to.result) from ∙ ap (λ (t : ℕ). border_latency device (slice_index slots (tail graph c.loop-e.e)) t) to);
      low = grown_low c.loop-e.lat.items c.push.new.self.items 160 c.latency.result pushed c.loop-e.invariant.low c.latency.ensures.small;
    }

pub returns-clause-low : goal.returns-clause-low
returns-clause-low c =
    let long = c.loop-e.invariant.long in
    record {
      long = omega arith;
      low = λ e. c.loop-e.invariant.low e;
      idle = λ e inside same. c.loop-e.invariant.value e (omega arith) ∙ still_within c.args.device.now c.args.plan.now.slot.items (tail c.args.graph.now e) (head c.args.graph.now e) same;
    }
