use Rattle.std.proofs.Common.{ℕ, List, Bool, sym, ◌+◌, ◌≤◌, get_or, subst}
use Rattle.latency_balance.specs.Result.{IsBalance}
use Rattle.plan_report.specs.Added.{AddsTo}
use Rattle.plan_report.proofs.Sums.{sum_low, balanced}
use Rattle.plan_report.proofs.added.added_latencies.Goals as goal

pub sums_of-requires-clause-low : goal.sums_of-requires-clause-low
sums_of-requires-clause-low c = λ e.
    let best = subst (λ (l : List ℕ). IsBalance c.args.graph.now l c.in_ok-balance.balance) c.deref.ensures.value c.in_ok-balance.ensures in
    subst (λ (l : List ℕ). get_or l e 0 + get_or c.deref-3.result.now e 0 ≤ 500000) (sym c.deref-2.ensures.value)
    (subst (λ (l : List ℕ). get_or c.in_ok-border.border.items e 0 + get_or l e 0 ≤ 500000) (sym c.deref-3.ensures.value)
    (sum_low c.args.graph.now c.in_ok-border.border.items c.in_ok-balance.balance best e))

pub returns-clause-added : goal.returns-clause-added
returns-clause-added c =
    let g = c.args.graph.now in
    let lat = c.in_ok-border.border.items in
    let best = subst (λ (l : List ℕ). IsBalance g l c.in_ok-balance.balance) c.deref.ensures.value c.in_ok-balance.ensures in
    let sums = balanced g lat c.in_ok-balance.balance best c.deref-2.result.now c.deref-3.result.now c.in_ok-added.added.items c.deref-2.ensures.value c.deref-3.ensures.value c.in_ok-added.ensures.long c.in_ok-added.ensures.value in
    record {
      lat = lat;
      borders = c.in_ok-border.ensures.value;
      adds = subst (λ (b : Bool). AddsTo g lat b c.in_ok-added.added.items) (sym c.if-not-balanced.false) sums;
    }
