use Rattle.std.proofs.Common.{◌≡◌, ◌≤◌, length, ap, sym, arith}
use Rattle.net_case.specs.declared.case_state.CaseState.{CaseState}
use Rattle.net_case.proofs.Searching.{found}
use Rattle.net_case.proofs.case.Case.find.Goals as goal

pub returns-in-None : goal.returns-in-None
returns-in-None g c =
    let I = c.self.inside in
    let n = c.len-n.result in
    let first = c.in-None.ensures in
    let long : length c.args.self.now.counts ≤ n =
    let v : length c.args.self.now.counts ≡ length I.counts.items = ap (λ (v : CaseState). length v.counts) (sym c.self.view_is) in
    let p = c.self.invariant.0.homes_len in
    let q = c.self.invariant.0.counts_len in
    let r = c.len-n.ensures in
    omega arith in
    found c.args.self.now c.search.new.self c.search-in-None.new.self c.min-from.result n first.0 first.2 long c.search-in-None.result c.search-in-None.ensures
