use Rattle.std.proofs.Common.{◌≡◌, ◌+◌, ◌<◌, length, ap, sym, subst, arith}
use Rattle.net_case.specs.declared.case_state.CaseState.{CaseState}
use Rattle.net_case.specs.State.{IsAtHome}
use Rattle.net_case.specs.Claims.{IsSameCase, KeepsRest, Rests, RestsIn}
use Rattle.net_case.proofs.Same.{same_case, same_trans}
use Rattle.net_case.proofs.Searching.{rests_on, unlisted}
use Rattle.net_case.proofs.case.Case.search.Goals.{then-index+in_default, else-index}
use Rattle.net_case.proofs.case.Case.search.Goals as goal

pub loop-i-preserved : goal.loop-i-preserved
loop-i-preserved g c =
    let before = c.loop-i.invariant in
    let was = c.loop-i.self in
    let i = c.loop-i.i in
    elim c.if-index.branch [
      | then-index+in_default w ↦
          let now = w.try_claim.new.self in
          let e = w.in_default.ensures in
          let same = same_trans c.args.self.now was now before.same e.0 in
          let keeps : KeepsRest c.args.self.now now = λ j r. e.1 j (before.keeps j r) in
          let rests = rests_on was now c.args.from i e.0 e.1 before.rests e.2 in
          let back = sym w.self-is in
          record {
            same = subst (λ (v : CaseState). IsSameCase c.args.self.now v) back same;
            keeps = subst (λ (v : CaseState). KeepsRest c.args.self.now v) back keeps;
            rests = subst (λ (v : CaseState). RestsIn v c.args.from (i + 1)) back rests;
          }
      | else-index w ↦
          let I = c.self.inside in
          let inside : i < length I.homes.items =
          let t = c.loop-i-test.true in
          let r = c.requires in
          let s : length c.args.self.now.counts ≡ length was.counts = ap length (sym before.same.counts) in
          let v : length was.counts ≡ length I.counts.items = ap (λ (v : CaseState). length v.counts) (sym c.self.view_is) in
          let p = c.self.invariant.0.homes_len in
          let q = c.self.invariant.0.counts_len in
          omega arith in
          let here = subst (λ (v : CaseState). IsAtHome v i → Rests v i) c.self.view_is (unlisted c.self.invariant.0 i c.index.result.now c.index.ensures w.if-index.false inside) in
          let rests = rests_on was was c.args.from i (same_case was) (λ j r. r) before.rests here in
          let back = sym w.self-is in
          record {
            same = subst (λ (v : CaseState). IsSameCase c.args.self.now v) back before.same;
            keeps = subst (λ (v : CaseState). KeepsRest c.args.self.now v) back before.keeps;
            rests = subst (λ (v : CaseState). RestsIn v c.args.from (i + 1)) back rests;
          }
    ]
