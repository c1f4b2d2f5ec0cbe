use Rattle.std.proofs.Common.{sym, subst}
use Rattle.net_core.specs.Settle.{IsSettled}
use Rattle.net_case.specs.declared.case_state.CaseState.{CaseState}
use Rattle.net_case.specs.State.{network, count, net_of, AreAllHome}
use Rattle.net_case.specs.Claims.{IsFinished, MustWait, IsEnd}
use Rattle.net_case.specs.Over.{ClaimAnswers}
use Rattle.net_case.proofs.Finish.{must_wait, is_end}
use Rattle.net_case.proofs.case.Case.idle.Goals as goal

pub returns-then-some_out : goal.returns-then-some_out
returns-then-some_out g c =
    let finished = subst IsFinished (sym c.self.view_is) c.requires in
    subst (λ (v : CaseState). MustWait v v) c.self.view_is (must_wait c.self.invariant.0 finished c.if-some_out.ensures)

pub outcome-requires-clause-home : goal.outcome-requires-clause-home
outcome-requires-clause-home g c = subst AreAllHome c.self.view_is c.if-some_out.ensures

pub returns-else-some_out : goal.returns-else-some_out
returns-else-some_out g c =
    let o = c.outcome.result in
    let finished = subst IsFinished (sym c.self.view_is) c.requires in
    let a = subst (λ (v : CaseState). ClaimAnswers (network v) v.budget (count v) o) (sym c.self.view_is) c.outcome.ensures.answer in
    let s = subst (λ (v : CaseState). IsSettled (net_of v) o) (sym c.self.view_is) c.outcome.ensures.settled in
    subst (λ (v : CaseState). IsEnd v o v) c.self.view_is (is_end c.self.invariant.0 c.if-some_out.ensures finished o a s)
