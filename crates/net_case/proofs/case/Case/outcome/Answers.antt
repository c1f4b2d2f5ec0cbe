use Rattle.std.proofs.Common.{◌≡◌, true, sym, subst}
use Rattle.std.specs.Prelude.{MatchBool}
use Rattle.std.specs.Arc.{arc_value}
use Rattle.kahn_model.specs.Outcome.{HaveJoinedEnded, HasJoinedLeft}
use Rattle.net_core.specs.declared.outcome.Outcome.{Outcome}
use Rattle.net_core.specs.Bounded.{network_on, count_of}
use Rattle.net_core.specs.Settle.{AreJoinedTold, IsSettled}
use Rattle.net_case.specs.declared.case_state.CaseState.{CaseState}
use Rattle.net_case.specs.State.{network, count, net_of, AreAllHome}
use Rattle.net_case.specs.Claims.{IsFinished}
use Rattle.net_case.specs.Over.{ClaimAnswers}
use Rattle.net_case.proofs.Finish.{answers, settles}
use Rattle.net_case.proofs.case.Case.outcome.Goals as goal

pub returns : goal.returns
returns g c =
    let I = c.self.inside in
    let r = c.is_done-done.result in
    let home = subst AreAllHome (sym c.self.view_is) c.requires.home in
    let finished = subst IsFinished (sym c.self.view_is) c.requires.finished in
    let d = subst (λ (v : CaseState). MatchBool r (HaveJoinedEnded (network v) (count v)) (HasJoinedLeft (network v) (count v))) (sym c.self.view_is) c.is_done-done.ensures.ended in
    let t = subst (λ (v : CaseState). r ≡ true → AreJoinedTold (net_of v)) (sym c.self.view_is) c.is_done-done.ensures.told in
    record {
      answer =
          subst (λ (v : CaseState). ClaimAnswers (network v) v.budget (count v) c.ending.result) c.self.view_is
          (subst (λ (o : Outcome). ClaimAnswers (network_on (arc_value I.program) (arc_value I.input)) I.budget (count_of I.counts.items) o) (sym c.ending.ensures)
          (answers c.self.invariant.0 home finished r c.goes_on-on.result d c.goes_on-on.ensures));
      settled =
          subst (λ (v : CaseState). IsSettled (net_of v) c.ending.result) c.self.view_is
          (subst (λ (o : Outcome). IsSettled (record { program = arc_value I.program; input = arc_value I.input; counts = I.counts.items; pauses = I.pauses.items }) o) (sym c.ending.ensures)
          (settles c.self.invariant.0 home finished r c.goes_on-on.result t d c.goes_on-on.ensures));
    }
