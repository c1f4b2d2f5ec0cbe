use Rattle.std.proofs.Common.{◌≡◌, length, true, ap, sym, subst, ◌∙◌}
use Rattle.std.specs.Prelude.{MatchBool}
use Rattle.tapa_syntax.specs.declared.program.Program.{Program}
use Rattle.kahn_model.specs.Outcome.{HaveJoinedEnded, HasJoinedLeft}
use Rattle.net_core.specs.Settle.{AreJoinedEnded, IsSomeJoinedLeft, AreJoinedTold}
use Rattle.net_case.specs.declared.case_state.CaseState.{CaseState}
use Rattle.net_case.specs.State.{network, count, net_of}
use Rattle.net_case.proofs.Finish.{done_by, told_by}
use Rattle.net_case.proofs.case.Case.is_done.Goals as goal

pub have_joined_ended-requires : goal.have_joined_ended-requires
have_joined_ended-requires g c = c.self.invariant.0.pauses_len ∙ ap (λ (p : Program). length p.instances.items) (sym c.deref.ensures)

pub returns : goal.returns
returns g c =
    let I = c.self.inside in
    let r = c.have_joined_ended.result in
    let e = subst (λ (p : Program). MatchBool r (AreJoinedEnded p I.pauses.items) (IsSomeJoinedLeft p I.pauses.items)) c.deref.ensures c.have_joined_ended.ensures in
    record {
      ended = subst (λ (v : CaseState). MatchBool r (HaveJoinedEnded (network v) (count v)) (HasJoinedLeft (network v) (count v))) c.self.view_is (done_by c.self.invariant.0 r e);
      told = subst (λ (v : CaseState). r ≡ true → AreJoinedTold (net_of v)) c.self.view_is (told_by c.self.invariant.0 r e);
    }
