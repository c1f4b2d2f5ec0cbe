-- What a claim says of a case does not depend on what its instances answered.
use Rattle.std.proofs.Common.{◌≡◌, List, Option, refl, ◌∙◌, subst}
use Rattle.net_core.specs.declared.body.Pause.{Pause}
use Rattle.net_case.specs.declared.lot.Lot.{Lot}
use Rattle.net_case.specs.declared.case_state.CaseState.{CaseState}
use Rattle.net_case.specs.declared.claim.Claimed.{Claimed}
use Rattle.net_case.specs.declared.claim.Claimed.TheVariants.{Work, Wait, Over}
use Rattle.net_case.specs.Claims.{IsSameCase, HandsOut, Claims}

abbrev told_else : CaseState → List (Option Pause) → CaseState
told_else c pauses = record { program = c.program; input = c.input; budget = c.budget; counts = c.counts; out = c.out; pauses = pauses }

pub same_case : (c : CaseState) → IsSameCase c c
same_case c = record { program = refl; input = refl; budget = refl; counts = refl; out = refl }

is_told_else : (c m : CaseState) → IsSameCase c m → m ≡ told_else c m.pauses
is_told_else c m h = λ i. record { program = h.program i; input = h.input i; budget = h.budget i; counts = h.counts i; out = h.out i; pauses = m.pauses }

hands_out : (c : CaseState) (pauses : List (Option Pause)) (b : Lot) (c' : CaseState) → HandsOut (told_else c pauses) b c' → HandsOut c b c'
hands_out c pauses b c' h = record {
  inside = h.inside;
  at_home = h.at_home;
  may = h.may;
  starts = record { program = h.starts.program; input = h.starts.input; budget = h.starts.budget; at = h.starts.at; from = h.starts.from; none_made = h.starts.none_made; unrun = h.starts.unrun; unready = h.starts.unready };
  some = h.some;
  joined = h.joined;
  detached = h.detached;
  program = h.program;
  input = h.input;
  budget = h.budget;
  counts = h.counts;
  out = h.out;
}

claims_else : {B : Type 0} (c : CaseState) (pauses : List (Option Pause)) (r : Claimed B) (c' : CaseState) → Claims (told_else c pauses) r c' → Claims c r c'
claims_else c pauses (Work b) c' h = (hands_out c pauses b c' h.0, h.1)
claims_else c pauses Wait c' h = record {
  same = record { program = h.same.program; input = h.same.input; budget = h.same.budget; counts = h.same.counts; out = h.same.out };
  away = h.away;
  idle = h.idle;
}
claims_else c pauses (Over o) c' h = record {
  same = record { program = h.same.program; input = h.same.input; budget = h.same.budget; counts = h.same.counts; out = h.same.out };
  home = h.home;
  over = h.over;
  answer = h.answer;
  outcome = h.outcome;
  settled = h.settled;
}

pub claims_same : {B : Type 0} (c m : CaseState) (r : Claimed B) (c' : CaseState) → IsSameCase c m → Claims m r c' → Claims c r c'
claims_same c m r c' h q = claims_else c m.pauses r c' (subst (λ (z : CaseState). Claims z r c') (is_told_else c m h) q)

pub hands_out_same : (c m : CaseState) (b : Lot) (c' : CaseState) → IsSameCase c m → HandsOut m b c' → HandsOut c b c'
hands_out_same c m b c' h q = hands_out c m.pauses b c' (subst (λ (z : CaseState). HandsOut z b c') (is_told_else c m h) q)

pub same_trans : (a b c : CaseState) → IsSameCase a b → IsSameCase b c → IsSameCase a c
same_trans a b c h q = record { program = q.program ∙ h.program; input = q.input ∙ h.input; budget = q.budget ∙ h.budget; counts = q.counts ∙ h.counts; out = q.out ∙ h.out }
