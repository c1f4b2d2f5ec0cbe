use Rattle.std.proofs.Common.{◌≡◌, ℕ, ◌-◌, ◌<◌, List, length, true, false, Option, Some, None, refl, sym, ap, ◌∙◌, subst, arith}
use Rattle.std.specs.Prelude.{Vec, slice_get, slice_index_or, slice_set, if◌then◌else◌}
use Rattle.std.specs.declared.alloc.Global.{Global}
use Rattle.std.specs.Arc.{arc_value}
use Rattle.std.proofs.lemmas.List.{get_or_read}
use Rattle.tapa_syntax.specs.declared.program.Program.{Program}
use Rattle.net_core.specs.declared.input.Input.{Input}
use Rattle.net_core.specs.Bindings.{detached_at}
use Rattle.net_case.specs.Batch.{IsBatchAt}
use Rattle.net_case.specs.declared.case_state.CaseState.{CaseState}
use Rattle.net_case.specs.State.{IsAtHome}
use Rattle.net_case.specs.Claims.{HandsOut, IsSameCase, Rests, KeepsRest}
use Rattle.net_case.specs.Look.{CanLook, HasLooked}
use Rattle.net_case.specs.Home.{outs}
use Rattle.net_case.specs.declared.batch.Process.{Process}
use Rattle.net_case.proofs.Outs.{out_at, set_back, home_at, away_at}
use Rattle.net_case.proofs.Going.{can_look}
use Rattle.net_case.proofs.Trying.{HasTried, nothing_left, case_without, batch_out, handed_out, case_with, same_with, keeps_with, rests_with}
use Rattle.net_case.proofs.case.Case.try_claim.Given.{Over}
use Rattle.net_case.proofs.case.Case.try_claim.Goals.{After-take, After-deref-program, After-left_to-left}
use Rattle.net_case.proofs.case.Case.try_claim.Goals as goal

inside : (g : Over) (c : After-take g) → c.args.i < length c.self.inside.homes.items
inside g c =
    let r = subst (λ (v : CaseState). c.args.i < length v.counts) (sym c.self.view_is) c.requires in
    let a = c.self.invariant.0.homes_len in
    let b = c.self.invariant.0.counts_len in
    omega arith

pub returns-in_default : goal.returns-in_default
returns-in_default g c =
    let I = c.self.inside in
    let i = c.args.i in
    let P = arc_value I.program in
    let n = arc_value I.input in
    let at = away_at I.homes.items i c.index_mut.result.now c.index_mut.ensures.value (inside g (goal.at.returns-in_default g c).After-take) (sym c.take.ensures.value ∙ c.in_default.is) in
    let same = ap (slice_set I.homes.items i) c.take.ensures.after ∙ set_back I.homes.items i None at in
    let now = c.args.self.now in
    let out : slice_index_or now.out i false ≡ true = subst (λ (v : CaseState). slice_index_or v.out i false ≡ true) c.self.view_is (out_at I.homes.items i None at) in
    let is : record { program = P; input = n; budget = I.budget; counts = I.counts.items; out = outs (slice_set I.homes.items i c.take.new.self); pauses = I.pauses.items } ≡ now =
    ap (λ (hs : List (Option (Process _))). record { program = P; input = n; budget = I.budget; counts = I.counts.items; out = outs hs; pauses = I.pauses.items }) same ∙ c.self.view_is
    in
    subst (λ (v : CaseState). IsSameCase now v × KeepsRest now v × (IsAtHome v i → Rests v i)) (sym is)
    (record { program = refl; input = refl; budget = refl; counts = refl; out = refl }, λ j r. r, λ h. absurd (cc))

-- the instance is at home, and can be looked at
module _ (g : Over) (c : After-deref-program g) where
  at_home : slice_get c.self.inside.homes.items c.args.i ≡ Some (Some c.in-Some.process)
  at_home = home_at c.self.inside.homes.items c.args.i c.index_mut.result.now c.in-Some.process c.index_mut.ensures.value (inside g (goal.at.After-deref-program g c).After-take) (sym c.take.ensures.value ∙ c.in-Some.is)

  can : CanLook g.B.Body.stands c.deref-program.result.now (arc_value c.self.inside.input) c.self.inside.budget c.self.inside.queues.items c.self.inside.taken.items c.self.inside.offered.items c.self.inside.counts.items c.args.i c.in-Some.process.body c.in-Some.process.ports c.in-Some.process.limits.items
  can =
      subst (λ (p : Program). CanLook g.B.Body.stands p (arc_value c.self.inside.input) c.self.inside.budget c.self.inside.queues.items c.self.inside.taken.items c.self.inside.offered.items c.self.inside.counts.items c.args.i c.in-Some.process.body c.in-Some.process.ports c.in-Some.process.limits.items) (sym c.deref-program.ensures)
      (can_look c.self.invariant.0 c.args.i c.in-Some.process at_home)

pub look-may-requires : goal.look-may-requires
look-may-requires g c = (arc_value c.self.inside.input, c.self.inside.budget, c.self.inside.counts.items, can g (goal.at.look-may-requires g c).After-deref-program)

tried : (g : Over) (c : After-left_to-left g) → HasTried g.B.Body.stands (arc_value c.self.inside.program) (arc_value c.self.inside.input) c.self.inside.budget c.self.inside.homes.items c.self.inside.queues.items c.self.inside.taken.items c.self.inside.offered.items c.self.inside.counts.items c.self.inside.pauses.items c.self.inside.listed.items c.self.inside.joined c.self.inside.writers.items c.self.inside.fed_by_self.items c.args.i c.in-Some.process c.take.new.self c.look-may.new.offered.items c.look-may.new.process c.look-may.result.0 c.look-may.result.1 c.index-from.result.now c.left_to-left.result
tried g c =
    let I = c.self.inside in
    let y = c.look-may.new.process in
    let j = goal.at.After-left_to-left g c in
    let k = j.After-deref-program in
    record {
      is_case = c.self.invariant.0;
      is_home = at_home g k;
      gone_is = c.take.ensures.after;
      looked =
          subst (λ (p : Program). HasLooked g.B.Body.stands p (arc_value I.input) I.budget I.queues.items I.taken.items I.offered.items c.look-may.new.offered.items I.counts.items c.args.i y.body y.ports y.limits.items c.look-may.result.0 c.look-may.result.1) c.deref-program.ensures
          (c.look-may.ensures (arc_value I.input) I.budget I.counts.items (can g k));
      from_is = get_or_read I.counts.items c.args.i c.index-from.result.now (let a = inside g j.After-take in let d = c.self.invariant.0.homes_len in let e = c.self.invariant.0.counts_len in omega arith) c.index-from.ensures 0;
      left_is = subst (λ (p : Program). c.left_to-left.result ≡ (if detached_at p c.args.i then I.budget - c.index-from.result.now else I.budget - I.joined)) c.deref-program.ensures c.left_to-left.ensures;
    }

pub invariant_of-result : goal.invariant_of-result
invariant_of-result g c =
    let I = c.self.inside in
    let y = c.look-may.new.process in
    let from = c.index-from.result.now in
    let fuel = c.min.result in
    let m = c.min.ensures in
    let p = c.if-left-gt0.true in
    let b = batch_out (tried g (goal.at.invariant_of-result g c).After-left_to-left) c.if-may.true fuel (omega arith) (omega arith) in
    subst (λ (p : Program). IsBatchAt g.B.Body.stands p c.of-then-left-gt0.result.value I.budget c.of-then-left-gt0-2.result.value.items c.args.i from fuel 0 None false y.body y.ports y.limits.items) (sym (c.of.ensures ∙ c.deref.ensures))
    (subst (λ (n : Input). IsBatchAt g.B.Body.stands (arc_value I.program) n I.budget c.of-then-left-gt0-2.result.value.items c.args.i from fuel 0 None false y.body y.ports y.limits.items) (sym (c.of-then-left-gt0.ensures ∙ c.deref-then-left-gt0.ensures))
    (subst (λ (v : Vec ℕ Global). IsBatchAt g.B.Body.stands (arc_value I.program) (arc_value I.input) I.budget v.items c.args.i from fuel 0 None false y.body y.ports y.limits.items) (sym c.of-then-left-gt0-2.ensures) b))

pub invariant_of-self-then-left-gt0 : goal.invariant_of-self-then-left-gt0
invariant_of-self-then-left-gt0 g c = (case_without (tried g (goal.at.invariant_of-self-then-left-gt0 g c).After-left_to-left), c.self.invariant.1)

pub returns-then-left-gt0 : goal.returns-then-left-gt0
returns-then-left-gt0 g c =
    let I = c.self.inside in
    let P = arc_value I.program in
    let n = arc_value I.input in
    let from = c.index-from.result.now in
    let fuel = c.min.result in
    let m = c.min.ensures in
    let p = c.if-left-gt0.true in
    let r = handed_out (tried g (goal.at.returns-then-left-gt0 g c).After-left_to-left) c.if-may.true fuel (omega arith) (omega arith) in
    let before : CaseState = record { program = P; input = n; budget = I.budget; counts = I.counts.items; out = outs I.homes.items; pauses = I.pauses.items } in
    let after : CaseState = record { program = P; input = n; budget = I.budget; counts = I.counts.items; out = outs (slice_set I.homes.items c.args.i c.take.new.self); pauses = I.pauses.items } in
    subst (λ (v : CaseState). HandsOut v (record { program = c.of.result.value; input = c.of-then-left-gt0.result.value; budget = I.budget; instance = c.args.i; at = c.of-then-left-gt0-2.result.value.items; from = from; fuel = fuel; made = 0; pause = None; ready = false }) after) c.self.view_is
    (subst (λ (p : Program). HandsOut before (record { program = p; input = c.of-then-left-gt0.result.value; budget = I.budget; instance = c.args.i; at = c.of-then-left-gt0-2.result.value.items; from = from; fuel = fuel; made = 0; pause = None; ready = false }) after) (sym (c.of.ensures ∙ c.deref.ensures))
    (subst (λ (m : Input). HandsOut before (record { program = P; input = m; budget = I.budget; instance = c.args.i; at = c.of-then-left-gt0-2.result.value.items; from = from; fuel = fuel; made = 0; pause = None; ready = false }) after) (sym (c.of-then-left-gt0.ensures ∙ c.deref-then-left-gt0.ensures))
    (subst (λ (v : Vec ℕ Global). HandsOut before (record { program = P; input = n; budget = I.budget; instance = c.args.i; at = v.items; from = from; fuel = fuel; made = 0; pause = None; ready = false }) after) (sym c.of-then-left-gt0-2.ensures) r)))

pub invariant_of-self-2 : goal.invariant_of-self-2
invariant_of-self-2 g c =
    let nothing = nothing_left c.look-may.result.0 c.left_to-left.result c.else-may.either in
    (case_with (tried g (goal.at.invariant_of-self-2 g c).After-left_to-left) nothing c.seen.result c.seen.ensures, c.self.invariant.1)

pub returns : goal.returns
returns g c =
    let I = c.self.inside in
    let t = tried g (goal.at.returns g c).After-left_to-left in
    let nothing = nothing_left c.look-may.result.0 c.left_to-left.result c.else-may.either in
    let new : CaseState = record { program = arc_value I.program; input = arc_value I.input; budget = I.budget; counts = I.counts.items; out = outs (slice_set (slice_set I.homes.items c.args.i c.take.new.self) c.args.i (Some c.look-may.new.process)); pauses = slice_set I.pauses.items c.args.i (Some c.seen.result) } in
    subst (λ (v : CaseState). IsSameCase v new × KeepsRest v new × (IsAtHome new c.args.i → Rests new c.args.i)) c.self.view_is
    (same_with t nothing c.seen.result c.seen.ensures, keeps_with t nothing c.seen.result c.seen.ensures, λ a. rests_with t nothing c.seen.result c.seen.ensures)
