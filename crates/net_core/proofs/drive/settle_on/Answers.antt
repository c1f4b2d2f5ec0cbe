use Rattle.std.proofs.Common.{◌≡◌, ℕ, ◌<◌, ◌⊎◌, inr, length, List, true, refl, sym, ap, subst, ⊎_elim, ◌∙◌, arith}
use Rattle.std.specs.Prelude.{Vec, slice_index}
use Rattle.std.specs.declared.alloc.Global.{Global}
use Rattle.std.proofs.lemmas.Bool.Decides.{nat_tests}
use Rattle.std.proofs.lemmas.Option.{slice_get_within}
use Rattle.tapa_syntax.specs.declared.program.Program.{Program}
use Rattle.net_core.specs.declared.input.Input.{Input}
use Rattle.net_core.specs.declared.net_state.NetState.{NetState}
use Rattle.net_core.specs.Bindings.{IsConnected, IsWriter, producer_of}
use Rattle.net_core.specs.Load.{IsIn, AreBelow, AreListed}
use Rattle.net_core.specs.Ties.{AreAllTies}
use Rattle.net_core.specs.Settle.{IsAtRest}
use Rattle.net_core.proofs.Settled.{limit_ends, done_ends, told_joined}
use Rattle.net_core.proofs.drive.settle_on.Goals as goal

-- where no instance is left on the list, each is at rest
rest_all : (net : NetState) (budget : ℕ) (now : List ℕ) → length now ≡ 0 → ((j : ℕ) → j < length net.program.instances.items → IsAtRest net budget j ⊎ IsIn j now) → (j : ℕ) → j < length net.program.instances.items → IsAtRest net budget j
rest_all net budget now none rest j l =
    ⊎_elim (λ (q : IsAtRest net budget j). q) (λ (n : IsIn j now). let w = slice_get_within now n.0 j n.1 in absurd (omega arith)) (rest j l)

pub all_ties-requires-clause-connected : goal.all_ties-requires-clause-connected
all_ties-requires-clause-connected g c = subst IsConnected (sym c.deref.ensures) c.net.invariant.connected

pub all_ties-requires-clause-writers_len : goal.all_ties-requires-clause-writers_len
all_ties-requires-clause-writers_len g c = c.net.invariant.writers_len ∙ ap (λ (p : Program). length p.streams.items) (sym c.deref.ensures)

pub all_ties-requires-clause-writers : goal.all_ties-requires-clause-writers
all_ties-requires-clause-writers g c =
    let writers = c.net.inside.streams.writers.items in
    subst (λ (p : Program). (s : ℕ) → s < length p.streams.items → IsWriter p s (producer_of p s) (slice_index writers s)) (sym c.deref.ensures) c.net.invariant.writer_is

pub pass-requires-clause-ties_len : goal.pass-requires-clause-ties_len
pass-requires-clause-ties_len g c =
    let same : c.deref.result.now ≡ c.args.net.now.program = c.deref.ensures ∙ ap (λ (z : NetState). z.program) c.net.view_is in
    c.in_ok-ties.ensures.len ∙ ap (λ (p : Program). length p.instances.items) same ∙ ap (λ (z : Program × Input). length z.0.instances.items) (sym c.rounds.invariant.given)

pub pass-requires-clause-ties : goal.pass-requires-clause-ties
pass-requires-clause-ties g c =
    let same : c.deref.result.now ≡ c.args.net.now.program = c.deref.ensures ∙ ap (λ (z : NetState). z.program) c.net.view_is in
    subst (λ (z : Program × Input). AreAllTies z.0 c.in_ok-ties.ties.items) (sym c.rounds.invariant.given) (subst (λ (p : Program). AreAllTies p c.in_ok-ties.ties.items) same c.in_ok-ties.ensures.each)

pub rounds-init : goal.rounds-init
rounds-init g c =
    let I = c.net.inside in
    let n = c.net.invariant in
    let lb = n.bodies_len in
    let ob = I.bodies.ok.0 in
    let program = ap (λ (z : NetState). length z.program.instances.items) c.net.view_is in
    let l1 = c.len.ensures in
    let l2 = c.len-2.ensures in
    let many : length c.in_ok-listed.listed.items ≡ c.len-2.result = let e = c.in_ok-listed.ensures.len in let o = c.in_ok-listed.listed.ok.0 in omega arith in
    let here : c.len.result ≡ length c.args.net.now.program.instances.items = omega arith in
    record {
      given = refl;
      within = c.requires.within;
      listed_len = omega arith;
      listed = λ x e. let w = slice_get_within c.in_ok-listed.listed.items x true e in c.in_ok-now.ensures.all x (omega arith);
      below = subst (λ m. AreBelow m c.in_ok-now.now.items) here c.in_ok-now.ensures.below;
      rest = λ j l. inr (c.in_ok-now.ensures.all j (omega arith));
    }

pub returns-then-not-branch-clause-ended : goal.returns-then-not-branch-clause-ended
returns-then-not-branch-clause-ended g c =
    let e = c.in_ok-pass.ensures in
    let l = rw c.if-not-branch.true at e.passed in
    (limit_ends c.pass.new.net c.valid-then-not-branch.ensures c.args.budget c.pass.new.left e.within l, tt)

pub rounds-preserved : goal.rounds-preserved
rounds-preserved g c =
    let inv = c.rounds.invariant in
    let e = c.in_ok-pass.ensures in
    let p = rw c.if-not-branch.false at e.passed in
    let x = sym c.swap.ensures.x_after in
    let same : length c.pass.new.net.program.instances.items ≡ length c.rounds.net.program.instances.items = ap (λ (z : Program × Input). length z.0.instances.items) e.given in
    record {
      given = e.given ∙ inv.given;
      within = e.within;
      listed_len = e.listed_len ∙ inv.listed_len ∙ sym same;
      listed = subst (λ (v : Vec ℕ Global). AreListed c.pass.new.listed.items v.items) x e.listed;
      below = subst (λ (v : Vec ℕ Global). AreBelow (length c.pass.new.net.program.instances.items) v.items) x (subst (λ m. AreBelow m c.pass.new.later.items) (sym same) p.below);
      rest = λ j l. subst (λ (v : Vec ℕ Global). IsAtRest c.pass.new.net c.args.budget j ⊎ IsIn j v.items) x (p.rest j (omega arith) (inv.rest j (omega arith)));
    }

pub returns-then-is_done-clause-ended : goal.returns-then-is_done-clause-ended
returns-then-is_done-clause-ended g c = (
  done_ends c.rounds.net c.valid.ensures c.args.budget c.rounds.left c.rounds.invariant.within c.if-is_done.ensures,
  told_joined c.rounds.net c.valid.ensures c.args.budget c.rounds.left c.rounds.invariant.within c.if-is_done.ensures,
)

pub answer_all-requires-clause-ties_len : goal.answer_all-requires-clause-ties_len
answer_all-requires-clause-ties_len g c =
    let same : c.deref.result.now ≡ c.args.net.now.program = c.deref.ensures ∙ ap (λ (z : NetState). z.program) c.net.view_is in
    c.in_ok-ties.ensures.len ∙ ap (λ (p : Program). length p.instances.items) same ∙ ap (λ (z : Program × Input). length z.0.instances.items) (sym c.rounds.invariant.given)

pub answer_all-requires-clause-ties : goal.answer_all-requires-clause-ties
answer_all-requires-clause-ties g c =
    let same : c.deref.result.now ≡ c.args.net.now.program = c.deref.ensures ∙ ap (λ (z : NetState). z.program) c.net.view_is in
    subst (λ (z : Program × Input). AreAllTies z.0 c.in_ok-ties.ties.items) (sym c.rounds.invariant.given) (subst (λ (p : Program). AreAllTies p c.in_ok-ties.ties.items) same c.in_ok-ties.ensures.each)

pub answer_all-requires-clause-few : goal.answer_all-requires-clause-few
answer_all-requires-clause-few g c = λ j. let a = c.rounds.invariant.within.capped j in let b = c.requires.budget in omega arith

pub returns-then-has_grown-clause-ended : goal.returns-then-has_grown-clause-ended
returns-then-has_grown-clause-ended g c = (
  c.if-while_small.true,
  c.in_ok-answer_all.ensures.within c.args.budget c.rounds.left c.rounds.invariant.within,
  c.in_ok-answer_all.ensures.answered,
)

pub at_rest-requires-clause-rest : goal.at_rest-requires-clause-rest
at_rest-requires-clause-rest g c =
    let inv = c.rounds.invariant in
    let none : length c.rounds.now.items ≡ 0 = let t = c.rounds-test.ensures in let o = c.rounds.now.ok.0 in grind (arith, nat_tests) in
    rest_all c.rounds.net c.args.budget c.rounds.now.items none inv.rest
