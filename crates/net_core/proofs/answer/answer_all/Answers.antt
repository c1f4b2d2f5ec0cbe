use Rattle.std.proofs.Common.{◌≡◌, ◌<◌, length, refl, sym, ap, ◌∙◌, subst, ⊎_elim, arith}
use Rattle.std.proofs.lemmas.Bool.{cases_eq}
use Rattle.std.proofs.lemmas.Option.{slice_get_read}
use Rattle.tapa_syntax.specs.declared.program.Program.{Program}
use Rattle.net_core.specs.declared.input.Input.{Input}
use Rattle.net_core.specs.Bindings.{arity}
use Rattle.net_core.specs.Ties.{AreTies}
use Rattle.net_core.specs.State.{IsAnswered}
use Rattle.net_core.proofs.Told.{within_same, counts_same, answered_own, answered_other}
use Rattle.net_core.proofs.answer.answer_all.Goals as goal

pub resume_instance-requires-clause-instance : goal.resume_instance-requires-clause-instance
resume_instance-requires-clause-instance g c =
    let same : length c.loop-i.net.program.instances.items ≡ length c.args.net.now.program.instances.items = ap (λ (z : Program × Input). length z.0.instances.items) c.loop-i.invariant.given in
    let n = c.requires.ties_len in
    let e = c.len-i-end.ensures in
    let t = c.loop-i-test.true in
    let o = c.args.ties.now.ok.0 in
    omega arith

pub resume_instance-requires-clause-as_many : goal.resume_instance-requires-clause-as_many
resume_instance-requires-clause-as_many g c =
    let i = c.loop-i.i in
    let l : i < length c.args.ties.now.items = let e = c.len-i-end.ensures in let t = c.loop-i-test.true in let o = c.args.ties.now.ok.0 in omega arith in
    let at = slice_get_read c.args.ties.now.items _ i c.index.result.now refl l c.index.ensures in
    (c.requires.ties i c.index.result.now at).as_many ∙ ap (λ (z : Program × Input). arity z.0 i) (sym c.loop-i.invariant.given)

pub resume_instance-requires-clause-ties : goal.resume_instance-requires-clause-ties
resume_instance-requires-clause-ties g c =
    let i = c.loop-i.i in
    let l : i < length c.args.ties.now.items = let e = c.len-i-end.ensures in let t = c.loop-i-test.true in let o = c.args.ties.now.ok.0 in omega arith in
    let at = slice_get_read c.args.ties.now.items _ i c.index.result.now refl l c.index.ensures in
    subst (λ (z : Program × Input). AreTies z.0 i c.index.result.now.ports.items) (sym c.loop-i.invariant.given) (c.requires.ties i c.index.result.now at).each

pub resume_instance-requires-clause-fits : goal.resume_instance-requires-clause-fits
resume_instance-requires-clause-fits g c =
    let a = c.loop-i.invariant.same c.loop-i.i in
    let b = c.requires.few c.loop-i.i in
    omega arith

pub loop-i-preserved : goal.loop-i-preserved
loop-i-preserved g c =
    let inv = c.loop-i.invariant in
    let i = c.loop-i.i in
    let old = c.loop-i.net in
    let new = c.resume_instance.new.net in
    let r = c.in_ok-_answer.ensures.resumed in
    let v = c.valid.ensures in
    let inside : i < length old.program.instances.items =
    let same : length old.program.instances.items ≡ length c.args.net.now.program.instances.items = ap (λ (z : Program × Input). length z.0.instances.items) inv.given in
    let n = c.requires.ties_len in
    let e = c.len-i-end.ensures in
    let t = c.loop-i-test.true in
    let o = c.args.ties.now.ok.0 in
    omega arith
    in
    record {
      given = r.given ∙ inv.given;
      same = λ j. counts_same old new v i inside _ _ r j ∙ inv.same j;
      answered = λ j l.
          ⊎_elim
          (λ (q : j ≡ i). subst (IsAnswered new) (sym q) (answered_own old new v i inside _ _ r))
          (λ (d : j ≡ i → ⊥). answered_other old new v i inside _ _ r j d (inv.answered j (omega arith)))
          (cases_eq j i);
    }

pub returns-clause-within : goal.returns-clause-within
returns-clause-within g c = within_same c.args.net.now c.loop-i.net c.loop-i.invariant.given c.loop-i.invariant.same

pub returns-clause-answered : goal.returns-clause-answered
returns-clause-answered g c = λ j l.
    let same : length c.loop-i.net.program.instances.items ≡ length c.args.net.now.program.instances.items = ap (λ (z : Program × Input). length z.0.instances.items) c.loop-i.invariant.given in
    let n = c.requires.ties_len in
    let e = c.len-i-end.ensures in
    let t = c.loop-i-test.false in
    let o = c.args.ties.now.ok.0 in
    c.loop-i.invariant.answered j (omega arith)
