use Rattle.std.proofs.Common.{◌≡◌, ◌<◌, inl, inr, length, sym, ap, ◌∙◌, arith}
use Rattle.std.specs.Prelude.{slice_get}
use Rattle.std.proofs.lemmas.Bool.{cases_lt}
use Rattle.std.proofs.lemmas.Option.{same_Some, slice_get_within}
use Rattle.tapa_base.specs.declared.shape.Port.{Port}
use Rattle.std.specs.Cmp.Lexicographic.{bytes_decides}
use Rattle.tapa_base.proofs.Lists.{got_index}
use Rattle.tapa_base.proofs.Tests.{true_not_false}
use Rattle.sim_design.proofs.answered.place_of_label.Goals as goal

pub returns-then-eq-clause-at : goal.returns-then-eq-clause-at
returns-then-eq-clause-at c =
    let low : c.loop-place.place < length c.args.labels.now = omega (arith, c.loop-place-test.true) in
    record {
      port = c.index-labels-place.result;
      got = got_index c.args.labels.now c.loop-place.place c.index-labels-place.result low c.index-labels-place.is;
      is = sym c.bytes.ensures.value ∙ (bytes_decides c.bytes.result.now c.args.label.now).0 (sym c.eq.ensures ∙ c.if-eq.true);
    }

pub loop-place-init : goal.loop-place-init
loop-place-init c = λ i low at. absurd (omega (arith, low))

pub loop-place-preserved : goal.loop-place-preserved
loop-place-preserved c = λ i low at.
    let here : c.loop-place.place < length c.args.labels.now = omega (arith, c.loop-place-test.true) in
    elim (cases_lt i c.loop-place.place) [
      | inl lt ↦ c.loop-place.invariant i lt at
      | inr ge ↦
          let same : i ≡ c.loop-place.place = omega (arith, ge, low) in
          let got = got_index c.args.labels.now c.loop-place.place c.index-labels-place.result here c.index-labels-place.is in
          let port = same_Some at.port c.index-labels-place.result (sym at.got ∙ ap (λ k. slice_get c.args.labels.now k) same ∙ got) in
          let name = c.bytes.ensures.value ∙ ap (λ (p : Port). p.name) (sym port) ∙ at.is in
          true_not_false (sym ((bytes_decides c.bytes.result.now c.args.label.now).1 name) ∙ sym c.eq.ensures ∙ c.if-eq.false)
    ]

pub returns-clause-there : goal.returns-clause-there
returns-clause-there c = λ i at.
    let low : i < length c.args.labels.now = slice_get_within c.args.labels.now i at.port at.got in
    absurd (c.loop-place.invariant i (omega (arith, low, c.loop-place-test.false)) at)
