use Rattle.std.proofs.Common.{◌≡◌, ◌+◌, None, sym, refl, ap, ◌∙◌}
use Rattle.std.proofs.lemmas.Result.{IfOk-weaker}
use Rattle.tapa_base.specs.declared.kind.Kind.TheVariants.{Bool}
use Rattle.tapa_base.specs.Kinds.{bits_of}
use Rattle.vlog_tree.specs.declared.tree.Atom.TheVariants.{Literal}
use Rattle.task_fsm.specs.Machine.{expression_of, Converted, Applied, Flipped, Inverse, Both, Either, Chosen}
use Rattle.tapa_syntax.specs.Typed.{right_kind}
use Rattle.hw_lines.specs.Fixed.{fixed}
use Rattle.hw_lines.specs.Wires.{read_count, compiled}
use Rattle.hw_expressions.specs.declared.wires.Wired.{Wired}
use Rattle.hw_expressions.proofs.Grown.{constant_grows, compound, same_start}
use Rattle.tapa_base.proofs.Got.{is_none_of}
use Rattle.hw_expressions.proofs.wires.+compile.Goals as goal

pub returns-in-Some : goal.returns-in-Some
returns-in-Some t c =
    constant_grows c.args.draft.now c.as_is.result c.args.at.now.front.now c.args.m c.args.at.now.first c.args.kind (expression_of c.args.e.now) c.in-Some.value (sym c.in-Some.ensures)
    (ap (λ (w : Wired). w.atom) c.as_is.ensures ∙ c.literal.ensures ∙ ap (λ b. Literal b c.from.result) c.bits.ensures.value ∙ ap (λ v. Literal (bits_of c.args.kind) v) c.from.ensures)
    (ap (λ (w : Wired). w.count) c.as_is.ensures)

pub returns-in_ok-operand-in-Conv : goal.returns-in_ok-operand-in-Conv
returns-in_ok-operand-in-Conv t c =
    let is : expression_of c.args.e.now ≡ Converted c.in-Conv.from c.in-Conv.to (expression_of c.deref-in-Conv.result.now) = cc (ap expression_of c.in-Conv.is, c.deref-in-Conv.ensures) in
    let none : fixed (expression_of c.args.e.now) ≡ None = sym c.fixed.ensures ∙ is_none_of c.fixed.result c.in_default.not-Some in
    IfOk-weaker c.converted.result _ _
    (λ r h.
    compound c.args.draft.now _ r c.args.at.now.front.now c.args.m c.args.at.now.first c.args.kind (expression_of c.args.e.now) (Converted c.in-Conv.from c.in-Conv.to (expression_of c.deref-in-Conv.result.now)) _ is none refl
    (h c.args.draft.now (compiled c.args.at.now.front.now c.args.m c.args.at.now.first c.in-Conv.from (expression_of c.deref-in-Conv.result.now)) c.in_ok-operand-in-Conv.ensures))
    c.converted.ensures

pub returns-in_ok-operand-in-Flip : goal.returns-in_ok-operand-in-Flip
returns-in_ok-operand-in-Flip t c =
    let is : expression_of c.args.e.now ≡ Flipped c.in-Flip.own (expression_of c.deref-in-Flip.result.now) = cc (ap expression_of c.in-Flip.is, c.deref-in-Flip.ensures) in
    let none : fixed (expression_of c.args.e.now) ≡ None = sym c.fixed.ensures ∙ is_none_of c.fixed.result c.in_default.not-Some in
    IfOk-weaker c.inverted.result _ _
    (λ r h.
    compound c.args.draft.now _ r c.args.at.now.front.now c.args.m c.args.at.now.first c.args.kind (expression_of c.args.e.now) (Flipped c.in-Flip.own (expression_of c.deref-in-Flip.result.now)) _ is none refl
    (h c.args.draft.now (compiled c.args.at.now.front.now c.args.m c.args.at.now.first c.in-Flip.own (expression_of c.deref-in-Flip.result.now)) c.in_ok-operand-in-Flip.ensures))
    c.inverted.ensures

pub returns-in_ok-operand-in-Not : goal.returns-in_ok-operand-in-Not
returns-in_ok-operand-in-Not t c =
    let is : expression_of c.args.e.now ≡ Inverse (expression_of c.deref-in-Not.result.now) = cc (ap expression_of c.in-Not.is, c.deref-in-Not.ensures) in
    let none : fixed (expression_of c.args.e.now) ≡ None = sym c.fixed.ensures ∙ is_none_of c.fixed.result c.in_default.not-Some in
    IfOk-weaker c.inverted-in-Not.result _ _
    (λ r h.
    compound c.args.draft.now _ r c.args.at.now.front.now c.args.m c.args.at.now.first c.args.kind (expression_of c.args.e.now) (Inverse (expression_of c.deref-in-Not.result.now)) _ is none refl
    (h c.args.draft.now (compiled c.args.at.now.front.now c.args.m c.args.at.now.first Bool (expression_of c.deref-in-Not.result.now)) c.in_ok-operand-in-Not.ensures))
    c.inverted-in-Not.ensures

pub returns-in_ok-b-in-Apply : goal.returns-in_ok-b-in-Apply
returns-in_ok-b-in-Apply t c =
    let is : expression_of c.args.e.now ≡ Applied c.in-Apply.op c.in-Apply.own (expression_of c.deref-in-Apply-2.result.now) (expression_of c.deref-in-Apply-3.result.now) = cc (ap expression_of c.in-Apply.is, c.deref-in-Apply-2.ensures, c.deref-in-Apply-3.ensures) in
    let reads : c.in_ok-after-in-Apply.after ≡ c.args.m + read_count (expression_of c.deref-in-Apply-2.result.now) = cc (c.in_ok-after-in-Apply.ensures, c.in_ok-read_count-in-Apply.ensures, c.deref-in-Apply-2.ensures, c.deref-in-Apply.ensures) in
    let start : c.in_ok-second-in-Apply.second.first ≡ c.args.at.now.first + (compiled c.args.at.now.front.now c.args.m c.args.at.now.first c.in-Apply.own (expression_of c.deref-in-Apply-2.result.now)).count = c.in_ok-second-in-Apply.ensures.first ∙ ap (λ i. c.args.at.now.first + i) c.in_ok-a-in-Apply.ensures.count in
    let none : fixed (expression_of c.args.e.now) ≡ None = sym c.fixed.ensures ∙ is_none_of c.fixed.result c.in_default.not-Some in
    IfOk-weaker c.applied.result _ _
    (λ r h.
    compound c.args.draft.now _ r c.args.at.now.front.now c.args.m c.args.at.now.first c.args.kind (expression_of c.args.e.now) (Applied c.in-Apply.op c.in-Apply.own (expression_of c.deref-in-Apply-2.result.now) (expression_of c.deref-in-Apply-3.result.now)) _ is none refl
    (h c.args.draft.now _ (compiled c.args.at.now.front.now c.args.m c.args.at.now.first c.in-Apply.own (expression_of c.deref-in-Apply-2.result.now)) (compiled c.args.at.now.front.now (c.args.m + read_count (expression_of c.deref-in-Apply-2.result.now)) (c.args.at.now.first + (compiled c.args.at.now.front.now c.args.m c.args.at.now.first c.in-Apply.own (expression_of c.deref-in-Apply-2.result.now)).count) (right_kind c.in-Apply.op c.in-Apply.own) (expression_of c.deref-in-Apply-3.result.now)) c.in_ok-a-in-Apply.ensures
    (same_start _ _ c.in_ok-b-in-Apply.b _ c.args.at.now.front.now c.right_kind-count.result ((right_kind c.in-Apply.op c.in-Apply.own)) (expression_of c.deref-in-Apply-3.result.now) _ _ _ _ c.in_ok-second-in-Apply.ensures.front c.right_kind-count.ensures reads start c.in_ok-b-in-Apply.ensures)))
    c.applied.ensures

pub returns-in_ok-b-in-And : goal.returns-in_ok-b-in-And
returns-in_ok-b-in-And t c =
    let is : expression_of c.args.e.now ≡ Both (expression_of c.deref-in-And-2.result.now) (expression_of c.deref-in-And-3.result.now) = cc (ap expression_of c.in-And.is, c.deref-in-And-2.ensures, c.deref-in-And-3.ensures) in
    let reads : c.in_ok-after-in-And.after ≡ c.args.m + read_count (expression_of c.deref-in-And-2.result.now) = cc (c.in_ok-after-in-And.ensures, c.in_ok-read_count-in-And.ensures, c.deref-in-And-2.ensures, c.deref-in-And.ensures) in
    let start : c.in_ok-second-in-And.second.first ≡ c.args.at.now.first + (compiled c.args.at.now.front.now c.args.m c.args.at.now.first Bool (expression_of c.deref-in-And-2.result.now)).count = c.in_ok-second-in-And.ensures.first ∙ ap (λ i. c.args.at.now.first + i) c.in_ok-a-in-And.ensures.count in
    let none : fixed (expression_of c.args.e.now) ≡ None = sym c.fixed.ensures ∙ is_none_of c.fixed.result c.in_default.not-Some in
    IfOk-weaker c.joined.result _ _
    (λ r h.
    compound c.args.draft.now _ r c.args.at.now.front.now c.args.m c.args.at.now.first c.args.kind (expression_of c.args.e.now) (Both (expression_of c.deref-in-And-2.result.now) (expression_of c.deref-in-And-3.result.now)) _ is none refl
    (h c.args.draft.now _ (compiled c.args.at.now.front.now c.args.m c.args.at.now.first Bool (expression_of c.deref-in-And-2.result.now)) (compiled c.args.at.now.front.now (c.args.m + read_count (expression_of c.deref-in-And-2.result.now)) (c.args.at.now.first + (compiled c.args.at.now.front.now c.args.m c.args.at.now.first Bool (expression_of c.deref-in-And-2.result.now)).count) Bool (expression_of c.deref-in-And-3.result.now)) c.in_ok-a-in-And.ensures
    (same_start _ _ c.in_ok-b-in-And.b _ c.args.at.now.front.now Bool (Bool) (expression_of c.deref-in-And-3.result.now) _ _ _ _ c.in_ok-second-in-And.ensures.front refl reads start c.in_ok-b-in-And.ensures)))
    c.joined.ensures

pub returns-in_ok-b-in-Or : goal.returns-in_ok-b-in-Or
returns-in_ok-b-in-Or t c =
    let is : expression_of c.args.e.now ≡ Either (expression_of c.deref-in-Or-2.result.now) (expression_of c.deref-in-Or-3.result.now) = cc (ap expression_of c.in-Or.is, c.deref-in-Or-2.ensures, c.deref-in-Or-3.ensures) in
    let reads : c.in_ok-after-in-Or.after ≡ c.args.m + read_count (expression_of c.deref-in-Or-2.result.now) = cc (c.in_ok-after-in-Or.ensures, c.in_ok-read_count-in-Or.ensures, c.deref-in-Or-2.ensures, c.deref-in-Or.ensures) in
    let start : c.in_ok-second-in-Or.second.first ≡ c.args.at.now.first + (compiled c.args.at.now.front.now c.args.m c.args.at.now.first Bool (expression_of c.deref-in-Or-2.result.now)).count = c.in_ok-second-in-Or.ensures.first ∙ ap (λ i. c.args.at.now.first + i) c.in_ok-a-in-Or.ensures.count in
    let none : fixed (expression_of c.args.e.now) ≡ None = sym c.fixed.ensures ∙ is_none_of c.fixed.result c.in_default.not-Some in
    IfOk-weaker c.joined-in-Or.result _ _
    (λ r h.
    compound c.args.draft.now _ r c.args.at.now.front.now c.args.m c.args.at.now.first c.args.kind (expression_of c.args.e.now) (Either (expression_of c.deref-in-Or-2.result.now) (expression_of c.deref-in-Or-3.result.now)) _ is none refl
    (h c.args.draft.now _ (compiled c.args.at.now.front.now c.args.m c.args.at.now.first Bool (expression_of c.deref-in-Or-2.result.now)) (compiled c.args.at.now.front.now (c.args.m + read_count (expression_of c.deref-in-Or-2.result.now)) (c.args.at.now.first + (compiled c.args.at.now.front.now c.args.m c.args.at.now.first Bool (expression_of c.deref-in-Or-2.result.now)).count) Bool (expression_of c.deref-in-Or-3.result.now)) c.in_ok-a-in-Or.ensures
    (same_start _ _ c.in_ok-b-in-Or.b _ c.args.at.now.front.now Bool (Bool) (expression_of c.deref-in-Or-3.result.now) _ _ _ _ c.in_ok-second-in-Or.ensures.front refl reads start c.in_ok-b-in-Or.ensures)))
    c.joined-in-Or.ensures

pub returns-in_ok-b-in-Choose : goal.returns-in_ok-b-in-Choose
returns-in_ok-b-in-Choose t c =
    let is : expression_of c.args.e.now ≡ Chosen (expression_of c.deref-in-Choose-3.result.now) (expression_of c.deref-in-Choose-4.result.now) (expression_of c.deref-in-Choose-5.result.now) = cc (ap expression_of c.in-Choose.is, c.deref-in-Choose-3.ensures, c.deref-in-Choose-4.ensures, c.deref-in-Choose-5.ensures) in
    let reads : c.in_ok-after-in-Choose.after ≡ c.args.m + read_count (expression_of c.deref-in-Choose-3.result.now) = cc (c.in_ok-after-in-Choose.ensures, c.in_ok-read_count-in-Choose.ensures, c.deref-in-Choose-3.ensures, c.deref-in-Choose.ensures) in
    let start : c.in_ok-second-in-Choose.second.first ≡ c.args.at.now.first + (compiled c.args.at.now.front.now c.args.m c.args.at.now.first Bool (expression_of c.deref-in-Choose-3.result.now)).count = c.in_ok-second-in-Choose.ensures.first ∙ ap (λ i. c.args.at.now.first + i) c.in_ok-c-in-Choose.ensures.count in
    let g = same_start _ _ c.in_ok-a-in-Choose.a _ c.args.at.now.front.now c.args.kind c.args.kind (expression_of c.deref-in-Choose-4.result.now) _ _ _ _ c.in_ok-second-in-Choose.ensures.front refl reads start c.in_ok-a-in-Choose.ensures in
    let later : c.in_ok-later-in-Choose.later ≡ c.args.m + read_count (expression_of c.deref-in-Choose-3.result.now) + read_count (expression_of c.deref-in-Choose-4.result.now) = cc (c.in_ok-later-in-Choose.ensures, c.in_ok-read_count-in-Choose-2.ensures, c.deref-in-Choose-4.ensures, c.deref-in-Choose-2.ensures, reads) in
    let third : c.in_ok-third-in-Choose.third.first ≡ c.args.at.now.first + (compiled c.args.at.now.front.now c.args.m c.args.at.now.first Bool (expression_of c.deref-in-Choose-3.result.now)).count + (compiled c.args.at.now.front.now (c.args.m + read_count (expression_of c.deref-in-Choose-3.result.now)) (c.args.at.now.first + (compiled c.args.at.now.front.now c.args.m c.args.at.now.first Bool (expression_of c.deref-in-Choose-3.result.now)).count) c.args.kind (expression_of c.deref-in-Choose-4.result.now)).count = c.in_ok-third-in-Choose.ensures.first ∙ ap (λ i. i + c.in_ok-a-in-Choose.a.count) start ∙ ap (λ i. c.args.at.now.first + (compiled c.args.at.now.front.now c.args.m c.args.at.now.first Bool (expression_of c.deref-in-Choose-3.result.now)).count + i) g.count in
    let none : fixed (expression_of c.args.e.now) ≡ None = sym c.fixed.ensures ∙ is_none_of c.fixed.result c.in_default.not-Some in
    IfOk-weaker c.chosen.result _ _
    (λ r h.
    compound c.args.draft.now _ r c.args.at.now.front.now c.args.m c.args.at.now.first c.args.kind (expression_of c.args.e.now) (Chosen (expression_of c.deref-in-Choose-3.result.now) (expression_of c.deref-in-Choose-4.result.now) (expression_of c.deref-in-Choose-5.result.now)) _ is none refl
    (h c.args.draft.now _ _ (compiled c.args.at.now.front.now c.args.m c.args.at.now.first Bool (expression_of c.deref-in-Choose-3.result.now)) (compiled c.args.at.now.front.now (c.args.m + read_count (expression_of c.deref-in-Choose-3.result.now)) (c.args.at.now.first + (compiled c.args.at.now.front.now c.args.m c.args.at.now.first Bool (expression_of c.deref-in-Choose-3.result.now)).count) c.args.kind (expression_of c.deref-in-Choose-4.result.now)) (compiled c.args.at.now.front.now (c.args.m + read_count (expression_of c.deref-in-Choose-3.result.now) + read_count (expression_of c.deref-in-Choose-4.result.now)) (c.args.at.now.first + (compiled c.args.at.now.front.now c.args.m c.args.at.now.first Bool (expression_of c.deref-in-Choose-3.result.now)).count + (compiled c.args.at.now.front.now (c.args.m + read_count (expression_of c.deref-in-Choose-3.result.now)) (c.args.at.now.first + (compiled c.args.at.now.front.now c.args.m c.args.at.now.first Bool (expression_of c.deref-in-Choose-3.result.now)).count) c.args.kind (expression_of c.deref-in-Choose-4.result.now)).count) c.args.kind (expression_of c.deref-in-Choose-5.result.now)) c.in_ok-c-in-Choose.ensures g
    (same_start _ _ c.in_ok-b-in-Choose.b _ c.args.at.now.front.now c.args.kind c.args.kind (expression_of c.deref-in-Choose-5.result.now) _ _ _ _ (c.in_ok-third-in-Choose.ensures.front ∙ c.in_ok-second-in-Choose.ensures.front) refl later third c.in_ok-b-in-Choose.ensures)))
    c.chosen.ensures
