use Rattle.std.proofs.Common.{◌≡◌, ◌+◌, ◌-◌, ◌≤◌, ◌∷◌, [], Ok, length, length-drop, take, drop, min, ap, sym, subst, ◌∙◌, arith, rules}
use Rattle.std.specs.Prelude.{slice_range}
use Rattle.stream_arrays.specs.Answers.{IsArrayCause}
use Rattle.stream_arrays.specs.Forms.{inside_size}
use Rattle.stream_arrays.specs.Reading.{known}
use Rattle.stream_arrays.specs.Words.{end_of}
use Rattle.stream_arrays.specs.Written as spec
use Rattle.stream_arrays.specs.Writing.{Writing, writing, more, put}
use Rattle.stream_arrays.proofs.Turns.{split_of, gap_before, ending, form_done, form_fault, all_done}
use Rattle.tapa_base.proofs.Got.{empty_of as nil_of}
use Rattle.tapa_parse_expression.proofs.Turns.{no_more, one_more}
use Rattle.stream_arrays.proofs.whole.write_forms.Goals as goal

pub write_form-requires-clause-closing : goal.write_form-requires-clause-closing
write_form-requires-clause-closing c = c.closing_behind-closing.ensures c.args.text.now c.args.lexemes.now c.requires ∙ ap (λ z. inside_size c.args.text.now 0 (drop 10 z)) (sym c.behind-rest.ensures)

pub returns-in_err-size : goal.returns-in_err-size
returns-in_err-size c =
    let text = c.args.text.now in
    let ls = c.args.lexemes.now in
    let s = known c.loop-turn.scope in
    let at = c.loop-turn.at in
    let w = (writing c.loop-turn.out).text in
    let rest = drop at ls in
    let p = split_of c.behind-rest.result.now (omega arith) in
    let e0 : rest ≡ p.0 ∷ drop 1 c.behind-rest.result.now = sym c.behind-rest.ensures ∙ p.1 in
    let h : IsArrayCause c.in_err-size.field-0.0 (spec.step text s (take at ls) rest) =
    subst (λ z. IsArrayCause c.in_err-size.field-0.0 (spec.step text s (take at ls) z)) c.behind-rest.ensures (subst (λ z. IsArrayCause c.in_err-size.field-0.0 (spec.step text s z c.behind-rest.result.now)) c.front-before.ensures c.in_err-size.ensures.steps) in
    let k : IsArrayCause c.in_err-size.field-0.0 (ending (writing c.args.out.now).text (spec.whole text ls)) =
    subst (λ o. IsArrayCause c.in_err-size.field-0.0 o) (sym (one_more (λ n. ending w (spec.written_from text n s (take at ls) c.loop-turn.end rest)) _ c.loop-turn.turn c.loop-turn-test.true c.loop-turn.invariant.written))
    (form_fault text ls _ s at c.loop-turn.end p.0 (drop 1 c.behind-rest.result.now) w c.in_err-size.field-0.0 e0 h) in
    search rules

pub loop-turn-preserved : goal.loop-turn-preserved
loop-turn-preserved c =
    let text = c.args.text.now in
    let ls = c.args.lexemes.now in
    let s = known c.loop-turn.scope in
    let t = known c.write_form.new.scope in
    let at = c.loop-turn.at in
    let w = (writing c.loop-turn.out).text in
    let u = (writing c.write_form.new.out).text in
    let rest = drop at ls in
    let size = c.in_ok-size.size in
    let end = c.loop-turn.end in
    let m = length ls - (c.loop-turn.turn + 1) in
    let st = c.in_ok-size.ensures.steps in
    let p = split_of c.behind-rest.result.now (omega arith) in
    let tail = drop 1 c.behind-rest.result.now in
    let e0 : rest ≡ p.0 ∷ tail = sym c.behind-rest.ensures ∙ p.1 in
    let e1 : spec.step text s (take at ls) (p.0 ∷ tail) ≡ Ok st.0 = ap (λ z. spec.step text s z (p.0 ∷ tail)) (sym c.front-before.ensures) ∙ ap (spec.step text s c.front-before.result.now) (sym p.1) ∙ st.1 in
    let g : c.slice.result.now ≡ slice_range text end p.0.from = gap_before text end c.behind-rest.result.now _ p.0 tail c.slice.result.now p.1 c.slice.ensures in
    let e4 : u ≡ more (more w (slice_range text end p.0.from)) st.0.written = st.2.text ∙ ap (λ (z : Writing). more z.text st.0.written) c.in_ok-put-2.ensures ∙ ap (λ b. more (more w b) st.0.written) g in
    let n : at + min size (length rest) ≡ at + c.min-at.result = ap (λ z. at + min size (length z)) (sym c.behind-rest.ensures) ∙ ap (λ z. at + z) (sym c.min-at.ensures) in
    let f : end_of end (take size rest) ≡ c.end_of-end.result = ap (λ z. end_of end (take size z)) (sym c.behind-rest.ensures) ∙ ap (end_of end) (sym c.front.ensures) ∙ sym c.end_of-end.ensures in
    let d : c.write_form.new.scope.depth ≤ c.loop-turn.scope.depth + 1 = c.in_ok-size.ensures.depth in
    let len : length c.behind-rest.result.now ≡ length ls - at = ap length c.behind-rest.ensures ∙ length-drop at ls in
    record {
      written =
          one_more (λ n. ending w (spec.written_from text n s (take at ls) end rest)) _ c.loop-turn.turn c.loop-turn-test.true c.loop-turn.invariant.written
          ∙ form_done text ls m s at end p.0 tail st.0 size w u t e0 e1 st.2.scope st.2.sized e4
          ∙ ap (λ k. ending u (spec.written_from text m t (take k ls) (end_of end (take size rest)) (drop k ls))) n
          ∙ ap (λ z. ending u (spec.written_from text m t (take (at + c.min-at.result) ls) z (drop (at + c.min-at.result) ls))) f;
      depth = omega arith;
      within = omega (arith, c.min-at.ensures);
    }

pub returns-in_default : goal.returns-in_default
returns-in_default c =
    let text = c.args.text.now in
    let ls = c.args.lexemes.now in
    let w = writing c.loop-turn.out in
    let none : drop c.loop-turn.at ls ≡ [] = sym c.behind-rest.ensures ∙ nil_of c.behind-rest.result.now (omega arith) in
    c.loop-turn.invariant.written
    ∙ all_done text _ (known c.loop-turn.scope) (take c.loop-turn.at ls) c.loop-turn.end (drop c.loop-turn.at ls) w.text none
    ∙ ap (λ (z : Writing). Ok z.text) (sym (c.in_ok-put.ensures ∙ ap (put w) c.text_behind.ensures))

pub returns : goal.returns
returns c =
    let text = c.args.text.now in
    let ls = c.args.lexemes.now in
    let w = writing c.loop-turn.out in
    no_more (λ n. ending w.text (spec.written_from text n (known c.loop-turn.scope) (take c.loop-turn.at ls) c.loop-turn.end (drop c.loop-turn.at ls))) _ c.loop-turn.turn c.loop-turn-test.false c.loop-turn.invariant.written
    ∙ ap (λ (z : Writing). Ok z.text) (sym (c.in_ok-put-3.ensures ∙ ap (put w) c.text_behind-2.ensures))
