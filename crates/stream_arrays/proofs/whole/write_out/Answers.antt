use Rattle.std.proofs.Common.{◌≡◌, true, Ok, ap, sym, ◌∙◌}
use Rattle.std.specs.Prelude.{◌&&◌}
use Rattle.stream_arrays.specs.Plain.{is_plain, is_in_order}
use Rattle.stream_arrays.proofs.Copies.{plain_text}
use Rattle.tapa_base.proofs.Tests.{and_left, and_right}
use Rattle.stream_arrays.proofs.whole.write_out.Goals as goal

pub returns-then-has_no_form-clause-written : goal.returns-then-has_no_form-clause-written
returns-then-has_no_form-clause-written c =
    let text = c.args.text.now in
    let ls = c.args.lexemes.now in
    let h : (is_plain text ls && is_in_order text 0 ls) ≡ true = sym c.has_no_form.ensures ∙ c.if-has_no_form.true in
    plain_text text ls c.if-text-le-MOST.true (and_left (is_plain text ls) (is_in_order text 0 ls) h) (and_right (is_plain text ls) (is_in_order text 0 ls) h)
    ∙ ap (λ z. Ok z) (sym (c.in_ok-to_vec.ensures.items_if_clones_equal (λ x y e. e)))
