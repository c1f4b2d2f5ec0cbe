use Rattle.std.proofs.Common.{Ok, ◌≡◌, ◌+◌, ◌-◌, suc, length, take, refl, ap, sym, ◌∙◌, arith}
use Rattle.std.specs.List.{filter}
use Rattle.std.specs.Prelude.{slice_range, codes}
use Rattle.stream_arrays.specs.Words.{name_words, is_line_feed, line_feeds, start_of, end_of}
use Rattle.stream_arrays.specs.Reading.{known, declaration_of, head_words}
use Rattle.stream_arrays.specs.Written as spec
use Rattle.stream_arrays.specs.Writing.{writing, said, said_word, put, begin}
use Rattle.stream_arrays.proofs.Writers.{fits, said_declaration}
use Rattle.stream_arrays.proofs.Steps.{form_written}
use Rattle.stream_arrays.proofs.declaration.write_declaration.Goals as goal

pub returns-clause-steps : goal.returns-clause-steps
returns-clause-steps c =
    let text = c.args.text.now in
    let ls = c.args.lexemes.now in
    let s = known c.args.scope.now in
    let d = declaration_of c.args.declaration in
    let n = c.in_ok-count.count in
    let arrays = c.with_arrays.new.arrays in
    let words = spec.declaration_words text d n in
    let size : suc (length ls - suc d.left) ≡ c.saturating_sub-size.result + 1 = omega arith in (
      spec.declared_in text s ls d n arrays,
      ap (λ o. spec.and_then o (λ n. spec.and_then (spec.without_array text s.arrays d.depth) (λ _. spec.and_then (spec.with_arrays text n s.arrays d.names) (λ arrays. Ok (spec.declared_in text s ls d n arrays))))) c.in_ok-count.ensures
          ∙ ap (λ o. spec.and_then o (λ _. spec.and_then (spec.with_arrays text n s.arrays d.names) (λ arrays. Ok (spec.declared_in text s ls d n arrays)))) c.in_ok-without_array.ensures
          ∙ ap (λ o. spec.and_then o (λ arrays. Ok (spec.declared_in text s ls d n arrays))) (ap (λ z. spec.with_arrays text n s.arrays z) (sym c.deref.ensures.value) ∙ c.in_ok-with_arrays.ensures),
      record {
        scope = refl;
        sized = size;
        text =
            form_written (writing c.args.out.now) (writing c.word.new.self) (writing c.line_feeds.new.self) words (line_feeds text (take (suc (length ls - suc d.left)) ls)) (fits c.args.out.now)
            (c.in_ok-word.ensures
            ∙ ap (λ w. said_word w (codes ";"))
            (c.in_ok-write_names.ensures.ok ∙ ap (λ z. said (writing c.write_head.new.out) (name_words text n z)) c.deref-2.ensures.value
            ∙ ap (λ w. said w (name_words text n d.names)) (c.in_ok-write_head.ensures.ok ∙ ap (λ w. said w (head_words text d)) c.begin.ensures))
            ∙ said_declaration text d n (begin (writing c.args.out.now)))
            (c.in_ok-line_feeds.ensures
            ∙ ap (λ b. put (writing c.word.new.self) (filter is_line_feed b)) (c.span.ensures ∙ ap (λ z. slice_range text (start_of z) (end_of 0 z)) (c.front.ensures ∙ ap (λ k. take k ls) (sym size))));
      },
    )
