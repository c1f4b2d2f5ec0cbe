use Rattle.std.proofs.Common.{take, refl, ap, sym, ◌∙◌, Ok}
use Rattle.std.specs.List.{filter}
use Rattle.std.specs.Prelude.{slice_range}
use Rattle.stream_arrays.specs.Words.{element_words, is_line_feed, line_feeds, start_of, end_of}
use Rattle.stream_arrays.specs.Reading.{known}
use Rattle.stream_arrays.specs.Written as spec
use Rattle.stream_arrays.specs.Writing.{writing, said, put}
use Rattle.stream_arrays.proofs.Writers.{fits}
use Rattle.stream_arrays.proofs.Steps.{form_written}
use Rattle.stream_arrays.proofs.element.write_element.Goals as goal

pub returns : goal.returns
returns c =
    let text = c.args.text.now in
    let ls = c.args.lexemes.now in
    let s = known c.args.scope.now in
    let k = c.in_ok-index.index in
    let words = element_words text ls k in (
      spec.element_written text s ls k,
      ap (λ o. spec.and_then o (λ i. Ok (spec.element_written text s ls i))) (ap (λ p. spec.index_in p (c.args.length, c.args.index)) (sym c.first_place.ensures) ∙ c.in_ok-index.ensures),
      record {
        scope = refl;
        sized = refl;
        text =
            form_written (writing c.args.out.now) (writing c.write_name.new.out) (writing c.line_feeds.new.self) words (line_feeds text (take 4 ls)) (fits c.args.out.now)
            (c.in_ok-write_name.ensures.ok ∙ ap (λ v. said v words) c.begin.ensures)
            (c.in_ok-line_feeds.ensures ∙ ap (λ b. put (writing c.write_name.new.out) (filter is_line_feed b)) (c.span.ensures ∙ ap (λ z. slice_range text (start_of z) (end_of 0 z)) c.front.ensures));
      },
    )
