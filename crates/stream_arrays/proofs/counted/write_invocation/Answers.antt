use Rattle.std.proofs.Common.{Ok, ◌+◌, length, take, refl, ap, sym, ◌∙◌, add-one}
use Rattle.std.specs.List.{filter}
use Rattle.std.specs.Prelude.{slice_range}
use Rattle.stream_arrays.specs.Words.{invoke_words, is_line_feed, line_feeds, start_of, end_of}
use Rattle.stream_arrays.specs.Reading.{known, invocation_of}
use Rattle.stream_arrays.specs.Written as spec
use Rattle.stream_arrays.specs.Writing.{writing, said, put}
use Rattle.stream_arrays.proofs.Writers.{fits}
use Rattle.stream_arrays.proofs.Steps.{form_written}
use Rattle.stream_arrays.proofs.counted.write_invocation.Goals as goal

pub returns : goal.returns
returns c =
    let text = c.args.text.now in
    let ls = c.args.lexemes.now in
    let s = known c.args.scope.now in
    let v = invocation_of c.args.invocation in
    let n = c.in_ok-count.count in
    let pieces = c.in_ok-pieces.pieces.items in
    let words = invoke_words text pieces n in (
      spec.invoked_in text s ls v n pieces,
      ap (λ o. spec.and_then o (λ n. spec.and_then (spec.invocation_pieces text s ls v.inside n) (λ pieces. Ok (spec.invoked_in text s ls v n pieces)))) c.in_ok-count.ensures
          ∙ ap (λ o. spec.and_then o (λ pieces. Ok (spec.invoked_in text s ls v n pieces))) c.in_ok-pieces.ensures,
      record {
        scope = refl;
        sized = sym (add-one (10 + length v.inside));
        text =
            form_written (writing c.args.out.now) (writing c.write_invokes.new.out) (writing c.line_feeds.new.self) words (line_feeds text (take (10 + length v.inside + 1) ls)) (fits c.args.out.now)
            (c.in_ok-write_invokes.ensures.ok ∙ ap (λ z. said (writing c.begin.new.self) (invoke_words text z n)) c.deref.ensures.value ∙ ap (λ w. said w words) c.begin.ensures)
            (c.in_ok-line_feeds.ensures ∙ ap (λ b. put (writing c.write_invokes.new.out) (filter is_line_feed b)) (c.span.ensures ∙ ap (λ z. slice_range text (start_of z) (end_of 0 z)) c.front.ensures));
      },
    )
