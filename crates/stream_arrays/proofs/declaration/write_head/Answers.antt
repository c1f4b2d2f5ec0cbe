use Rattle.std.proofs.Common.{ap, ◌∙◌}
use Rattle.std.specs.Prelude.{codes}
use Rattle.stream_arrays.specs.Words.{words_of, depth_words}
use Rattle.stream_arrays.specs.Writing.{writing, said, said_word}
use Rattle.stream_arrays.proofs.Writers.{said_head}
use Rattle.stream_arrays.proofs.declaration.write_head.Goals as goal

pub returns-clause-ok : goal.returns-clause-ok
returns-clause-ok c =
    let text = c.args.text.now in
    let d = c.args.declaration.now in
    c.in_ok-word-5.ensures
    ∙ ap (λ v. said_word v (codes ">")) (c.in_ok-write_depth.ensures.ok
    ∙ ap (λ v. said v (depth_words text d.depth)) (c.in_ok-words.ensures
    ∙ ap (λ v. said v (words_of text d.element.now)) (c.in_ok-word-4.ensures
    ∙ ap (λ v. said_word v (codes "<")) (c.in_ok-word-3.ensures
    ∙ ap (λ v. said_word v (codes "stream")) (c.in_ok-word-2.ensures
    ∙ ap (λ v. said_word v (codes "::")) c.in_ok-word.ensures)))))
    ∙ said_head (writing c.args.out.now) (codes "tapa") (codes "::") (codes "stream") (codes "<") (codes ">") (words_of text d.element.now) (depth_words text d.depth)
