use Rattle.std.proofs.Common.{ap, sym, ◌∙◌, ◌+◌}
use Rattle.std.proofs.lemmas.List.{drop-drop}
use Rattle.stream_arrays.specs.Forms.{inside_size}
use Rattle.stream_arrays.proofs.Closings.{table_at}
use Rattle.stream_arrays.proofs.whole.closing_behind.Goals as goal

pub returns : goal.returns
returns c = λ text lexemes h. c.next_closing.ensures ∙ table_at text lexemes c.args.closings.now (c.args.at + 10) h ∙ ap (inside_size text 0) (sym (drop-drop 10 c.args.at lexemes))
