use Rattle.std.proofs.Common.{ap, ◌∙◌}
use Rattle.stream_arrays.specs.Numbers.{numbering_of, numbered}
use Rattle.stream_arrays.proofs.Tables.{numbered_is}
use Rattle.stream_arrays.proofs.table.Table.set.Goals as goal

pub returns-clause-ok : goal.returns-clause-ok
returns-clause-ok c =
    ap numbering_of c.in_ok-insert.ensures.entries
    ∙ numbered_is c.in_ok-key.key c.args.number c.self.inside.numbers.entries
    ∙ ap (λ k. numbered (numbering_of c.self.inside.numbers.entries) k c.args.number) (c.in_ok-key.ensures.items_if_clones_equal (λ x y e. e))
    ∙ ap (λ t. numbered t c.args.name.now c.args.number) c.self.view_is
