use Rattle.std.proofs.Common.{ap, ◌∙◌}
use Rattle.stream_arrays.specs.Numbers.{found}
use Rattle.stream_arrays.proofs.Tables.{lookup_is}
use Rattle.stream_arrays.proofs.table.Table.get.Goals as goal

pub returns : goal.returns
returns c = c.copied.ensures ∙ c.get.ensures.value ∙ lookup_is c.args.name.now c.self.inside.numbers.entries ∙ ap (λ t. found t c.args.name.now) c.self.view_is
