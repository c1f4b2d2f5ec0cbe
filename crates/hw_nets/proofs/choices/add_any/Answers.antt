use Rattle.std.proofs.Common.{ap, ◌∙◌}
use Rattle.hw_build.specs.Elements.{with_all}
use Rattle.hw_build.specs.Choices.{any_elements}
use Rattle.hw_nets.specs.Entries.{entry_forms}
use Rattle.hw_nets.proofs.choices.add_any.Goals as goal

pub returns : goal.returns
returns c = c.in_ok-add_any_row.ensures ∙ ap (λ f. with_all c.args.draft.now (any_elements f (entry_forms c.args.entries.now))) c.in_ok-front.ensures
