use Rattle.std.proofs.Common.{ap, ◌∙◌}
use Rattle.hw_build.specs.Elements.{empty, with_all}
use Rattle.hw_top_lines.specs.Texts.{top_elements}
use Rattle.hw_top.proofs.top.drafted.Goals as goal

pub returns : goal.returns
returns c = c.in_ok-add_elements.ensures ∙ ap (λ d. with_all d (top_elements c.args.program.now c.args.added.now)) (c.in_ok-draft.ensures ∙ ap empty c.in_ok-task_name.ensures)
