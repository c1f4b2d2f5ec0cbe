use Rattle.std.proofs.Common.{ap, ◌∙◌}
use Rattle.hw_build.specs.Elements.{empty, with_all}
use Rattle.hw_lines.specs.Shape.{shape_of}
use Rattle.hw_lines.specs.Texts.{task_elements}
use Rattle.hw_nets.specs.Shapes.{form}
use Rattle.hw_task.proofs.module.drafted.Goals as goal

pub returns : goal.returns
unfolding form
returns c =
    c.in_ok-add_elements.ensures
    ∙ ap (λ d. with_all d (task_elements (shape_of c.args.machine.now c.args.memories.now c.args.streams.now))) (c.in_ok-draft.ensures ∙ ap empty c.in_ok-task_name.ensures)
