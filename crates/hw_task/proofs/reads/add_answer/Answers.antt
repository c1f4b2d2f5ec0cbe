use Rattle.std.proofs.Common.{ap, ◌∙◌}
use Rattle.hw_build.specs.Elements.{with_all}
use Rattle.hw_build.specs.Choices.{pick_elements}
use Rattle.hw_lines.specs.declared.nets.Choice.TheVariants.{ArrayIndex}
use Rattle.hw_lines.specs.Nets.{front}
use Rattle.hw_nets.specs.Entries.{entry_forms}
use Rattle.hw_nets.specs.Shapes.{form}
use Rattle.hw_task.proofs.ReadPorts.{answered_grows}
use Rattle.hw_task.proofs.reads.add_answer.Goals as goal

pub returns : goal.returns
returns c =
    let F = entry_forms c.args.found.now in
    let P = entry_forms c.args.spots.now in
    answered_grows (form c.args.shape.now) c.args.p c.args.a F P c.args.draft.now c.add_any.new.draft c.add_pick.new.draft c.add_cell.new.draft c.requires.found c.requires.spots c.in_ok-add_any.ensures
    (c.in_ok-add_pick.ensures ∙ ap (λ w. with_all c.add_any.new.draft (pick_elements w (front (ArrayIndex c.args.p c.args.a)) P)) c.index_bits-width.ensures.value) c.in_ok-add_cell.ensures
