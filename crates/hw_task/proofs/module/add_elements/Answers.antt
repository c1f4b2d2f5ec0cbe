use Rattle.std.proofs.Common.{List, ◌++◌, length}
use Rattle.hw_build.specs.Elements.{Element}
use Rattle.hw_build.specs.Scope.{each}
use Rattle.hw_lines.specs.Shape.{state_count}
use Rattle.hw_lines.specs.States.{decoded, state_wires}
use Rattle.hw_lines.specs.Texts.{inputs, held, offered, reads_of, read_numbers, choices, outputs, blocks}
use Rattle.hw_nets.proofs.Grows.{both}
use Rattle.hw_nets.specs.Shapes.{form}
use Rattle.hw_task.proofs.module.add_elements.Goals as goal

pub returns : goal.returns
returns c =
    let S = form c.args.shape.now in
    let X0 : List Element = inputs S in
    let X1 : List Element = held S in
    let X2 : List Element = each (decoded S) (state_count S) in
    let X3 : List Element = each (offered S) (length S.streams) in
    let X4 : List Element = each (reads_of S) (read_numbers S) in
    let X5 : List Element = each (state_wires S) (state_count S) in
    let X6 : List Element = choices S in
    let X7 : List Element = outputs S in
    let X8 : List Element = blocks S in
    both c.args.draft.now c.add_outputs.new.draft c.add_blocks.new.draft (X0 ++ X1 ++ X2 ++ X3 ++ X4 ++ X5 ++ X6 ++ X7) X8 (both c.args.draft.now c.add_choices.new.draft c.add_outputs.new.draft (X0 ++ X1 ++ X2 ++ X3 ++ X4 ++ X5 ++ X6) X7 (both c.args.draft.now c.add_states.new.draft c.add_choices.new.draft (X0 ++ X1 ++ X2 ++ X3 ++ X4 ++ X5) X6 (both c.args.draft.now c.add_all_reads.new.draft c.add_states.new.draft (X0 ++ X1 ++ X2 ++ X3 ++ X4) X5 (both c.args.draft.now c.add_offers.new.draft c.add_all_reads.new.draft (X0 ++ X1 ++ X2 ++ X3) X4 (both c.args.draft.now c.add_decodes.new.draft c.add_offers.new.draft (X0 ++ X1 ++ X2) X3 (both c.args.draft.now c.add_held.new.draft c.add_decodes.new.draft (X0 ++ X1) X2 (both c.args.draft.now c.add_inputs.new.draft c.add_held.new.draft X0 X1 c.in_ok-add_inputs.ensures c.in_ok-add_held.ensures) c.in_ok-add_decodes.ensures) c.in_ok-add_offers.ensures) c.in_ok-add_all_reads.ensures) c.in_ok-operands.ensures.draft) c.in_ok-add_choices.ensures) c.in_ok-add_outputs.ensures) c.in_ok-add_blocks.ensures
