use Rattle.std.proofs.Common.{ap, ◌∙◌}
use Rattle.hw_build.specs.Elements.{with_all}
use Rattle.task_fsm.specs.Machine.{form_of}
use Rattle.hw_lines.specs.States.{awaited, go_of}
use Rattle.hw_nets.specs.Shapes.{form}
use Rattle.hw_states.proofs.StateWires.{state_grows}
use Rattle.hw_states.proofs.states.add_state.Goals as goal

pub returns : goal.returns
returns c =
    let F = form_of c.state-state.result.now in
    record {
      draft =
          state_grows (form c.args.shape.now) c.args.k F c.args.draft.now c.add_index.new.draft c.add_value.new.draft c.add_more.new.draft c.add_go.new.draft c.add_next_wire.new.draft c.state-state.ensures
          c.in_ok-index.ensures.draft c.in_ok-value.ensures.draft c.in_ok-add_more.ensures
          (c.in_ok-add_go.ensures ∙ ap (λ w. with_all c.add_more.new.draft (go_of c.args.k w c.needs_go.result)) c.awaited.ensures
          ∙ ap (λ b. with_all c.add_more.new.draft (go_of c.args.k (awaited F) b)) c.needs_go.ensures)
          c.in_ok-add_next_wire.ensures;
      operands = record { index = c.in_ok-index.ensures.atom; value = c.in_ok-value.ensures.atom };
    }
