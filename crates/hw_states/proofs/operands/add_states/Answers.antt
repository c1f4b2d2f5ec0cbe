use Rattle.std.proofs.Common.{◌≡◌, ◌+◌, sym, subst, arith}
use Rattle.hw_lines.specs.Shape.{state_count}
use Rattle.hw_lines.specs.States.{state_wires}
use Rattle.hw_nets.proofs.Grows.{each_more, each_end}
use Rattle.hw_states.specs.Operands.{AreOperands}
use Rattle.hw_nets.specs.Shapes.{form}
use Rattle.hw_states.proofs.FirstStates.{operands_more}
use Rattle.hw_states.proofs.operands.add_states.Goals as goal

pub loop-k-preserved : goal.loop-k-preserved
loop-k-preserved c =
    let S = form c.args.shape.now in
    record {
      draft = each_more c.args.draft.now c.loop-k.draft c.add_state.new.draft (state_wires S) c.loop-k.k c.loop-k.invariant.draft c.in_ok-add_state.ensures.draft;
      operands =
          subst (λ xs. AreOperands S xs (c.loop-k.k + 1)) (sym c.in_ok-push.ensures.items)
          (operands_more S c.loop-k.operands.items c.in_ok-add_state.field-0 c.loop-k.k c.loop-k.invariant.operands c.in_ok-add_state.ensures.operands);
    }

pub returns : goal.returns
returns c =
    let S = form c.args.shape.now in
    let all : c.loop-k.k ≡ state_count S = omega (arith, c.in_ok-count.ensures) in
    record {
      draft = each_end c.args.draft.now c.loop-k.draft (state_wires S) c.loop-k.k (state_count S) all c.loop-k.invariant.draft;
      operands = subst (λ n. AreOperands S c.loop-k.operands.items n) all c.loop-k.invariant.operands;
    }
