use Rattle.std.proofs.Common.{◌≡◌, length, arith, subst}
use Rattle.hw_lines.specs.Shape.{state_count}
use Rattle.hw_nets.specs.Shapes.{form}
use Rattle.hw_states.specs.Operands.{IsOperands}
use Rattle.hw_states.specs.declared.operands.Operands.{Operands}
use Rattle.hw_states.proofs.FirstStates.{operands_count, operand_at}
use Rattle.hw_states.proofs.machine.Machine.operands_of.Goals as goal

pub bounds-self-k : goal.bounds-self-k
bounds-self-k c =
    let S = form c.args.self.now.shape in
    let all : length c.args.self.now.operands.now ≡ state_count S = operands_count S c.args.self.now.operands.now (state_count S) c.args.self.now.are in
    omega (arith, all, c.requires)

pub returns : goal.returns
returns c =
    let S = form c.args.self.now.shape in
    subst (λ (o : Operands). IsOperands S c.args.k o) c.index-self-k.is
    (operand_at S c.args.self.now.operands.now (state_count S) c.args.k c.index-self-k.result c.args.self.now.are c.requires c.index-self-k.is)
