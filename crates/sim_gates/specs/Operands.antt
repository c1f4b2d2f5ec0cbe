-- Which operator of a tape means which of the Verilog subset.
use Rattle.vlog_tree.specs.declared.tree.BinaryOp.{BinaryOp}
use Rattle.vlog_tree.specs.declared.tree.BinaryOp.TheVariants as binary
use Rattle.sim_tape.specs.declared.gates.Operator.{Operator}
use Rattle.sim_tape.specs.declared.gates.Operator.TheVariants as operator

abbrev pub narrow_of : BinaryOp → Operator
narrow_of binary.Plus = operator.Plus
narrow_of binary.Minus = operator.Minus
narrow_of binary.Times = operator.Times
narrow_of binary.Divide = operator.Divide
narrow_of binary.Remainder = operator.Remainder
narrow_of binary.And = operator.And
narrow_of binary.Or = operator.Or
narrow_of binary.Xor = operator.Xor
narrow_of binary.ShiftLeft = operator.ShiftLeft
narrow_of binary.ShiftRight = operator.ShiftRight
narrow_of binary.Equals = operator.Equals
narrow_of binary.Differs = operator.Differs
narrow_of binary.Less = operator.Less

-- an operator goes bit by bit
abbrev pub IsBitwise : BinaryOp → Type 0
IsBitwise binary.And = Unit {0}
IsBitwise binary.Or = Unit {0}
IsBitwise binary.Xor = Unit {0}
IsBitwise binary.Plus = ⊥
IsBitwise binary.Minus = ⊥
IsBitwise binary.Times = ⊥
IsBitwise binary.Divide = ⊥
IsBitwise binary.Remainder = ⊥
IsBitwise binary.ShiftLeft = ⊥
IsBitwise binary.ShiftRight = ⊥
IsBitwise binary.Equals = ⊥
IsBitwise binary.Differs = ⊥
IsBitwise binary.Less = ⊥
