-- A coroutine may move to another thread.
use denote.Param.Send.{IsSend, IsSync, sendable}
use Rattle.std.proofs.Crossing.{crosses}
use Rattle.task_fsm.specs.contracts.machine.Expr as Expr
use Rattle.task_fsm.proofs.machine.Expr.TheLaws.TheKnot as knot
use Rattle.task_fsm.specs.contracts.machine.State as State
use Rattle.task_fsm.specs.contracts.machine.Fsm as Fsm
use Rattle.tapa_base.specs.contracts.kind.Kind as Kind
use Rattle.tapa_base.specs.contracts.op.Op as Op
use Rattle.flat_arithmetic.specs.contracts.width.Width as Width
use Rattle.flat_arithmetic.specs.contracts.width.Conversion as Conversion
use Rattle.flat_code.specs.contracts.code.Operand as Operand
use Rattle.flat_code.specs.contracts.code.Other as Other
use Rattle.flat_code.specs.contracts.code.Computation as Computation
use Rattle.flat_code.specs.contracts.code.Instruction as Instruction
use Rattle.flat_code.specs.contracts.code.Request as Request
use Rattle.flat_code.specs.contracts.code.Act as Act
use Rattle.flat_code.specs.contracts.code.Branch as Branch
use Rattle.flat_code.specs.contracts.code.Count as Count
use Rattle.flat_code.specs.contracts.code.Transfer as Transfer
use Rattle.flat_code.specs.contracts.code.StateCode as StateCode
use Rattle.coro_machine.specs.contracts.coro.Coro as Coro
use Rattle.coro_machine.specs.contracts.machine.Machine as Machine
use Rattle.coro_machine.proofs.run.MachineRun.TheSendSync as run

expr_send : IsSend Expr.the_field.row
expr_send = search (knot.crosses, sendable, crosses) depth 60

expr_sync : IsSync Expr.the_field.row
expr_sync = search (knot.crosses, sendable, crosses) depth 60

state_send : IsSend State.the_row
state_send = search (expr_send, sendable, crosses) depth 60

state_sync : IsSync State.the_row
state_sync = search (expr_sync, sendable, crosses) depth 60

operand_send : IsSend Operand.the_field.row
operand_send = search (sendable, crosses) depth 60

operand_sync : IsSync Operand.the_field.row
operand_sync = search (sendable, crosses) depth 60

kind_send : IsSend Kind.the_field.row
kind_send = search (sendable, crosses) depth 60

kind_sync : IsSync Kind.the_field.row
kind_sync = search (sendable, crosses) depth 60

op_send : IsSend Op.the_field.row
op_send = search (sendable, crosses) depth 60

op_sync : IsSync Op.the_field.row
op_sync = search (sendable, crosses) depth 60

width_send : IsSend Width.the_row
width_send = search (kind_send, sendable, crosses) depth 60

width_sync : IsSync Width.the_row
width_sync = search (kind_sync, sendable, crosses) depth 60

conversion_send : IsSend Conversion.the_row
conversion_send = search (kind_send, sendable, crosses) depth 60

conversion_sync : IsSync Conversion.the_row
conversion_sync = search (kind_sync, sendable, crosses) depth 60

other_send : IsSend Other.the_field.row
other_send = search (kind_send, op_send, operand_send, sendable, crosses) depth 120 fits 60000

other_sync : IsSync Other.the_field.row
other_sync = search (kind_sync, op_sync, operand_sync, sendable, crosses) depth 120 fits 60000

computation_send : IsSend Computation.the_field.row
computation_send = search (kind_send, op_send, width_send, conversion_send, operand_send, other_send, sendable, crosses) depth 120 fits 60000

computation_sync : IsSync Computation.the_field.row
computation_sync = search (kind_sync, op_sync, width_sync, conversion_sync, operand_sync, other_sync, sendable, crosses) depth 120 fits 60000

instruction_send : IsSend Instruction.the_row
instruction_send = search (computation_send, sendable, crosses) depth 60

instruction_sync : IsSync Instruction.the_row
instruction_sync = search (computation_sync, sendable, crosses) depth 60

request_send : IsSend Request.the_field.row
request_send = search (sendable, crosses) depth 60

request_sync : IsSync Request.the_field.row
request_sync = search (sendable, crosses) depth 60

branch_send : IsSend Branch.the_row
branch_send = search (sendable, crosses) depth 60

branch_sync : IsSync Branch.the_row
branch_sync = search (sendable, crosses) depth 60

act_send : IsSend Act.the_field.row
act_send = search (computation_send, operand_send, kind_send, width_send, branch_send, sendable, crosses) depth 120 fits 60000

act_sync : IsSync Act.the_field.row
act_sync = search (computation_sync, operand_sync, kind_sync, width_sync, branch_sync, sendable, crosses) depth 120 fits 60000

count_send : IsSend Count.the_row
count_send = search (branch_send, width_send, operand_send, sendable, crosses) depth 60

count_sync : IsSync Count.the_row
count_sync = search (branch_sync, width_sync, operand_sync, sendable, crosses) depth 60

transfer_send : IsSend Transfer.the_field.row
transfer_send = search (sendable, crosses) depth 60

transfer_sync : IsSync Transfer.the_field.row
transfer_sync = search (sendable, crosses) depth 60

place_send : IsSend StateCode.the_row
place_send = search (request_send, instruction_send, count_send, transfer_send, act_send, sendable, crosses) depth 60

place_sync : IsSync StateCode.the_row
place_sync = search (request_sync, instruction_sync, count_sync, transfer_sync, act_sync, sendable, crosses) depth 60

fsm_field_send : IsSend Fsm.the_field.row
fsm_field_send = search (state_send, sendable, crosses) depth 60

fsm_field_sync : IsSync Fsm.the_field.row
fsm_field_sync = search (state_sync, sendable, crosses) depth 60

machine_send : IsSend Machine.the_row
machine_send = search (fsm_field_send, place_send, sendable, crosses) depth 60

machine_sync : IsSync Machine.the_row
machine_sync = search (fsm_field_sync, place_sync, sendable, crosses) depth 60

-- its machine stands behind an `Arc`, which asks both laws of it
pub coro_send : IsSend Coro.the_row
coro_send = search (machine_send, machine_sync, run.the_field_send, sendable, crosses) depth 60
