-- What a case is made of may move to another thread where its bodies may.
use denote.RattleType.{RattleType}
use denote.Param.Send.{IsSend, IsSync, AllSend, sendable, struct_send, struct_sync, recorded_send, recorded_sync}
use Rattle.std.proofs.Crossing.{crosses}
use Rattle.tapa_syntax.specs.contracts.program.Expr as Expr
use Rattle.tapa_syntax.specs.contracts.program.Stmt as Stmt
use Rattle.tapa_syntax.specs.contracts.program.Leaf as Leaf
use Rattle.tapa_syntax.specs.contracts.program.Scalar as Scalar
use Rattle.tapa_syntax.specs.contracts.program.Memory as Memory
use Rattle.tapa_syntax.specs.contracts.program.Bound as Bound
use Rattle.tapa_syntax.specs.contracts.program.Instance as Instance
use Rattle.tapa_syntax.specs.contracts.program.Stream as Stream
use Rattle.tapa_syntax.specs.contracts.program.Program as Program
use Rattle.tapa_base.specs.contracts.text.Text as Text
use Rattle.net_core.specs.contracts.port.Port as Port
use Rattle.net_core.specs.contracts.body.Pause as Pause
use Rattle.net_core.specs.contracts.ports.Ports as Ports
use Rattle.net_core.specs.declared.body.Body.{Ghosts}
use Rattle.net_case.specs.contracts.batch.Process as Process
use Rattle.net_case.specs.contracts.queue.Queue as Queue
use Rattle.net_case.specs.contracts.case.Case as Case
use Rattle.net_case.specs.contracts.case.Case.TheInside as inside
use Rattle.std.specs.contracts.option.Option as Opt
use Rattle.atomic_table.proofs.shared.Seat.TheSendSync as table_seat
use Rattle.atomic_table.proofs.owned.Table.TheSendSync as whole
use Rattle.coro_threads.specs.contracts.seats.BoardSeat as BoardSeat
use Rattle.coro_threads.specs.contracts.seats.Worker as Worker
use Rattle.coro_threads.specs.contracts.seats.Board as Board
use denote.Struct.Declared.{shape}
use Rattle.net_case.proofs.batch.Process.TheSendSync as process
use Rattle.tapa_syntax.proofs.program.Expr.TheLaws.TheKnot as expr_knot
use Rattle.tapa_syntax.proofs.program.Stmt.TheLaws.TheKnot as stmt_knot
use Rattle.net_core.specs.contracts.input.Input as Input

expr_send : IsSend Expr.the_field.row
expr_send = search (expr_knot.crosses, sendable, crosses) depth 60

expr_sync : IsSync Expr.the_field.row
expr_sync = search (expr_knot.crosses, sendable, crosses) depth 60

stmt_send : IsSend Stmt.the_field.row
stmt_send = search (stmt_knot.crosses, expr_send, sendable, crosses) depth 60

stmt_sync : IsSync Stmt.the_field.row
stmt_sync = search (stmt_knot.crosses, expr_sync, sendable, crosses) depth 60

leaf_send : IsSend Leaf.the_row
leaf_send = search (stmt_send, sendable, crosses) depth 60

leaf_sync : IsSync Leaf.the_row
leaf_sync = search (stmt_sync, sendable, crosses) depth 60

text_send : IsSend Text.the_row
text_send = search (sendable, crosses) depth 60

text_sync : IsSync Text.the_row
text_sync = search (sendable, crosses) depth 60

scalar_send : IsSend Scalar.the_row
scalar_send = search (text_send, sendable, crosses) depth 60

scalar_sync : IsSync Scalar.the_row
scalar_sync = search (text_sync, sendable, crosses) depth 60

memory_send : IsSend Memory.the_row
memory_send = search (text_send, sendable, crosses) depth 60

memory_sync : IsSync Memory.the_row
memory_sync = search (text_sync, sendable, crosses) depth 60

stream_send : IsSend Stream.the_row
stream_send = search (text_send, sendable, crosses) depth 60

stream_sync : IsSync Stream.the_row
stream_sync = search (text_sync, sendable, crosses) depth 60

bound_send : IsSend Bound.the_row
bound_send = search (sendable, crosses) depth 60

bound_sync : IsSync Bound.the_row
bound_sync = search (sendable, crosses) depth 60

instance_send : IsSend Instance.the_row
instance_send = search (text_send, bound_send, sendable, crosses) depth 60

instance_sync : IsSync Instance.the_row
instance_sync = search (text_sync, bound_sync, sendable, crosses) depth 60

program_send : IsSend Program.the_row
program_send = search (text_send, scalar_send, memory_send, leaf_send, instance_send, stream_send, sendable, crosses) depth 60 fits 20000

program_sync : IsSync Program.the_row
program_sync = search (text_sync, scalar_sync, memory_sync, leaf_sync, instance_sync, stream_sync, sendable, crosses) depth 60 fits 20000

input_send : IsSend Input.the_row
input_send = search (sendable, crosses) depth 60

input_sync : IsSync Input.the_row
input_sync = search (sendable, crosses) depth 60

port_send : IsSend Port.the_row
port_send = search (sendable, crosses) depth 60

ports_send : IsSend Ports.the_row
ports_send = search (port_send, sendable, crosses) depth 60

queue_send : IsSend Queue.the_row
queue_send = search (sendable, crosses) depth 60

pause_send : IsSend Pause.the_row
pause_send = search (sendable, crosses) depth 30

module _ (B : RattleType) (g : Ghosts B.Denot) (s : IsSend B) where
  process_send : IsSend (Process.the_row B)
  process_send = process.the_send B s

  fields_send : AllSend (shape (inside.the_type B g)).fields
  fields_send = (
    search (program_send, program_sync, sendable, crosses) depth 30,
    (
      search (input_send, input_sync, sendable, crosses) depth 30,
      (
        search (sendable, crosses) depth 30,
        (
          search (process_send, sendable, crosses) depth 30,
          (
            search (queue_send, sendable, crosses) depth 30,
            (
              search (sendable, crosses) depth 30,
              (
                search (sendable, crosses) depth 30,
                (
                  search (sendable, crosses) depth 30,
                  (
                    search (pause_send, sendable, crosses) depth 30,
                    (
                      search (sendable, crosses) depth 30,
                      (
                        search (sendable, crosses) depth 30,
                        (
                          search (sendable, crosses) depth 30,
                          (
                            search (sendable, crosses) depth 30,
                            (
                              search (sendable, crosses) depth 30,
                              (
                                search (sendable, crosses) depth 30,
                                (
                                  search (s, sendable, crosses) depth 30,
                                  (search (ports_send, sendable, crosses) depth 30, tt),
                                ),
                              ),
                            ),
                          ),
                        ),
                      ),
                    ),
                  ),
                ),
              ),
            ),
          ),
        ),
      ),
    ),
  )

  -- a case without what its value leaves out
  parts_send : IsSend (inside.the_row B g)
  parts_send = recorded_send (inside.the_field B g).row _ _ (inside.the_type B g).to_one (struct_send (shape (inside.the_type B g)) fields_send)

  case_send : IsSend (Case.the_row B g)
  case_send = search (parts_send, sendable) depth 30

  slot_send : IsSend (Opt.the_row (Case.the_row B g))
  slot_send = search (case_send, sendable, crosses) depth 30

  seat_fields_send : IsSend (BoardSeat.the_field B g).row
  seat_fields_send = search (slot_send, table_seat.the_send, sendable) depth 30

  pub worker_send : IsSend (Worker.the_row B g)
  worker_send = recorded_send (Worker.the_field B g).row _ _ (Worker.the_type B g).to_one (struct_send (shape (Worker.the_type B g)) (seat_fields_send, (search sendable, (search sendable, tt))))

  pub board_sync : IsSync (Board.the_row B g)
  board_sync = recorded_sync (Board.the_field B g).row _ _ (Board.the_type B g).to_one (struct_sync (shape (Board.the_type B g)) (search (whole.the_field_sync, slot_send, sendable, crosses) depth 30, (search (sendable, crosses) depth 30, (search sendable, tt))))
