use denote.Param.Send.{sendable}
use Rattle.run_program.proofs.Sending.{coro_send}
use Rattle.layer_tests.proofs.cases.in_rounds.Goals as goal

pub run_rounds-run-requires-send-B : goal.run_rounds-run-requires-send-B
run_rounds-run-requires-send-B g c κs within = search (coro_send, sendable) depth 20
