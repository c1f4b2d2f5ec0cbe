use Rattle.std.proofs.Common.{refl, arith}
use Rattle.net_case.proofs.Rooms.{kept_none}
use Rattle.net_case.proofs.run.make_rooms.Goals as goal

pub loop-p-init : goal.loop-p-init
loop-p-init c = record { kept = kept_none c.args.ports.now; count = refl; whole = λ p l w. absurd (omega arith) }
