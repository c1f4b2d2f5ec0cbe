use Rattle.std.proofs.Common.{sym, subst, arith}
use Rattle.vlog_tree.specs.Form.{IsModule}
use Rattle.hw_channel_laws.proofs.modules.Forms.{odd_form}
use Rattle.cross_pipe.proofs.relay.finished_odd.Goals as goal

pub module-requires : goal.module-requires
module-requires c = subst IsModule (sym c.requires.is) (odd_form c.args.bits c.args.steps c.args.half c.requires.bits (omega arith) (omega arith) (omega arith))
