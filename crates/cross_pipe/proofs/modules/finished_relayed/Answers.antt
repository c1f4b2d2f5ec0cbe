use Rattle.std.proofs.Common.{sym, subst, arith}
use Rattle.vlog_tree.specs.Form.{IsModule}
use Rattle.hw_channel_laws.proofs.modules.Forms.{relayed_form}
use Rattle.cross_pipe.proofs.modules.finished_relayed.Goals as goal

pub module-requires : goal.module-requires
module-requires c = subst IsModule (sym c.requires.is) (relayed_form c.args.bits c.args.depth c.args.latency c.requires.bits (omega arith) c.requires.depth c.requires.latency)
