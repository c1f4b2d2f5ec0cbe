use Rattle.std.proofs.Common.{sym, subst, arith}
use Rattle.vlog_tree.specs.Form.{IsModule}
use Rattle.hw_channel_laws.proofs.modules.Forms.{fifo_form}
use Rattle.cross_pipe.proofs.module.finished.Goals as goal

pub module-requires : goal.module-requires
module-requires c = subst IsModule (sym c.requires.is) (fifo_form c.args.bits c.args.depth c.args.places c.requires.bits (omega arith) (omega arith) (omega arith) c.requires.places)
