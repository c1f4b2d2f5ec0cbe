use Rattle.std.proofs.Common.{sym, subst, arith}
use Rattle.vlog_tree.specs.Form.{IsModule}
use Rattle.hw_channel_laws.proofs.modules.Forms.{plain_form}
use Rattle.cross_pipe.proofs.modules.finished_plain.Goals as goal

pub module-requires : goal.module-requires
module-requires c = subst IsModule (sym c.requires.is) (plain_form c.args.bits c.args.depth c.requires.bits (omega arith) (omega arith))
