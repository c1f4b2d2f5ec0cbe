use Rattle.std.proofs.Common.{sym, subst, arith}
use Rattle.vlog_tree.specs.Form.{IsModule}
use Rattle.hw_channel_laws.proofs.modules.Forms.{step_form}
use Rattle.cross_pipe.proofs.relay.finished_step.Goals as goal

pub module-requires : goal.module-requires
module-requires c = subst IsModule (sym c.requires.is) (step_form c.args.bits c.requires.bits (omega arith))
