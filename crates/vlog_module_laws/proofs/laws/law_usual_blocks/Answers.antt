use Rattle.vlog_module_laws.proofs.Forms.{reset_leaves, steady_leaves, set_leaves, write_leaves}
use Rattle.vlog_module_laws.proofs.laws.law_usual_blocks.Goals as goal

pub returns : goal.returns
returns c = record { reset = reset_leaves; steady = steady_leaves; set = set_leaves; write = write_leaves }
