use Rattle.vlog_ref_start.proofs.Known.{next_from}
use Rattle.vlog_ref_start.proofs.cycle_laws.law_next_moment_is_known.Goals as goal

pub returns : goal.returns
returns c = λ design top env nets now d at fits r is whole no_more low. next_from design top d at env fits nets r now is whole no_more low
