use Rattle.vlog_ref_start.proofs.FoundNets.{each_found}
use Rattle.vlog_ref_start.proofs.cycle_laws.law_each_net_is_found.Goals as goal

pub returns : goal.returns
returns c = λ ms top m env nets now d at fits r is whole. each_found ms top m d at env fits nets r now is whole
