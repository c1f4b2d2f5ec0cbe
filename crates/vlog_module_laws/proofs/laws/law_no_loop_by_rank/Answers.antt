use Rattle.vlog_module_laws.proofs.Ranks.{lower, on_no_loop, loopless}
use Rattle.vlog_module_laws.proofs.laws.law_no_loop_by_rank.Goals as goal

pub returns : goal.returns
returns c = record {
  lower = λ ms is_top m rank f x y r. lower ms is_top r rank f;
  no_loop = λ ms is_top m rank f x r. on_no_loop ms is_top m rank f x r;
  loopless = λ ms is_top h s has l. loopless ms is_top h s l;
}
