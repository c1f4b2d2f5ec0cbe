use Rattle.vlog_read.proofs.OneFault.{refused_once, of_modules}
use Rattle.vlog_read.proofs.laws.law_one_fault.Goals as goal

pub returns : goal.returns
returns c = record {
  once = λ text e f r s a b. refused_once text (c.law_one_tree.ensures text) e f r s a b;
  taken = λ text d e tree h r. of_modules text d.modules e (λ ns other. c.law_one_tree.ensures text ns d.modules other tree) tree (c.law_design_is_not_refused.ensures d.modules d.top e h) r;
}
