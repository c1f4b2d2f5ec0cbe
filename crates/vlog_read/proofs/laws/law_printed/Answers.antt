use Rattle.std.proofs.Common.{List}
use Rattle.vlog_tree.specs.Form.{ModuleTree}
use Rattle.vlog_tree.specs.Spelling.{spelling}
use Rattle.vlog_tree.specs.Refused.{IsDesign}
use Rattle.vlog_lex.specs.Grammar.{HasTree}
use Rattle.vlog_design.specs.Designs.{DesignTree}
use Rattle.vlog_read.proofs.OneTop.{one_design}
use Rattle.vlog_read.proofs.OneFault.{of_modules}
use Rattle.vlog_read.proofs.laws.law_printed.Goals as goal

pub returns : goal.returns
returns c =
    let printed = λ (d : DesignTree) (h : IsDesign d.modules d.top). c.law_design_is_its_text.ensures d.modules d.top h in
    let one = λ (d : DesignTree) (h : IsDesign d.modules d.top) (ns : List ModuleTree) (tree : HasTree (spelling d.modules) ns). c.law_one_tree.ensures (spelling d.modules) ns d.modules tree (printed d h) in
    record {
      same = λ d e h k tree. one_design d e h k (one d h e.modules tree);
      taken = λ d e h r. of_modules (spelling d.modules) d.modules e (one d h) (printed d h) (c.law_design_is_not_refused.ensures d.modules d.top e h) r;
    }
