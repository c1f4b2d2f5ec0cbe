use Rattle.std.proofs.Common.{◌++◌, false, map, ap, ◌∙◌, sym}
use Rattle.std.proofs.lemmas.Result.{err_from_is_err_and}
use Rattle.tapa_syntax.specs.Trees as tree
use Rattle.check_leaf.specs.Heads.{head_of}
use Rattle.check_leaf.specs.Leaves as leaf
use Rattle.check_leaf.specs.Statements.{codes_of, statements_faults}
use Rattle.check_leaf.proofs.Order.{fails, then_fails, same}
use Rattle.check_leaf.proofs.leaf.check_leaf.Goals as goal

pub returns-in_err-statements : goal.returns-in_err-statements
returns-in_err-statements c =
    let p = err_from_is_err_and c.from_residual-in_err-statements.result c.from_residual-in_err-statements.ensures.1 in
    let e = c.in_err-statements.field-0.0 in
    let file = c.args.file.now in
    let ps = c.args.task.now.parameters.items in
    let ss = tree.statements (map tree.statement c.args.statements.now) in
    let begun = c.in_ok-head.ensures.1 in
    let read = c.deref.ensures.value in
    let before = leaf.parameters_faults (leaf.task_begins file) ps in
    let none = ap (λ h. leaf.parameters_faults h ps) (sym begun) ∙ ap (leaf.parameters_faults (head_of c.in_ok-head.head)) (sym read) ∙ c.in_ok-parameters.ensures.0 in
    let made = c.in_ok-parameters.ensures.1 ∙ ap (leaf.after_parameters (head_of c.in_ok-head.head)) read ∙ ap (λ h. leaf.after_parameters h ps) begun in
    let size = leaf.size_faults (codes_of (leaf.after_parameters (leaf.task_begins file) ps).frame ss) c.args.task.now.end in
    let there = statements_faults false c.parameters.new.self.frame ss in
    let meant = leaf.leaf_of file (tree.task_of c.args.task.now) ss in
    let h = then_fails e before there _ meant none c.in_err-statements.ensures in
    let k = fails e (before ++ there) size meant meant h in
    rw (p.1, p.2) (same e ((before ++ there) ++ size) _ meant meant (ap (λ (g : leaf.Head). (before ++ statements_faults false g.frame ss) ++ size) made) k)
