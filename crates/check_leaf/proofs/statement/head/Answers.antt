use Rattle.std.proofs.Common.{◌<◌, length, ap, ◌∙◌, sym, subst}
use Rattle.tapa_syntax.specs.Trees as tree
use Rattle.check_leaf.specs.Statements.{Frame, opened, after_start}
use Rattle.check_leaf.specs.Views.{Part}
use Rattle.check_leaf.proofs.Blocks.{opened_within, start_within, as_deep}
use Rattle.check_leaf.proofs.statement.head.Goals as goal

pub returns-clause-deep : goal.returns-clause-deep
returns-clause-deep c =
    let f = c.args.frame.now in
    let s = tree.start_of c.args.head.now.start in
    let e = c.in_ok-enter.ensures.value.1 in
    let k = ap (λ (p : Part). p.0) c.in_ok-start.ensures.1 ∙ ap (λ g. after_start g s) e in
    subst (λ (g : Frame). 2 < length g.scope) (sym k)
    (as_deep 2 f.scope (opened f) (after_start (opened f) s) (opened_within f) (start_within f.scope (opened f) s (opened_within f)) (subst (λ (g : Frame). 2 < length g.scope) e c.in_ok-enter.ensures.deep))
