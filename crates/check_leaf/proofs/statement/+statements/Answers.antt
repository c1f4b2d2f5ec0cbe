use Rattle.check_scope.specs.declared.fault.Broken.{Broken}
use Rattle.std.proofs.Common.{◌≡◌, List, ◌<◌, ◌++◌, [], true, false, length, map, ap, ◌∙◌, sym, subst}
use Rattle.std.proofs.lemmas.Result.{err_from_is_err_and}
use Rattle.tapa_syntax.specs.Flat as flat
use Rattle.tapa_syntax.specs.Flat.{flat_expression, flat_statement}
use Rattle.tapa_syntax.specs.Trees.{StatementTree}
use Rattle.check_expression.specs.Expressions.{faults_of}
use Rattle.tapa_syntax.specs.Trees as tree
use Rattle.check_leaf.specs.Statements as task
use Rattle.check_leaf.specs.Statements.{Frame, opened}
use Rattle.check_leaf.specs.Views.{Adds, Part}
use Rattle.check_leaf.proofs.Blocks.{opened_within, after_within, all_within, same_within, closed_is, as_deep, for_ends}
use Rattle.check_leaf.proofs.Order.{fails, fails_stated, then_fails, same}
use Rattle.check_leaf.proofs.Rows.{statement-Block}
use Rattle.check_leaf.proofs.Pushed.{parts}
use Rattle.check_leaf.proofs.statement.+statements.Goals as goal

pub block-leave-requires : goal.block-leave-requires
block-leave-requires t c =
    let f = c.args.frame.now in
    let ss = tree.statements (map tree.statement c.args.inner.now) in
    let e = c.in_ok-enter.ensures.value.1 in
    let k = ap (λ (p : Part). p.0) c.in_ok-statements.ensures.1 ∙ ap (λ g. task.after_all g ss) e in
    subst (λ (g : Frame). 2 < length g.scope) (sym k)
    (as_deep 2 f.scope (opened f) (task.after_all (opened f) ss) (opened_within f) (all_within f.scope (opened f) ss (opened_within f)) (subst (λ (g : Frame). 2 < length g.scope) e c.in_ok-enter.ensures.deep))

pub block-returns : goal.block-returns
block-returns t c =
    let f = c.args.frame.now in
    let ss = tree.statements (map tree.statement c.args.inner.now) in
    let e = c.in_ok-enter.ensures.value.1 in
    let k = ap (λ (p : Part). p.0) c.in_ok-statements.ensures.1 ∙ ap (λ g. task.after_all g ss) e in
    let w = same_within f.scope _ _ k (all_within f.scope (opened f) ss (opened_within f)) in
    let h = closed_is f c.statements.new.frame c.leave.new.self w c.leave.ensures ∙ ap (task.closed f) k in (
      ap (λ g. task.statements_faults c.args.in_loop g ss) (sym e) ∙ c.in_ok-statements.ensures.0,
      parts _ _ _ _ h (ap (λ (p : Part). p.1) c.in_ok-statements.ensures.1 ∙ ap (λ g. map flat_statement c.args.code.now.items ++ task.codes_of g ss) e),
    )

pub body-leave-requires : goal.body-leave-requires
body-leave-requires t c =
    let f = c.args.frame.now in
    let s = tree.statement c.args.inner.now in
    let e = c.in_ok-enter.ensures.value.1 in
    let k = ap (λ (p : Part). p.0) c.in_ok-statement.ensures.1 ∙ ap (λ g. task.after g s) e in
    subst (λ (g : Frame). 2 < length g.scope) (sym k)
    (as_deep 2 f.scope (opened f) (task.after (opened f) s) (opened_within f) (after_within f.scope (opened f) s (opened_within f)) (subst (λ (g : Frame). 2 < length g.scope) e c.in_ok-enter.ensures.deep))

pub body-returns : goal.body-returns
body-returns t c =
    let f = c.args.frame.now in
    let s = tree.statement c.args.inner.now in
    let e = c.in_ok-enter.ensures.value.1 in
    let k = ap (λ (p : Part). p.0) c.in_ok-statement.ensures.1 ∙ ap (λ g. task.after g s) e in
    let w = same_within f.scope _ _ k (after_within f.scope (opened f) s (opened_within f)) in
    let h = closed_is f c.statement.new.frame c.leave.new.self w c.leave.ensures ∙ ap (task.closed f) k in (
      ap (λ g. task.statement_faults c.args.in_loop g s) (sym e) ∙ c.in_ok-statement.ensures.0,
      parts _ _ _ _ h (ap (λ (p : Part). p.1) c.in_ok-statement.ensures.1 ∙ ap (λ xs. map flat_statement xs ++ task.code_of c.enter.new.self s) c.new-code.ensures.items ∙ ap (λ g. task.code_of g s) e),
    )

pub statement-returns-in_err-test-in-If : goal.statement-returns-in_err-test-in-If
statement-returns-in_err-test-in-If t c =
    let p = err_from_is_err_and c.from_residual.result c.from_residual.ensures.1 in
    let f = c.args.frame.now in
    let e = c.in_err-test-in-If.field-0.0 in
    let h = fails e (faults_of f.scope false (tree.expression c.in-If.condition)) (task.statement_faults c.args.in_loop (opened f) (tree.statement c.in-If.inner.value)) _ (flat.read 0) c.in_err-test-in-If.ensures in
    rw (p.1, p.2) (same e _ _ (flat.read 0) _ (ap (λ s. task.statement_faults c.args.in_loop f (tree.statement s)) (sym c.in-If.is)) h)

pub statement-returns-in_err-test-in-IfElse : goal.statement-returns-in_err-test-in-IfElse
statement-returns-in_err-test-in-IfElse t c =
    let p = err_from_is_err_and c.from_residual-in_err-test-in-IfElse.result c.from_residual-in_err-test-in-IfElse.ensures.1 in
    let f = c.args.frame.now in
    let e = c.in_err-test-in-IfElse.field-0.0 in
    let one = tree.statement c.in-IfElse.first.value in
    let two = tree.statement c.in-IfElse.second.value in
    let h = fails e (faults_of f.scope false (tree.expression c.in-IfElse.condition))
    (task.statement_faults c.args.in_loop (opened f) one ++ task.statement_faults c.args.in_loop (opened (task.closed f (task.after (opened f) one))) two) _ (flat.read 0) c.in_err-test-in-IfElse.ensures in
    rw (p.1, p.2) (same e _ _ (flat.read 0) _ (ap (λ s. task.statement_faults c.args.in_loop f (tree.statement s)) (sym c.in-IfElse.is)) h)

pub statement-returns-in_err-step-in-IfElse : goal.statement-returns-in_err-step-in-IfElse
statement-returns-in_err-step-in-IfElse t c =
    let p = err_from_is_err_and c.from_residual-in_err-step-in-IfElse.result c.from_residual-in_err-step-in-IfElse.ensures.1 in
    let f = c.args.frame.now in
    let e = c.in_err-step-in-IfElse.field-0.0 in
    let test = faults_of f.scope false (tree.expression c.in-IfElse.condition) in
    let one = task.statement_faults c.args.in_loop (opened f) in
    let two : StatementTree → List Broken = λ s. task.statement_faults c.args.in_loop (opened (task.closed f (task.after (opened f) s))) (tree.statement c.in-IfElse.second.value) in
    let s = tree.statement c.deref-in-IfElse.result.now in
    let h = fails e (one s) (two s) _ (flat.read 0) c.in_err-step-in-IfElse.ensures in
    let k = then_fails e test (one s ++ two s) (flat.read 0) (flat.read 0) c.in_ok-test-in-IfElse.ensures.0 h in
    let q = ap (λ x. test ++ (one (tree.statement x) ++ two (tree.statement x))) c.deref-in-IfElse.ensures ∙ ap (λ x. task.statement_faults c.args.in_loop f (tree.statement x)) (sym c.in-IfElse.is) in
    rw (p.1, p.2) (same e _ _ (flat.read 0) _ q k)

pub statement-returns-in_err-test-in-While : goal.statement-returns-in_err-test-in-While
statement-returns-in_err-test-in-While t c =
    let p = err_from_is_err_and c.from_residual-in_err-test-in-While.result c.from_residual-in_err-test-in-While.ensures.1 in
    let f = c.args.frame.now in
    let e = c.in_err-test-in-While.field-0.0 in
    let h = fails e (faults_of f.scope false (tree.expression c.in-While.condition)) (task.statement_faults true (opened f) (tree.statement c.in-While.inner.value)) _ (flat.read 0) c.in_err-test-in-While.ensures in
    rw (p.1, p.2) (same e _ _ (flat.read 0) _ (ap (λ s. task.statement_faults c.args.in_loop f (tree.statement s)) (sym c.in-While.is)) h)

pub statement-returns-in_err-turn-in-For : goal.statement-returns-in_err-turn-in-For
statement-returns-in_err-turn-in-For t c =
    let p = err_from_is_err_and c.from_residual-in_err-turn-in-For.result c.from_residual-in_err-turn-in-For.ensures.1 in
    let f = c.args.frame.now in
    let e = c.in_err-turn-in-For.field-0.0 in
    let s = tree.statement c.in-For.inner.value in
    let hd = tree.head_of c.deref-in-For.result.now in
    let h = fails e (task.head_faults f hd) (task.statement_faults true (opened (task.in_head f hd)) s) _ (flat.read 0) c.in_err-turn-in-For.ensures.value in
    let q = ap (λ x. task.statement_faults c.args.in_loop f (tree.for (tree.head_of x) s)) c.deref-in-For.ensures ∙ ap (λ x. task.statement_faults c.args.in_loop f (tree.statement x)) (sym c.in-For.is) in
    rw (p.1, p.2) (same e _ _ (flat.read 0) _ q h)

pub statement-returns-in-Block : goal.statement-returns-in-Block
statement-returns-in-Block t c =
    let f = c.args.frame.now in
    let e = ap tree.statement c.in-Block.is ∙ statement-Block c.in-Block.inner in
    let h = subst (λ xs. Adds c.block.result c.block.new.frame c.args.code.now.items c.block.new.code.items
    (task.statements_faults c.args.in_loop (opened f) (tree.statements (map tree.statement xs)))
    (task.closed f (task.after_all (opened f) (tree.statements (map tree.statement xs)))) (task.codes_of (opened f) (tree.statements (map tree.statement xs)))) c.deref-in-Block.ensures.value c.block.ensures in
    subst (λ (s : StatementTree). Adds c.block.result c.block.new.frame c.args.code.now.items c.block.new.code.items (task.statement_faults c.args.in_loop f s) (task.after f s) (task.code_of f s)) (sym e) h

pub statement-returns-in_ok-counted-in-For : goal.statement-returns-in_ok-counted-in-For
statement-returns-in_ok-counted-in-For t c =
    let f = c.args.frame.now in
    let hd = c.deref-in-For.result.now in
    let s = c.deref-in-For-2.result.now in
    let r = for_ends c.args.in_loop f c.head.new.frame c.counted-in-For.new.frame c.leave.new.self (tree.head_of hd) (tree.statement s) (map flat_statement c.args.code.now.items) (map flat_statement c.head.new.code.items) (map flat_statement c.counted-in-For.new.code.items) (flat_expression c.in_ok-turn-in-For.turn.test) (map flat_statement c.in_ok-turn-in-For.turn.step.items)
    c.in_ok-turn-in-For.ensures.value.0 c.in_ok-turn-in-For.ensures.value.1 c.in_ok-counted-in-For.ensures.0 c.in_ok-counted-in-For.ensures.1 c.leave.ensures in
    let e = ap tree.statement c.in-For.is ∙ ap (λ x. tree.for (tree.head_of x) (tree.statement c.in-For.inner.value)) (sym c.deref-in-For.ensures) ∙ ap (λ x. tree.for (tree.head_of hd) (tree.statement x)) (sym c.deref-in-For-2.ensures) in
    subst (λ (x : StatementTree). (task.statement_faults c.args.in_loop f x ≡ []) × ◌≡◌ {A = Part} (c.leave.new.self, map flat_statement c.counted-in-For.new.code.items) (task.after f x, map flat_statement c.args.code.now.items ++ task.code_of f x)) (sym e) r

pub statements-returns-in_err-statement : goal.statements-returns-in_err-statement
statements-returns-in_err-statement t c =
    let p = err_from_is_err_and c.from_residual.result c.from_residual.ensures.1 in
    let e = c.in_err-statement.field-0.0 in
    let h = fails_stated c.args.in_loop c.loop-stated.frame c.args.inner.now c.loop-stated.stated-index c.stated-item.result e _ (flat.read 0) c.loop-stated-test.true c.stated-item.is c.in_err-statement.ensures in
    rw (p.1, p.2) (same e _ _ (flat.read 0) _ (sym c.loop-stated.invariant.faults) h)
