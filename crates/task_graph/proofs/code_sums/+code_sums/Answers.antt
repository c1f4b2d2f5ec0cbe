use Rattle.std.proofs.Common.{map, ap, ◌∙◌, sym}
use Rattle.tapa_syntax.specs.Flat.{flat_statement, in_row}
use Rattle.tapa_syntax.specs.LeafKinds.{kinds_of}
use Rattle.tapa_syntax.specs.TickPlaces.{capped}
use Rattle.tapa_syntax.proofs.Rows.{flat-If, flat-Loop}
use Rattle.task_graph.specs.Counted.{rates_of}
use Rattle.task_graph.specs.Estimate as estimate
use Rattle.task_graph.proofs.Capped.{code_end}
use Rattle.task_graph.proofs.code_sums.+code_sums.Goals as goal

pub in_statement-returns-in-If : goal.in_statement-returns-in-If
in_statement-returns-in-If t c =
    let R = rates_of c.args.counted in
    let K = kinds_of c.args.leaf.now in
    c.with_test.ensures (estimate.in_statements R K (in_row (map flat_statement c.in-If.left.items))) (estimate.in_statements R K (in_row (map flat_statement c.in-If.right.items)))
    (c.in_code.ensures ∙ ap (λ xs. capped (estimate.in_statements R K (in_row (map flat_statement xs)))) c.deref.ensures.value)
    (c.in_code-in-If.ensures ∙ ap (λ xs. capped (estimate.in_statements R K (in_row (map flat_statement xs)))) c.deref-in-If.ensures.value)
    ∙ ap (λ s. capped (estimate.in_statement R K s)) (sym (flat-If c.in-If.test c.in-If.left c.in-If.right))
    ∙ ap (λ s. capped (estimate.in_statement R K (flat_statement s))) (sym c.in-If.is)

pub in_statement-returns-in-Loop : goal.in_statement-returns-in-Loop
in_statement-returns-in-Loop t c =
    let R = rates_of c.args.counted in
    let K = kinds_of c.args.leaf.now in
    c.with_test-in-Loop.ensures (estimate.in_statements R K (in_row (map flat_statement c.in-Loop.body.items))) (estimate.in_statements R K (in_row (map flat_statement c.in-Loop.step.items)))
    (c.in_code-in-Loop.ensures ∙ ap (λ xs. capped (estimate.in_statements R K (in_row (map flat_statement xs)))) c.deref-in-Loop.ensures.value)
    (c.in_code-in-Loop-2.ensures ∙ ap (λ xs. capped (estimate.in_statements R K (in_row (map flat_statement xs)))) c.deref-in-Loop-2.ensures.value)
    ∙ ap (λ s. capped (estimate.in_statement R K s)) (sym (flat-Loop c.in-Loop.test c.in-Loop.body c.in-Loop.step))
    ∙ ap (λ s. capped (estimate.in_statement R K (flat_statement s))) (sym c.in-Loop.is)

pub in_code-returns : goal.in_code-returns
in_code-returns t c =
    code_end (rates_of c.args.counted) (kinds_of c.args.leaf.now) c.loop-statement.statement-index c.args.code.now c.loop-statement.sum _ c.loop-statement.invariant.0 c.loop-statement.invariant.1 c.loop-statement-test.false
