use Rattle.std.proofs.Common.{◌<◌, sym, subst, ◌∙◌}
use Rattle.tapa_base.specs.Lists.{Has}
use Rattle.number_graph.proofs.Rows.{rows_len, row_at}
use Rattle.number_graph.proofs.graph.Graph.of.Goals as goal

pub invariant_of-result : goal.invariant_of-result
invariant_of-result c = λ j k s.
    let rows = c.in_ok-rows.rows.items in
    subst (λ n. k < n) (sym (rows_len rows ∙ c.in_ok-rows.ensures.len)) ((c.requires j k ((c.in_ok-rows.ensures.edges j k).0 (subst (λ l. Has l k) (row_at rows j) s))).1)

pub returns-clause-len : goal.returns-clause-len
returns-clause-len c = rows_len c.in_ok-rows.rows.items ∙ c.in_ok-rows.ensures.len

pub returns-clause-edges : goal.returns-clause-edges
returns-clause-edges c = λ j k.
    let rows = c.in_ok-rows.rows.items in (
      λ s. (c.in_ok-rows.ensures.edges j k).0 (subst (λ l. Has l k) (row_at rows j) s),
      λ h. subst (λ l. Has l k) (sym (row_at rows j)) ((c.in_ok-rows.ensures.edges j k).1 h),
    )
