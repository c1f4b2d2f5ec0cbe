use Rattle.std.proofs.Common.{rules, ◌≡◌, length, sym, ap, ◌∙◌}
use Rattle.number_graph.proofs.Rows.{rows_len}
use Rattle.number_graph.proofs.graph.Graph.len.Goals as goal

pub returns-clause-len : goal.returns-clause-len
returns-clause-len c = let e : c.len.result ≡ length c.self.inside.rows.items = search rules in e ∙ sym (rows_len c.self.inside.rows.items) ∙ ap length c.self.view_is
