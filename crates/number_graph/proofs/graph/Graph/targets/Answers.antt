use Rattle.std.proofs.Common.{rules, ◌≡◌, [], ℕ, List, get_or, sym, ap, ◌∙◌}
use Rattle.number_graph.specs.Graphs.{targets_of}
use Rattle.number_graph.proofs.Rows.{row_at}
use Rattle.number_graph.proofs.graph.Graph.targets.Goals as goal

pub returns : goal.returns
returns c =
    let e : c.row_at.result.now ≡ targets_of c.self.inside.rows.items c.args.node = search rules in
    e ∙ sym (row_at c.self.inside.rows.items c.args.node) ∙ ap (λ (l : List (List ℕ)). get_or l c.args.node []) c.self.view_is
