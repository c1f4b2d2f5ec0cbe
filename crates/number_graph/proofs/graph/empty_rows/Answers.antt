use Rattle.std.proofs.Common.{rules, ◌≡◌, ◌+◌, length, ap, ◌∙◌}
use Rattle.number_graph.specs.Graphs.{targets_of}
use Rattle.number_graph.proofs.Rows.{row_push}
use Rattle.number_graph.proofs.graph.empty_rows.Goals as goal

pub loop-preserved : goal.loop-preserved
loop-preserved c =
    let n : length c.push.new.self.items ≡ c.loop.counter + 1 = search rules in
    record {
      len = n;
      empty = λ j. ap (λ l. targets_of l j) c.in_ok-push.ensures.items ∙ row_push c.loop.rows.items c.new.result c.new.ensures.items j ∙ c.loop.invariant.empty j;
    }
