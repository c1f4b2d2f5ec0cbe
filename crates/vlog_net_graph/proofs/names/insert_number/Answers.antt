use Rattle.std.proofs.Common.{◌≡◌, ◌∙◌, ap, rules, cond, Some}
use Rattle.std.specs.Prelude.{bytes_eq}
use Rattle.vlog_scope.specs.NameTable.{value_in}
use Rattle.vlog_scope.proofs.NameTables.{updated}
use Rattle.vlog_net_graph.proofs.names.insert_number.Goals as goal

pub returns : goal.returns
returns c = λ x.
    let same : c.in_ok-key.key.items ≡ c.args.name.now = search rules in
    updated c.in_ok-key.key c.args.numbers.now c.insert.new.self _ c.in_ok-insert.ensures.updates x
    ∙ ap (λ k. cond (bytes_eq k x) (Some c.args.number) (value_in c.args.numbers.now x)) same
