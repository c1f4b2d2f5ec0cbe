use Rattle.std.proofs.Common.{◌≡◌, ◌∙◌, ap, rules, cond, Some}
use Rattle.std.specs.Prelude.{bytes_eq}
use Rattle.vlog_scope.specs.NameTable.{value_in}
use Rattle.vlog_scope.proofs.NameTables.{updated}
use Rattle.vlog_scope.proofs.name_table.put.Goals as goal

pub returns-clause-before : goal.returns-clause-before
returns-clause-before g c =
    let same : c.in_ok-key.key.items ≡ c.args.name.now = search rules in
    c.in_ok-before.ensures.old ∙ ap (value_in c.args.table.now) same

pub returns-clause-table : goal.returns-clause-table
returns-clause-table g c = λ x.
    let same : c.in_ok-key.key.items ≡ c.args.name.now = search rules in
    updated c.in_ok-key.key c.args.table.now c.insert.new.self _ c.in_ok-before.ensures.updates x
    ∙ ap (λ k. cond (bytes_eq k x) (Some c.args.value) (value_in c.args.table.now x)) same
