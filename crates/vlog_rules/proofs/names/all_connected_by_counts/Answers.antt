use Rattle.std.proofs.Common.{◌∙◌, ap, List}
use Rattle.std.specs.Prelude.{bytes_eq, count_by, ◌==◌}
use Rattle.std.specs.List.{list_all}
use Rattle.vlog_tree.specs.declared.table.Declaration.{Declaration}
use Rattle.vlog_tree.specs.declared.tree.Connection.{Connection}
use Rattle.vlog_scope.specs.NameTable.{count_in}
use Rattle.vlog_rules.proofs.Counts.{all_once}
use Rattle.vlog_rules.proofs.names.all_connected_by_counts.Goals as goal

pub returns : goal.returns
returns c =
    c.all_counted_once.ensures ∙ ap (λ (ds : List Declaration). list_all (λ (d : Declaration). count_in c.in_ok-counts.counts d.name == 1) ds) c.declarations.ensures
    ∙ all_once (count_in c.in_ok-counts.counts) (λ x. count_by (λ (l : Connection). bytes_eq l.port x) c.args.connections.now) c.in_ok-counts.ensures c.args.ports.now
