use Rattle.std.proofs.Common.{◌∙◌, List, map, ap}
use Rattle.vlog_tree.specs.declared.table.Declaration.{Declaration}
use Rattle.vlog_tree.specs.declared.tree.Item.{Item}
use Rattle.sim_flat.specs.declared.tables.Source.{Source}
use Rattle.sim_flat.specs.Written.{written, first_source, lines_writes, lines_children}
use Rattle.sim_flat.proofs.Tabled.{table_is}
use Rattle.sim_flat.proofs.tables.table_of.Goals as goal

pub returns : goal.returns
returns c = λ ms a sound has.
    let s = c.args.scopes.now in
    let scope = c.in_ok-scope.ensures.value in
    let items = c.items.ensures.value in
    let e = c.in_ok-add_lines.ensures in
    table_is ms sound c.args.m.now has s a _ scope
    (e.sources ∙ ap (λ (l : List Source). written (lines_writes s c.in_ok-scope.scope 0 0 c.items.result.now) l) c.in_ok-sources.ensures
    ∙ ap (λ (l : List Item). written (lines_writes s c.in_ok-scope.scope 0 0 l) (map first_source c.in_ok-scope.scope)) items
    ∙ ap (λ (l : List Declaration). written (lines_writes s l 0 0 c.args.m.now.items) (map first_source l)) scope)
    (e.rows ∙ ap (λ (l : List Item). lines_children s c.in_ok-scope.scope 0 l) items ∙ ap (λ (l : List Declaration). lines_children s l 0 c.args.m.now.items) scope)
