use Rattle.std.proofs.Common.{◌∙◌, ap, List, map, refl}
use Rattle.std.specs.Prelude.{is_some}
use Rattle.vlog_tree.specs.declared.table.Declaration.{Declaration}
use Rattle.vlog_tree.specs.Table.{declaration_name}
use Rattle.vlog_scope.specs.NameTable.{places_from}
use Rattle.vlog_scope.proofs.Found.{known_module}
use Rattle.vlog_scope.proofs.library.Library.is_module.Goals as goal

pub returns : goal.returns
returns c =
    c.is_some.ensures ∙ ap (λ o. is_some o) (c.place.ensures ∙ ap (λ (ds : List Declaration). places_from 0 (map declaration_name ds) c.args.name.now) c.names.ensures)
    ∙ known_module c.args.self.now c.args.name.now _ refl
