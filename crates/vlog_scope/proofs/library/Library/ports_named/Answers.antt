use Rattle.std.proofs.Common.{◌∙◌, sym, ap, subst, get_or, length, ◌<◌, List, map}
use Rattle.vlog_tree.specs.declared.table.Declaration.{Declaration}
use Rattle.vlog_tree.specs.Table.{port_declared, declaration_name}
use Rattle.vlog_scope.specs.NameTable.{places_from}
use Rattle.vlog_scope.proofs.Found.{module_within, ports_there, no_module}
use Rattle.vlog_scope.proofs.library.Library.ports_named.Goals as goal

pub scope_at-requires : goal.scope_at-requires
scope_at-requires c =
    let at = sym (ap (λ (ds : List Declaration). places_from 0 (map declaration_name ds) c.args.name.now) c.names.ensures) ∙ sym c.place.ensures ∙ c.in-Some.is in
    subst (λ (ds : List (List Declaration)). c.in-Some.place < length ds) (sym c.ports-ports.ensures) (module_within c.args.self.now c.args.name.now _ _ at)

pub returns-in-Some : goal.returns-in-Some
returns-in-Some c =
    let at = sym (ap (λ (ds : List Declaration). places_from 0 (map declaration_name ds) c.args.name.now) c.names.ensures) ∙ sym c.place.ensures ∙ c.in-Some.is in
    ports_there c.args.self.now c.args.name.now c.in-Some.place _ c.scope_at.result.now at (c.scope_at.ensures ∙ ap (λ (ds : List (List Declaration)). get_or ds c.in-Some.place c.scope_at.result.now) c.ports-ports.ensures)

pub returns-in-None : goal.returns-in-None
returns-in-None c =
    let at = sym (ap (λ (ds : List Declaration). places_from 0 (map declaration_name ds) c.args.name.now) c.names.ensures) ∙ sym c.place.ensures ∙ c.in-None.is in
    c.no_ports.ensures ∙ sym (ap (λ ports. map port_declared ports) (no_module 0 c.args.self.now c.args.name.now at).here)
