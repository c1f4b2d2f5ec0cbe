use Rattle.std.proofs.Common.{refl, ap, sym, ◌∙◌, map}
use Rattle.vlog_tree.specs.Table.{Name, declaration_name}
use Rattle.vlog_scope.specs.NameTable.{places_from}
use Rattle.vlog_scope.proofs.Chaining.{not_none}
use Rattle.vlog_rules.proofs.drivers.drives_of.Goals as goal

pub returns-in-None : goal.returns-in-None
returns-in-None c = λ f t.
    let r = c.requires in
    absurd (not_none c.args.scope.now c.args.name.now r.0 r.1 r.2 (ap (λ (y : Name). places_from 0 (map declaration_name c.args.scope.now) y) (sym c.bytes.ensures.value) ∙ c.in-None.ensures.none refl))
