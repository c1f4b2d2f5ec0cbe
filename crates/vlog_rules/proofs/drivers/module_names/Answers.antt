use Rattle.std.proofs.Common.{◌∙◌, ℕ, Option, List, ap, map, sym, subst}
use Rattle.std.specs.Prelude.{count_by}
use Rattle.vlog_tree.specs.declared.tree.Item.{Item}
use Rattle.vlog_tree.specs.declared.table.Declaration.{Declaration}
use Rattle.vlog_tree.specs.Form.{ModuleTree}
use Rattle.vlog_tree.specs.Table.{Name, first_violation}
use Rattle.vlog_tree.specs.V4.{drives, is_block_of, breaks_driving, driving_use, module_drives}
use Rattle.vlog_rules.specs.Drives.{CountsPlaces}
use Rattle.vlog_rules.proofs.drivers.module_names.Goals as goal

abbrev told : List ModuleTree → List Item → List Item → List Declaration → Option Name
told ms items more ds = first_violation (map (λ (d : Declaration). (d.name, breaks_driving (drives ms items d.name) (count_by (is_block_of d.name) more) d.net_kind)) ds)

pub returns : goal.returns
unfolding module_drives driving_use
returns c =
    let ms = c.args.library.now in
    c.declarations.ensures (drives ms c.items.result.now) (λ x. count_by (is_block_of x) c.items-2.result.now) (subst (λ (l : List ℕ). CountsPlaces c.args.scope.now l (drives ms c.items.result.now)) (sym c.deref.ensures.value) c.in_ok-drives.ensures) c.in_ok-blocks.ensures
    ∙ ap (λ (items : List Item). told ms items c.items-2.result.now c.args.scope.now) c.items.ensures.value
    ∙ ap (λ (items : List Item). told ms c.args.m.now.items items c.args.scope.now) c.items-2.ensures.value
    ∙ ap (λ (ds : List Declaration). told ms c.args.m.now.items c.args.m.now.items ds) c.requires
