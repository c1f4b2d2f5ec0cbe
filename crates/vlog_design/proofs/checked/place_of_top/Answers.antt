use Rattle.std.proofs.Common.{◌≡◌, ◌∷◌, subst, List, Some}
use Rattle.std.specs.Prelude.{slice_get}
use Rattle.vlog_tree.specs.Form.{ModuleTree}
use Rattle.vlog_scope.specs.NameTable.{CountsTo}
use Rattle.vlog_tree.specs.Table.{times_in}
use Rattle.vlog_tree.specs.V6.{contained_names, roots_among}
use Rattle.vlog_design.proofs.Rooted.{one_root}
use Rattle.vlog_design.proofs.checked.place_of_top.Goals as goal

pub returns-clause-design : goal.returns-clause-design
returns-clause-design c =
    let ms = c.args.library.now in
    let place = c.root_place.result in
    let counts = subst (λ (l : List ModuleTree). CountsTo c.in_ok-counts.counts (times_in (contained_names l))) c.modules-modules.ensures.value c.in_ok-counts.ensures in
    let found = subst (λ (l : List ModuleTree). (m : ModuleTree) (rest : List ModuleTree) → roots_among (contained_names ms) l ≡ m ∷ rest → slice_get l place ≡ Some m) c.modules-modules.ensures.value
    (c.root_place.ensures (contained_names ms) counts) in
    let loopless = c.in_ok-check_loops.ensures.loopless in
    let outside = c.in_ok-check_outside.ensures.outside in
    record { form = c.modules-modules.ensures.form; sound = c.requires.sound; loopless = loopless; outside = outside; one_top = one_root ms loopless outside place found c.requires.some }
