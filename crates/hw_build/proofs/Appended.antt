-- Fitting elements in parts, for lists of elements that grow with what they are made of.
use Rattle.std.proofs.Common.{◌≡◌, true, List, [], ◌∷◌, ◌++◌, refl}
use Rattle.vlog_tree.specs.declared.table.Declaration.{Declaration}
use Rattle.vlog_tree.specs.Form.{ModuleTree}
use Rattle.hw_build.specs.Elements.{Element}
use Rattle.hw_build.specs.Fitting.{declarations, table_after, has_fitting_names, have_fitting_names, HaveFittingWidths}
use Rattle.tapa_base.proofs.Tests.{both_true}
use Rattle.std.proofs.lemmas.Bool.{and_from as yes_and}

pub table_append : (xs ys : List Element) (t : List Declaration) → table_after t (xs ++ ys) ≡ table_after (table_after t xs) ys
table_append [] ys t = refl
table_append (e ∷ xs) ys t = table_append xs ys (declarations e ++ t)

-- elements whose names fit, and then more of them
pub names_together : (ms : List ModuleTree) (xs ys : List Element) (t : List Declaration) → have_fitting_names ms t xs ≡ true → have_fitting_names ms (table_after t xs) ys ≡ true → have_fitting_names ms t (xs ++ ys) ≡ true
names_together ms [] ys t h k = k
names_together ms (e ∷ xs) ys t h k =
    let p = both_true (has_fitting_names ms t e) (have_fitting_names ms (declarations e ++ t) xs) h in
    yes_and (has_fitting_names ms t e) (have_fitting_names ms (declarations e ++ t) (xs ++ ys)) p.0 (names_together ms xs ys (declarations e ++ t) p.1 k)

-- and so for their widths
pub widths_together : (ms : List ModuleTree) (xs ys : List Element) (t : List Declaration) → HaveFittingWidths ms t xs → HaveFittingWidths ms (table_after t xs) ys → HaveFittingWidths ms t (xs ++ ys)
widths_together ms [] ys t h k = k
widths_together ms (e ∷ xs) ys t h k = (h.0, widths_together ms xs ys (declarations e ++ t) h.1 k)
