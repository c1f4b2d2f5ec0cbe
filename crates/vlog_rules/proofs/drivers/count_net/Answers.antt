use Rattle.std.proofs.Common.{◌≡◌, ◌<◌, ◌+◌, ◌∷◌, ◌++◌, [], ℕ, suc, List, Some, min, length, get_or, drop, map, refl, sym, ap, subst, ◌∙◌, arith}
use Rattle.std.specs.Prelude.{is_some}
use Rattle.vlog_tree.specs.Table.{Name, declaration_name, times_in}
use Rattle.vlog_scope.specs.NameTable.{places_from}
use Rattle.vlog_rules.specs.Drives.{CountsPlaces}
use Rattle.vlog_rules.proofs.Counting.{undeclared, counted_more}
use Rattle.vlog_rules.proofs.drivers.count_net.Goals as goal

pub returns-in-Some : goal.returns-in-Some
returns-in-Some c = λ names t.
    let ds = c.args.scope.now in
    let counts = c.args.counts.now.items in
    let x = c.args.name.now in
    let p = c.in-Some.place in
    let at : places_from 0 (map declaration_name ds) x ≡ Some (p, is_some (places_from (suc p) (map declaration_name (drop (suc p) ds)) x)) =
    subst (λ (y : Name). places_from 0 (map declaration_name ds) y ≡ Some (p, is_some (places_from (suc p) (map declaration_name (drop (suc p) ds)) y))) c.bytes.ensures.value c.in-Some.ensures.found in
    let low : p < length counts = (let w = c.in-Some.ensures.within in let e = t.len in omega arith) in
    subst (λ (l : List ℕ). CountsPlaces ds l (times_in (names ++ x ∷ []))) (sym c.count_place.ensures) (counted_more ds counts x p _ (min (get_or counts p 0 + 1) 2) at low refl names t)

pub returns-in-None : goal.returns-in-None
returns-in-None c = λ names t. undeclared c.args.scope.now c.args.counts.now.items names c.args.name.now (ap (λ (y : Name). places_from 0 (map declaration_name c.args.scope.now) y) (sym c.bytes.ensures.value) ∙ c.in-None.ensures.none refl) t
