use Rattle.std.proofs.Common.{◌≡◌, ◌∙◌, suc, ◌-◌, ap, sym, subst, arith, map, drop, Some}
use Rattle.std.specs.Prelude.{is_some}
use Rattle.vlog_tree.specs.Table.{declaration_name}
use Rattle.vlog_scope.specs.NameTable.{places_from}
use Rattle.vlog_scope.specs.NamePlaces.{HasPlaces}
use Rattle.vlog_scope.proofs.Found.{within}
use Rattle.vlog_scope.proofs.Chaining.{named_at}
use Rattle.vlog_scope.proofs.OrderedNames.{again_of}
use Rattle.vlog_scope.proofs.places.NamePlaces.first.Goals as goal

pub returns-in-Some-clause-within : goal.returns-in-Some-clause-within
returns-in-Some-clause-within c =
    let at = sym ((subst (HasPlaces c.args.declarations.now) c.in-Ordered.is c.requires) c.args.name.now) ∙ sym c.place_of.ensures ∙ c.in-Some.is in
    within c.args.declarations.now c.args.name.now c.in-Some.place _ at

pub returns-in-Some-clause-named : goal.returns-in-Some-clause-named
returns-in-Some-clause-named c =
    let at = sym ((subst (HasPlaces c.args.declarations.now) c.in-Ordered.is c.requires) c.args.name.now) ∙ sym c.place_of.ensures ∙ c.in-Some.is in
    named_at c.args.declarations.now c.args.name.now c.in-Some.place _ at

pub returns-in-Some-clause-found : goal.returns-in-Some-clause-found
returns-in-Some-clause-found c =
    let ds = c.args.declarations.now in
    let x = c.args.name.now in
    let p = c.in-Some.place in
    let at = sym ((subst (HasPlaces ds) c.in-Ordered.is c.requires) x) ∙ sym c.place_of.ensures ∙ c.in-Some.is in
    let same : suc p - 0 ≡ suc p = omega arith in
    at ∙ ap (λ b. Some (p, b)) (again_of 0 ds x p _ at ∙ ap (λ k. is_some (places_from (suc p) (map declaration_name (drop k ds)) x)) same)
