use Rattle.std.proofs.Common.{◌≡◌, ◌∷◌, ◌∙◌, sym, subst, true, List, map, Some, None}
use Rattle.std.specs.Option.{option_copied}
use Rattle.vlog_tree.specs.declared.table.Declaration.{Declaration}
use Rattle.vlog_tree.specs.Table.{Name, declared}
use Rattle.vlog_tree.specs.Loops.{LiesOnLoop, Reaches, containment, TextPlace}
use Rattle.vlog_comb_loops.specs.Search.{IsSearched}
use Rattle.vlog_comb_loops.proofs.Searching.{hits, misses}
use Rattle.vlog_comb_loops.proofs.search.first_of_module.Goals as goal

abbrev places : Name → List Declaration → List TextPlace
places m ds = map (λ (d : Declaration). (m, Some d.name)) ds

pub returns-then-found : goal.returns-then-found
returns-then-found c = λ is_top ev.
    let m = c.args.m.now in
    let P = LiesOnLoop c.args.library.now is_top in
    let lies = subst (λ (x : Name). Reaches (containment c.args.library.now) x x) c.name-name.ensures ((c.in_ok-found.ensures is_top ev).0 c.if-found.true) in
    subst (λ (x : Name). IsSearched P ((m.name, None) ∷ places m.name (declared m)) (Some x)) (sym c.name-name.ensures) (hits P (m.name, None) (places m.name (declared m)) lies)

pub returns : goal.returns
returns c = λ is_top ev.
    let m = c.args.m.now in
    let P = LiesOnLoop c.args.library.now is_top in
    let o = option_copied c.in_ok-net.net in
    let named = subst (λ (x : Name). IsSearched P (places x c.declarations.result.now) o) c.name-name.ensures (c.in_ok-net.ensures is_top ev) in
    let here = subst (λ (ds : List Declaration). IsSearched P (places m.name ds) o) (c.declarations.ensures ∙ c.requires.scope) named in
    misses P (m.name, None) (places m.name (declared m)) o
    (λ lies. let yes : c.in_ok-found.found ≡ true = (c.in_ok-found.ensures is_top ev).1 (subst (λ (x : Name). Reaches (containment c.args.library.now) x x) (sym c.name-name.ensures) lies) in cc (yes, c.if-found.false)) here
