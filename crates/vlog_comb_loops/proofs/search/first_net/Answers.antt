use Rattle.std.proofs.Common.{◌≡◌, ◌+◌, sym, subst, true, List, map, drop, Some, None}
use Rattle.vlog_tree.specs.declared.table.Declaration.{Declaration}
use Rattle.vlog_tree.specs.Table.{Name}
use Rattle.vlog_tree.specs.Loops.{LiesOnLoop, TextPlace}
use Rattle.vlog_tree.proofs.Walks.{opened, over}
use Rattle.vlog_comb_loops.specs.Search.{IsSearched}
use Rattle.vlog_comb_loops.proofs.Searching.{hits, misses}
use Rattle.vlog_comb_loops.proofs.search.first_net.Goals as goal

abbrev places : Name → List Declaration → List TextPlace
places m ds = map (λ (d : Declaration). (m, Some d.name)) ds

pub returns-then-found : goal.returns-then-found
returns-then-found c = λ is_top ev.
    let d = c.d-item.result in
    let P = LiesOnLoop c.args.library.now is_top in
    c.loop-d.invariant is_top ev (Some d.name)
    (subst (λ (l : List Declaration). IsSearched P (places c.args.owner.now l) (Some d.name)) (sym (opened c.args.names.now c.loop-d.d-index d c.loop-d-test.true c.d-item.is))
    (hits P (c.args.owner.now, Some d.name) (places c.args.owner.now (drop (c.loop-d.d-index + 1) c.args.names.now)) ((c.in_ok-found.ensures is_top ev).0 c.if-found.true)))

pub loop-d-preserved : goal.loop-d-preserved
loop-d-preserved c = λ is_top ev o r.
    let d = c.d-item.result in
    let P = LiesOnLoop c.args.library.now is_top in
    c.loop-d.invariant is_top ev o
    (subst (λ (l : List Declaration). IsSearched P (places c.args.owner.now l) o) (sym (opened c.args.names.now c.loop-d.d-index d c.loop-d-test.true c.d-item.is))
    (misses P (c.args.owner.now, Some d.name) (places c.args.owner.now (drop (c.loop-d.d-index + 1) c.args.names.now)) o
    (λ lies. let yes : c.in_ok-found.found ≡ true = (c.in_ok-found.ensures is_top ev).1 lies in cc (yes, c.if-found.false)) r))

pub returns : goal.returns
returns c = λ is_top ev.
    let P = LiesOnLoop c.args.library.now is_top in
    c.loop-d.invariant is_top ev None
    (subst (λ (l : List Declaration). IsSearched P (places c.args.owner.now l) None) (sym (over c.args.names.now c.loop-d.d-index c.loop-d-test.false)) (λ s h. absurd h))
