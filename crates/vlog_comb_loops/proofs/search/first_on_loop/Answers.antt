use Rattle.std.proofs.Common.{◌+◌, sym, ap, subst, List, drop, Option, Some, None}
use Rattle.std.specs.Option.{option_copied}
use Rattle.vlog_tree.specs.Form.{ModuleTree}
use Rattle.vlog_tree.specs.Table.{Name}
use Rattle.vlog_tree.specs.Loops.{LiesOnLoop, own_places, text_places}
use Rattle.vlog_tree.proofs.Walks.{opened, over}
use Rattle.vlog_comb_loops.specs.Search.{IsSearched}
use Rattle.vlog_comb_loops.specs.Summaries.{is_named}
use Rattle.vlog_comb_loops.proofs.Searching.{goes_over, stays_first}
use Rattle.vlog_comb_loops.proofs.search.first_on_loop.Goals as goal

pub returns-in-Some : goal.returns-in-Some
returns-in-Some c =
    let is_top = is_named (option_copied c.args.root) in
    let P = LiesOnLoop c.args.library.now is_top in
    let m = c.index-modules-at.result in
    let x = c.in-Some.x.now in
    let here = subst (λ (n : Option Name). IsSearched P (own_places m) n) (ap option_copied c.in-Some.is) (c.in_ok-x.ensures is_top c.in_ok-loops.ensures) in
    c.loop-at.invariant (Some x)
    (subst (λ (l : List ModuleTree). IsSearched P (text_places l) (Some x)) (sym (opened c.modules-modules.result.now c.loop-at.at m c.loop-at-test.true c.index-modules-at.is))
    (stays_first P (own_places m) (text_places (drop (c.loop-at.at + 1) c.modules-modules.result.now)) x here))

pub loop-at-preserved : goal.loop-at-preserved
loop-at-preserved c = λ o r.
    let is_top = is_named (option_copied c.args.root) in
    let P = LiesOnLoop c.args.library.now is_top in
    let m = c.index-modules-at.result in
    let none = subst (λ (n : Option Name). IsSearched P (own_places m) n) (ap option_copied c.in_default.is) (c.in_ok-x.ensures is_top c.in_ok-loops.ensures) in
    c.loop-at.invariant o
    (subst (λ (l : List ModuleTree). IsSearched P (text_places l) o) (sym (opened c.modules-modules.result.now c.loop-at.at m c.loop-at-test.true c.index-modules-at.is))
    (goes_over P (own_places m) (text_places (drop (c.loop-at.at + 1) c.modules-modules.result.now)) o none r))

pub returns : goal.returns
returns c =
    let P = LiesOnLoop c.args.library.now (is_named (option_copied c.args.root)) in
    c.loop-at.invariant None
    (subst (λ (l : List ModuleTree). IsSearched P (text_places l) None) (sym (over c.modules-modules.result.now c.loop-at.at c.loop-at-test.false)) (λ s h. absurd h))
