use Rattle.std.proofs.Common.{arith, ◌≡◌, ◌++◌, ℕ, length, ap, subst, ◌∙◌}
use Rattle.tapa_base.specs.Lists.{Has, Chain}
use Rattle.number_graph.specs.Graphs.{Steps}
use Rattle.number_graph.specs.Marks.{unset}
use Rattle.tapa_base.proofs.Lists.{has_split}
use Rattle.number_graph.proofs.Marking.{none_set, complete, reached_all, kept}
use Rattle.number_graph.proofs.reach.reach.Goals as goal

pub close-requires-clause-count : goal.close-requires-clause-count
close-requires-clause-count c =
    let marks = c.args.marks.now.items in
    let g = c.in_ok-mark_targets.ensures.grows in
    let all : unset marks ≡ length marks = none_set marks (λ m h. (c.requires.none m).0 h) in
    let nothing : length c.args.found.now.items ≡ 0 = ap length c.requires.empty in
    omega (arith, g.count, g.len, all, nothing)

pub returns-clause-reached : goal.returns-clause-reached
returns-clause-reached c = λ k.
    let g = c.args.graph.now in
    let sources = c.args.sources.now in
    let f = c.in_ok-mark_targets.ensures in
    let s = c.in_ok-close.ensures in
    let first = c.mark_targets.new.found.items in
    let found = c.close.new.found.items in
    let extra : first ≡ f.grows.extra = f.grows.grown ∙ ap (λ l. l ++ f.grows.extra) c.requires.empty in (
      λ h. reached_all g sources first s.grows.extra (λ m n. f.grows.only m (subst (λ l. Has l m) extra n)) s.grows.only k (has_split first s.grows.extra k (subst (λ l. Has l k) s.grows.grown h)),
      λ r. complete g sources found s.closed (λ j m h t. kept c.mark_targets.new.marks.items c.close.new.marks.items first found (λ m. (j : ℕ) × Has first j × Chain (Steps g) j m) s.grows m (f.there j m h t)) k r,
    )
