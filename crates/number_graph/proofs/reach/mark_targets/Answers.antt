use Rattle.std.proofs.Common.{◌<◌, ℕ, length, get_or, sym, subst}
use Rattle.tapa_base.specs.Lists.{Has}
use Rattle.number_graph.specs.Graphs.{Steps}
use Rattle.number_graph.proofs.Numbers.{at_has}
use Rattle.number_graph.proofs.Marking.{grows_both, kept, taken_of}
use Rattle.number_graph.proofs.reach.mark_targets.Goals as goal

pub returns-in_err-mark_all-clause-grows : goal.returns-in_err-mark_all-clause-grows
returns-in_err-mark_all-clause-grows c =
    let g = c.args.graph.now in
    let i = c.loop-source.source-index in
    let sources = c.args.sources.now in
    let at = at_has sources i c.loop-source-test.true in
    grows_both c.args.marks.now.items c.loop-source.marks.items c.mark_all.new.marks.items c.args.found.now.items c.loop-source.found.items c.mark_all.new.found.items
    (λ m. (j : ℕ) × Has sources j × Steps g j m) (λ m. Has c.targets.result.now m) (λ m. (j : ℕ) × Has sources j × Steps g j m) (λ m h. h)
    (λ m h. (get_or sources i 0, at, subst (λ l. Has l m) c.targets.ensures h)) c.loop-source.invariant.grows c.in_err-mark_all.ensures.grows

pub loop-source-preserved : goal.loop-source-preserved
loop-source-preserved c =
    let g = c.args.graph.now in
    let i = c.loop-source.source-index in
    let sources = c.args.sources.now in
    let low : i < length sources = c.loop-source-test.true in
    let at = at_has sources i low in
    let more = c.in_ok-mark_all.ensures in
    record {
      grows = grows_both c.args.marks.now.items c.loop-source.marks.items c.mark_all.new.marks.items c.args.found.now.items c.loop-source.found.items c.mark_all.new.found.items
          (λ m. (j : ℕ) × Has sources j × Steps g j m) (λ m. Has c.targets.result.now m) (λ m. (j : ℕ) × Has sources j × Steps g j m) (λ m h. h)
          (λ m h. (get_or sources i 0, at, subst (λ l. Has l m) c.targets.ensures h)) c.loop-source.invariant.grows more.grows;
      there = λ j h.
          taken_of sources i (λ n. (m : ℕ) → Steps g n m → Has c.mark_all.new.found.items m) low
          (λ n k m s. kept c.loop-source.marks.items c.mark_all.new.marks.items c.loop-source.found.items c.mark_all.new.found.items (λ m. Has c.targets.result.now m) more.grows m (c.loop-source.invariant.there n k m s))
          (λ m s. more.there m (subst (λ l. Has l m) (sym c.targets.ensures) s)) j h;
    }
