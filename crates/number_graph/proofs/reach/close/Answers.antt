use Rattle.std.proofs.Common.{rules, arith, ◌≡◌, ◌<◌, ◌≤◌, ◌+◌, [], ℕ, List, length, get_or, sym, ap, subst, ◌∙◌}
use Rattle.tapa_base.specs.Lists.{Has, Chain}
use Rattle.number_graph.specs.Graphs.{Steps}
use Rattle.number_graph.specs.Marks.{unset}
use Rattle.std.proofs.lemmas.List.{get_or_default}
use Rattle.tapa_base.proofs.Lists.{has_split}
use Rattle.number_graph.proofs.Numbers.{at_has, has_at}
use Rattle.number_graph.proofs.Marking.{grows_both, closed_on, reached_on}
use Rattle.number_graph.proofs.reach.close.Goals as goal

pub returns-then-next-len-clause-closed : goal.returns-then-next-len-clause-closed
returns-then-next-len-clause-closed c = λ i m h s.
    let found = c.loop-next.found.items in
    let w = has_at found i h in
    let most : length found ≤ c.loop-next.next = search rules in
    let low : w.0 < length found = w.1 in
    c.loop-next.invariant.closed w.0 (omega (arith, most)) low m (subst (λ n. Steps c.args.graph.now n m) (sym w.2) s)

pub returns-clause-closed : goal.returns-clause-closed
returns-clause-closed c = λ i m h s.
    let found = c.loop-next.found.items in
    let w = has_at found i h in
    let g = c.loop-next.invariant.grows in
    let all : length found + unset c.loop-next.marks.items ≡ length c.args.marks.now.items = g.count ∙ c.requires.count in
    let over : length c.args.marks.now.items ≤ c.loop-next.next = search rules in
    let low : w.0 < length found = w.1 in
    c.loop-next.invariant.closed w.0 (omega (arith, all, over)) low m (subst (λ n. Steps c.args.graph.now n m) (sym w.2) s)

pub returns-in_err-mark_all-clause-grows : goal.returns-in_err-mark_all-clause-grows
returns-in_err-mark_all-clause-grows c =
    let g = c.args.graph.now in
    let first = c.args.found.now.items in
    let found = c.loop-next.found.items in
    let before = c.loop-next.invariant.grows in
    let low : c.loop-next.next < length found = search rules in
    let at : c.index-number.result.now ≡ get_or found c.loop-next.next 0 = c.index-number.ensures ∙ get_or_default found c.loop-next.next c.index-number.result.now 0 low in
    let numbers : c.targets.result.now ≡ get_or g (get_or found c.loop-next.next 0) [] = c.targets.ensures ∙ ap (λ n. get_or g n []) at in
    let from = has_split first before.extra (get_or found c.loop-next.next 0) (subst (λ l. Has l (get_or found c.loop-next.next 0)) before.grown (at_has found c.loop-next.next low)) in
    grows_both c.args.marks.now.items c.loop-next.marks.items c.mark_all.new.marks.items first found c.mark_all.new.found.items
    (λ m. (j : ℕ) × Has first j × Chain (Steps g) j m) (λ m. Has c.targets.result.now m) (λ m. (j : ℕ) × Has first j × Chain (Steps g) j m) (λ m h. h)
    (λ m h. reached_on g first before.extra (get_or found c.loop-next.next 0) m before.only from (subst (λ l. Has l m) numbers h)) before c.in_err-mark_all.ensures.grows

pub loop-next-preserved : goal.loop-next-preserved
loop-next-preserved c =
    let g = c.args.graph.now in
    let first = c.args.found.now.items in
    let found = c.loop-next.found.items in
    let next = c.loop-next.next in
    let before = c.loop-next.invariant.grows in
    let more = c.in_ok-mark_all.ensures in
    let low : next < length found = search rules in
    let at : c.index-number.result.now ≡ get_or found next 0 = c.index-number.ensures ∙ get_or_default found next c.index-number.result.now 0 low in
    let numbers : c.targets.result.now ≡ get_or g (get_or found next 0) [] = c.targets.ensures ∙ ap (λ n. get_or g n []) at in
    let from = has_split first before.extra (get_or found next 0) (subst (λ l. Has l (get_or found next 0)) before.grown (at_has found next low)) in
    record {
      grows = grows_both c.args.marks.now.items c.loop-next.marks.items c.mark_all.new.marks.items first found c.mark_all.new.found.items
          (λ m. (j : ℕ) × Has first j × Chain (Steps g) j m) (λ m. Has c.targets.result.now m) (λ m. (j : ℕ) × Has first j × Chain (Steps g) j m) (λ m h. h)
          (λ m h. reached_on g first before.extra (get_or found next 0) m before.only from (subst (λ l. Has l m) numbers h)) before more.grows;
      closed = λ i lt le m s.
          subst (λ l. Has l m) (sym more.grows.grown)
          (closed_on (Steps g) found more.grows.extra next low c.loop-next.invariant.closed
          (λ k t. subst (λ l. Has l k) more.grows.grown (more.there k (subst (λ l. Has l k) (sym numbers) t))) i lt
          (subst (λ (l : List ℕ). i < length l) more.grows.grown le) m (subst (λ (l : List ℕ). Steps g (get_or l i 0) m) more.grows.grown s));
    }
