use Rattle.std.proofs.Common.{◌≡◌, ℕ, suc, ◌+◌, ◌<◌, ◌≤◌, List, [], ◌∷◌, ◌++◌, length, sym, ap, subst, ◌∙◌, rules, arith}
use Rattle.number_graph.specs.Graphs.{rows_of, targets_of}
use Rattle.number_graph.proofs.Rows.{row_at as row_of}
use Rattle.sim_flat.specs.declared.instances.Instance.{Instance}
use Rattle.sim_flat.specs.Rows.{row_at, rows_inside, kinds_at, AreRows, HaveDepth}
use Rattle.sim_flat.specs.Sizes.{sum_from}
use Rattle.std.proofs.lemmas.List.{length_push}
use Rattle.sim_flat.proofs.Grown.{grown_deep, rows_grow}
use Rattle.sim_flat.proofs.Sizing.{sums_grow}
use Rattle.sim_flat.proofs.instances.add_next.Goals as goal

pub returns-clause-deeper : goal.returns-clause-deeper
returns-clause-deeper c =
    let rows = c.args.all.now.rows.items in
    subst (λ (l : List Instance). HaveDepth l (length rows) (length l) c.args.depth) (sym c.in_ok-add_inside.ensures) (grown_deep rows c.len-around.result c.args.depth c.kinds_at.result.now)

pub returns-clause-rows : goal.returns-clause-rows
returns-clause-rows c = λ top r.
    let rows = c.args.all.now.rows.items in
    let first = c.args.all.now.first.items in
    let kinds = c.args.kinds.now in
    let k = c.len-around.result in
    let ks = c.kinds_at.result.now in
    let is : k ≡ length first = search rules in
    let low : k < length rows = omega (arith, is, c.requires.left) in
    let deep : (row_at rows k).depth + 1 ≡ c.args.depth = ap (λ n. (row_at rows n).depth + 1) is ∙ c.requires.depth in
    let are : ks ≡ kinds_at (rows_of kinds) (row_at rows k).kind = c.kinds_at.ensures ∙ ap (λ n. targets_of kinds n) (c.kind_of-kind.ensures ∙ ap (λ (l : List Instance). (row_at l k).kind) c.deref.ensures.value) ∙ sym (row_of kinds (row_at rows k).kind) in
    let firsts : c.push.new.self.items ≡ first ++ length rows ∷ [] = search rules in
    subst (λ (l : List ℕ). AreRows (rows_of kinds) top c.add_inside.new.rows.items l) (sym firsts)
    (subst (λ (l : List Instance). AreRows (rows_of kinds) top l (first ++ length rows ∷ [])) (sym c.in_ok-add_inside.ensures)
    (rows_grow rows k c.args.depth ks (rows_of kinds) first top r (sym is) low deep are))

pub returns-clause-sums : goal.returns-clause-sums
returns-clause-sums c = λ own counts a.
    let rows = c.args.all.now.rows.items in
    let first = c.args.all.now.first.items in
    let kinds = c.args.kinds.now in
    let k = c.len-around.result in
    let ks = c.kinds_at.result.now in
    let is : k ≡ length first = search rules in
    let low : k < length rows = omega (arith, is, c.requires.left) in
    let are : ks ≡ kinds_at (rows_of kinds) (row_at rows k).kind = c.kinds_at.ensures ∙ ap (λ n. targets_of kinds n) (c.kind_of-kind.ensures ∙ ap (λ (l : List Instance). (row_at l k).kind) c.deref.ensures.value) ∙ sym (row_of kinds (row_at rows k).kind) in
    let firsts : c.push.new.self.items ≡ first ++ length rows ∷ [] = search rules in
    let count : length (first ++ length rows ∷ []) ≡ length first + 1 = length_push first (length rows) in
    let next : suc k ≡ length (first ++ length rows ∷ []) = omega (arith, is, count) in
    subst (λ (l : List ℕ). sum_from own counts rows (length first) ≤ sum_from own counts c.add_inside.new.rows.items (length l)) (sym firsts)
    (subst (λ (l : List Instance). sum_from own counts rows (length first) ≤ sum_from own counts l (length (first ++ length rows ∷ []))) (sym c.in_ok-add_inside.ensures)
    (subst (λ n. sum_from own counts rows (length first) ≤ sum_from own counts (rows ++ rows_inside k c.args.depth 0 ks) n) next
    (subst (λ n. sum_from own counts rows n ≤ sum_from own counts (rows ++ rows_inside k c.args.depth 0 ks) (suc k)) is
    (sums_grow rows k c.args.depth ks (rows_of kinds) low are own counts a))))
