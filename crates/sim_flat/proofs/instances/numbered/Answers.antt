use Rattle.std.proofs.Common.{◌≡◌, ℕ, List, length, map, sym, ap, subst, ◌∙◌}
use Rattle.std.proofs.lemmas.List.{length-map}
use Rattle.vlog_tree.specs.declared.table.Declaration.{Declaration}
use Rattle.vlog_tree.specs.Table.{module_declared}
use Rattle.number_graph.specs.Graphs.{rows_of}
use Rattle.number_graph.proofs.Rows.{rows_len}
use Rattle.sim_flat.specs.Kinds.{kind_place, all_kinds, module_kinds}
use Rattle.sim_flat.specs.Rows.{AreRows, HaveDepth}
use Rattle.sim_flat.specs.Sizes.{CountsWithin}
use Rattle.sim_flat.proofs.instances.numbered.Goals as goal

pub returns-clause-rows : goal.returns-clause-rows
returns-clause-rows c =
    let ms = c.args.modules.now in
    let rows = c.in_ok-all.all.rows.items in
    let first = c.in_ok-all.all.first.items in
    let names = c.requires in
    let items : rows_of c.deref.result.now ≡ rows_of c.in_ok-kinds.kinds.items = ap (λ l. rows_of l) c.deref.ensures.value in
    let k = items ∙ c.in_ok-kinds.ensures ∙ ap (λ (ds : List Declaration). all_kinds ds ms) names in
    let p = c.place_of-place.ensures ∙ ap (λ (ds : List Declaration). kind_place ds c.args.top.now) names in
    subst (λ (ks : List (List ℕ)). AreRows ks (kind_place (map module_declared ms) c.args.top.now) rows first) k
    (subst (λ n. AreRows (rows_of c.deref.result.now) n rows first) p c.in_ok-all.ensures.rows)

pub returns-clause-deepest : goal.returns-clause-deepest
returns-clause-deepest c =
    let ms = c.args.modules.now in
    let kinds = c.in_ok-kinds.kinds.items in
    let items : length c.deref.result.now ≡ length kinds = ap length c.deref.ensures.value in
    let e : length c.deref.result.now ≡ length ms = items ∙ sym (rows_len kinds) ∙ ap length c.in_ok-kinds.ensures ∙ length-map ms (module_kinds c.args.names.now) in
    subst (λ n. HaveDepth c.in_ok-all.all.rows.items (length c.in_ok-all.all.first.items) (length c.in_ok-all.all.rows.items) n) e c.in_ok-all.ensures.deepest

pub returns-clause-counted : goal.returns-clause-counted
returns-clause-counted c =
    let ms = c.args.modules.now in
    let rows = c.in_ok-all.all.rows.items in
    let first = c.in_ok-all.all.first.items in
    let names = c.requires in
    let items : rows_of c.deref.result.now ≡ rows_of c.in_ok-kinds.kinds.items = ap (λ l. rows_of l) c.deref.ensures.value in
    let k = items ∙ c.in_ok-kinds.ensures ∙ ap (λ (ds : List Declaration). all_kinds ds ms) names in
    let p = c.place_of-place.ensures ∙ ap (λ (ds : List Declaration). kind_place ds c.args.top.now) names in
    subst (λ (ks : List (List ℕ)). CountsWithin ks (kind_place (map module_declared ms) c.args.top.now) rows (length first)) k
    (subst (λ n. CountsWithin (rows_of c.deref.result.now) n rows (length first)) p c.in_ok-all.ensures.counted)
