use Rattle.std.proofs.Common.{◌≡◌, ◌≤◌, ℕ, List, get_or, map, sym, ap, subst, ◌∙◌, arith}
use Rattle.vlog_tree.specs.Form.{ModuleTree}
use Rattle.vlog_tree.specs.Table.{Name, module_declared}
use Rattle.number_graph.specs.Graphs.{rows_of}
use Rattle.sim_flat.specs.Kinds.{kind_place}
use Rattle.sim_flat.specs.Numbering.{names_at}
use Rattle.sim_flat.proofs.Sizing.{is_counted, names_got}
use Rattle.sim_flat.proofs.sizes.sizes_of.Goals as goal

pub returns : goal.returns
returns c =
    let ms = c.args.design.now.modules in
    let tables = c.args.tables.now in
    let here = c.modules-modules.ensures.value in
    let named_here : c.names-names.result.now ≡ map module_declared c.modules-modules.result.now = c.names-names.ensures ∙ ap (λ (l : List ModuleTree). map module_declared l) (sym here) in
    let place = c.place_of-top.ensures ∙ ap (λ (x : Name). kind_place c.names-names.result.now x) c.name.ensures in
    let items : rows_of c.deref-2.result.now ≡ rows_of c.in_ok-kinds.kinds.items = ap (λ l. rows_of l) c.deref-2.ensures.value in
    let items_again : rows_of c.deref-5.result.now ≡ rows_of c.in_ok-kinds.kinds.items = ap (λ l. rows_of l) c.deref-5.ensures.value in
    let one : (k : ℕ) → get_or c.deref-3.result.now k 0 ≤ 1 = λ k. subst (λ (l : List ℕ). get_or l k 0 ≤ 1) (sym c.deref-3.ensures.value) (c.in_ok-ones.ensures k) in
    let named : (k : ℕ) → get_or c.deref-6.result.now k 0 ≡ names_at tables k = λ k. ap (λ (l : List ℕ). get_or l k 0) (c.deref-6.ensures.value ∙ c.in_ok-lengths.ensures) ∙ names_got tables k in
    record {
      instances = λ m at.
          let same : c.top.result.now ≡ m = cc (c.top.ensures, at) in
          is_counted ms c.modules-modules.result.now m c.top.result.now c.names-names.result.now (rows_of c.deref-2.result.now) (rows_of c.in_ok-kinds.kinds.items) c.place_of-top.result c.count_at.result
          (λ k. get_or c.deref-3.result.now k 0) (λ k. 1) c.in_ok-instances.instances.items here named_here c.in_ok-kinds.ensures items c.in_ok-instances.ensures one place same
          (c.count_at.ensures ∙ ap (λ (l : List ℕ). get_or l c.place_of-top.result 0) c.deref-8.ensures.value);
      nets = λ m at.
          let same : c.top.result.now ≡ m = cc (c.top.ensures, at) in
          is_counted ms c.modules-modules.result.now m c.top.result.now c.names-names.result.now (rows_of c.deref-5.result.now) (rows_of c.in_ok-kinds.kinds.items) c.place_of-top.result c.count_at-2.result
          (λ k. get_or c.deref-6.result.now k 0) (names_at tables) c.in_ok-nets.nets.items here named_here c.in_ok-kinds.ensures items_again c.in_ok-nets.ensures
          (λ k. let e : get_or c.deref-6.result.now k 0 ≡ names_at tables k = named k in omega (arith, e)) place same
          (c.count_at-2.ensures ∙ ap (λ (l : List ℕ). get_or l c.place_of-top.result 0) c.deref-9.ensures.value);
    }
